-- A ranked structure has least trees of bounded depth: no path of a variable's tree is longer than its rank.
use Prim.Native.Nat.{ℕ, ◌≤◌}
use mathlib.Core.List.{List, [], ◌∷◌}
use lib.ListN.{length}
use native.Mathlib.Omega.{arith}
use Rattle.items.specs.declared.items.Statement.{Statement}
use Rattle.rules.specs.Facts.{Relation}
use Rattle.trees.specs.Trees.{Present, Path}
use Rattle.trees.proofs.Structures.{Laws}
use Rattle.trees.proofs.Sets.{In, step, walk, least, one_in, step_in, root_in}
use Rattle.trees.proofs.Extensions.{Ranked}

module _ {n : ℕ} {st : List Statement} {r : Relation} (L : Laws n st r) (K : Ranked st r) where
  -- some variable of the set has a rank as great as the path is long
  walk_depth : {C : Type 0} (p : Path) (set : List ℕ) → Present (walk st r p set)
      → ((k : ℕ) → In st r k set → length p ≤ K.rank k → C) → C
  walk_depth [] set x next = root_in L set x (λ k u. next k u (omega arith))
  walk_depth (f ∷ p) set x next =
      walk_depth p (step st r f set) x λ k u h.
      step_in L u λ k' m s w l.
      next k' w (omega (arith, K.rises l, K.falls s))

  pub least_depth : (i : ℕ) (p : Path) → Present (least st r i p) → length p ≤ K.rank i
  least_depth i p x = walk_depth p (i ∷ []) x (λ k u h. one_in L u (λ l. omega (arith, K.rises l)))
