-- What a path leads to: an assignment that keeps the statements has it at the path, and the least solution has nothing
-- else there.
use Prim.Native.Nat.{ℕ, ◌<◌}
use mathlib.Core.Bool.{Bool, true}
use mathlib.Core.List.{List, [], ◌∷◌}
use mathlib.Core.Path.{◌≡◌, refl, sym, subst, ◌∙◌}
use Rattle.items.specs.declared.items.Statement.{Statement}
use Rattle.rules.specs.declared.kinds.Kind.{Kind}
use Rattle.rules.specs.Facts.{Relation, Holds}
use Rattle.rules.specs.Stated.{labelling, Stated}
use Rattle.rules.specs.Paths.{step as step_along, along, at_path}
use Rattle.rules.proofs.Lists.{named, all_one}
use Rattle.rules.proofs.Paths.{step_by, step_of}
use Rattle.trees.specs.Trees.{Node, labelled, Present, Path, Tree, Below}
use Rattle.trees.specs.Assignments.{Assignment, Satisfies, SatisfiesAll}
use Rattle.trees.proofs.Structures.{Laws, left_variable}
use Rattle.trees.proofs.Nodes.{child_below, related_through}
use Rattle.trees.proofs.Sets.{In, step, root_of, walk, least, one_in, step_in, root_in, root_label}

-- y is present where x is, and has its label
abbrev pub NodeBelow : Node → Node → Type 0
NodeBelow x y = (Present x → Present y) × ((a : ℕ) → x ≡ labelled a → y ≡ labelled a)

-- an assignment that keeps the statements and is true to the order has what the path leads to
module _ (st : List Statement) (r : Relation) (v : Assignment) (kept : SatisfiesAll v st)
    (true_to : (i j : ℕ) → Holds r Kind.Ordered i j → Below (v i) (v j)) where
  -- each variable of the set has a tree below t
  abbrev Under : (ℕ → Bool) → Tree → Type 0
  Under set t = (k : ℕ) → set k ≡ true → Below (v k) t

  step_under : (f : ℕ) (set : ℕ → Bool) (t : Tree) → Under set t → Under (step_along st r f set) (λ p. t (f ∷ p))
  step_under f set t h k q =
      step_of st r f k set q λ x y s u l.
      related_through Kind.Ordered (v k) (v y) _ (true_to k y l) (child_below (all_one (Satisfies v) st kept s) (h x u))

  along_under : (p : Path) (set : ℕ → Bool) (t : Tree) → Under set t → (k : ℕ) → along st r p set k ≡ true
      → NodeBelow (v k []) (t p)
  along_under [] set t h k q = ((h k q).paths [], (h k q).labels [])
  along_under (f ∷ p) set t h k q = along_under p (step_along st r f set) (λ w. t (f ∷ w)) (step_under f set t h) k q

  -- the root of what a path leads to is below the node at the path
  pub path_under : (i : ℕ) (p : Path) (k : ℕ) → at_path st r i p k ≡ true → NodeBelow (v k []) (v i p)
  unfolding at_path
  path_under i p k q = along_under p _ (v i) (λ x h. true_to x i h) k q

-- the least solution has nothing else, where u has the structure's order of variables
module _ {n : ℕ} {st : List Statement} {r : Relation} (L : Laws n st r) (u : Relation)
    (carry : (k m : ℕ) → k < n → Holds r Kind.Ordered k m → Holds u Kind.Ordered k m) where
  -- all of the set are variables that pass the test
  abbrev Passing : List ℕ → (ℕ → Bool) → Type 0
  Passing set test = (k : ℕ) → In st r k set → (k < n) × (test k ≡ true)

  below_passing : (k m : ℕ) → m < n → Holds r Kind.Ordered k m → (k < n) × Holds u Kind.Ordered k m
  below_passing k m h q = let b = left_variable L Kind.Ordered q h in (b, carry k m b q)

  step_passing : (f : ℕ) (set : List ℕ) (test : ℕ → Bool) → Passing set test
      → Passing (step st r f set) (step_along st u f test)
  step_passing f set test h k w =
      step_in L w λ x m s w' q.
      let below = below_passing k m (named n st L.fit s).1 q in
      (below.0, step_by st u test s (h x w').1 below.1)

  -- a set with x at its root, all of it variables that pass the test
  record Root (x : Node) (test : ℕ → Bool) : Type 0 where
    set : List ℕ
    root : x ≡ root_of st r set
    passing : Passing set test

  walk_root : (p : Path) (set : List ℕ) (test : ℕ → Bool) → Passing set test
      → Root (walk st r p set) (along st u p test)
  walk_root [] set test h = record { set = set; root = refl; passing = h }
  walk_root (f ∷ p) set test h = walk_root p (step st r f set) (step_along st u f test) (step_passing f set test h)

  least_root : (i : ℕ) → i < n → (p : Path) → Root (least st r i p) (at_path st u i p)
  unfolding at_path
  least_root i h p = walk_root p (i ∷ []) _ (λ k w. one_in L w (below_passing k i h))

  -- where it has a path, the path leads to a variable; where it has a label there, to one of which the label is stated
  pub least_path : {C : Type 0} (i : ℕ) → i < n → (p : Path) → Present (least st r i p)
      → ((k : ℕ) → k < n → at_path st u i p k ≡ true → C) → C
  least_path i h p x next =
      let end = least_root i h p in
      root_in L end.set (subst Present end.root x) λ k w.
      next k (end.passing k w).0 (end.passing k w).1

  pub least_label_at : {C : Type 0} (i : ℕ) → i < n → (p : Path) (a : ℕ) → least st r i p ≡ labelled a
      → ((k : ℕ) → Stated st (labelling k a) → at_path st u i p k ≡ true → C) → C
  least_label_at i h p a e next =
      let end = least_root i h p in
      root_label L end.set (sym end.root ∙ e) λ k s w.
      next k s (end.passing k w).1
