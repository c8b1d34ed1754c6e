-- The variables that a path leads to: what shows a step, that equal sets lead to equal sets, and that all that a path leads
-- to is compatible.
use Prim.Native.Nat.{ℕ, ◌<◌, ◌≤◌}
use mathlib.Core.Bool.{Bool, true}
use mathlib.Core.List.{List, [], ◌∷◌}
use mathlib.Core.Path.{◌≡◌}
use native.Mathlib.Omega.{arith}
use Rattle.items.specs.declared.items.Statement.{Statement}
use Rattle.items.specs.Statements.{AllName}
use Rattle.rules.specs.Stated.{selection, Stated}
use Rattle.rules.specs.declared.kinds.Kind.{Kind}
use Rattle.rules.specs.Facts.{Relation, Holds, Closed}
use Rattle.rules.specs.Tables.{facts}
use Rattle.rules.specs.Derived.{derived, facts_of}
use Rattle.rules.specs.Paths.{step, along, at_path}
use Rattle.rules.proofs.Logic.{same_tests}
use Rattle.rules.proofs.Some.{by_selection_at, one_selection_at}
use Rattle.rules.proofs.Tables.{fact_row, fact_column}
use Rattle.rules.proofs.Derived.{derived_closed}

-- what lies below compatible variables is compatible: F3.2 on both sides
pub compatible_under : {n : ℕ} {st : List Statement} {R : Kind → ℕ → ℕ → Type 0} → Closed n st R → {i j k l : ℕ}
    → R Kind.Ordered k i → R Kind.Compatible i j → R Kind.Ordered l j → R Kind.Compatible k l
compatible_under c {i} {j} {k} {l} p h q =
    c.symmetric l k (c.through Kind.Compatible l j k q (c.symmetric k j (c.through Kind.Compatible k i j p h)))

module _ (st : List Statement) (r : Relation) where
  -- x[f]y with x in the set and k ≤ y
  pub step_by : (set : ℕ → Bool) {f k x y : ℕ} → Stated st (selection x f y) → set x ≡ true → Holds r Kind.Ordered k y
      → step st r f set k ≡ true
  unfolding step
  step_by set {f} {k} s p q = by_selection_at f (λ x y. set x) (λ x y. r Kind.Ordered k y) s p q

  pub step_of : {C : Type 0} (f k : ℕ) (set : ℕ → Bool) → step st r f set k ≡ true
      → ((x y : ℕ) → Stated st (selection x f y) → set x ≡ true → Holds r Kind.Ordered k y → C) → C
  unfolding step
  step_of f k set p next = one_selection_at st f (λ x y. set x) (λ x y. r Kind.Ordered k y) p next

  -- equal sets
  step_same : (f : ℕ) {set other : ℕ → Bool} → ((k : ℕ) → set k ≡ other k) → (k : ℕ)
      → step st r f set k ≡ step st r f other k
  step_same f {set} {other} same k =
      same_tests _ _
      (λ p. step_of f k set p λ x y s q l. step_by other s (rw (← same x) q) l)
      (λ p. step_of f k other p λ x y s q l. step_by set s (rw (same x) q) l)

  pub along_same : (p : List ℕ) {set other : ℕ → Bool} → ((k : ℕ) → set k ≡ other k) → (k : ℕ)
      → along st r p set k ≡ along st r p other k
  along_same [] same k = same k
  along_same (f ∷ p) same k = along_same p (step_same f same) k

  -- an empty set leads to none
  along_empty : (p : List ℕ) (set : ℕ → Bool) → ((k : ℕ) → set k ≡ true → ⊥) → (k : ℕ) → along st r p set k ≡ true → ⊥
  along_empty [] set none k q = none k q
  along_empty (f ∷ p) set none k q =
      along_empty p (step st r f set) (λ x h. step_of f x set h λ y z s h' l. none y h') k q

  -- what is compatible leads to what is
  abbrev pub Together : (ℕ → Bool) → Type 0
  Together set = (k l : ℕ) → set k ≡ true → set l ≡ true → Holds r Kind.Compatible k l

  along_together : {n : ℕ} → Closed n st (Holds r) → (p : List ℕ) (set : ℕ → Bool) → Together set
      → Together (along st r p set)
  along_together c [] set t = t
  along_together c (f ∷ p) set t =
      along_together c p (step st r f set) λ k l u w.
      step_of f k set u λ x y s q h.
      step_of f l set w λ x' y' s' q' h'.
      compatible_under c h (c.descends Kind.Compatible f x y x' y' s (t x x' q q') s') h'

module _ (st : List Statement) (n : ℕ) (t : List ℕ) where
  -- a path leads to variables
  along_inside : (p : List ℕ) (set : ℕ → Bool) → ((k : ℕ) → set k ≡ true → k < n) → (k : ℕ)
      → along st (facts n t) p set k ≡ true → k < n
  along_inside [] set inside k q = inside k q
  along_inside (f ∷ p) set inside k q =
      along_inside p (step st (facts n t) f set)
      (λ x h. step_of st (facts n t) f x set h λ y z s h' l. fact_row n t Kind.Ordered x z l) k q

  pub path_inside : (i : ℕ) (p : List ℕ) (k : ℕ) → at_path st (facts n t) i p k ≡ true → k < n
  unfolding at_path
  path_inside i p k q = along_inside p _ (λ x h. fact_row n t Kind.Ordered x i h) k q

  -- from variables alone
  pub path_beyond : (i : ℕ) (p : List ℕ) → n ≤ i → (k : ℕ) → at_path st (facts n t) i p k ≡ true → ⊥
  unfolding at_path
  path_beyond i p beyond k q =
      along_empty st (facts n t) p _
      (λ x h. absurd (omega (arith, beyond, fact_column n t Kind.Ordered x i h))) k q

module _ (n : ℕ) (st : List Statement) (names : AllName n st) where
  -- all that a path leads to is compatible
  pub path_together : (i : ℕ) (p : List ℕ) → Together st (facts_of st n) (at_path st (facts_of st n) i p)
  unfolding at_path
  path_together i p =
      let c = derived_closed n st names in
      along_together st (facts_of st n) c p _ λ k l u w.
      compatible_under c u (c.reflexive Kind.Compatible i (fact_column n (derived st n) Kind.Ordered k i u)) w
