-- The tree of a set of variables: the set is what lies below one of a list, and a path takes it to its children's set.
use Prim.Native.Nat.{ℕ}
use mathlib.Core.Bool.{Bool, true, false≢true}
use mathlib.Core.List.Memᴰ
use mathlib.Core.List.{List, [], ◌∷◌}
use mathlib.Core.Option.{Option}
use mathlib.Core.Path.{◌≡◌, refl, ap, subst}
use Rattle.items.specs.declared.items.Statement.{Statement}
use Rattle.rules.specs.declared.kinds.Kind.{Kind}
use Rattle.rules.specs.Facts.{Relation, Holds}
use Rattle.rules.specs.Stated.{selection, labelling, Stated, any, first_label}
use Rattle.rules.proofs.Some.{any_by, any_one}
use Rattle.rules.proofs.Labels.{first_from, first_found}
use Rattle.trees.specs.Trees.{Node, absent, labelled, Present, Path}
use Rattle.trees.specs.Assignments.{Assignment}
use Rattle.trees.proofs.Structures.{one_label, Laws}
use Rattle.trees.proofs.Nodes.{present_label}
use Rattle.trees.proofs.Lookups.{children_at, node_of, child_from, child_found, node_present, node_label}

module _ (st : List Statement) (r : Relation) where
  -- k is in the set
  abbrev pub under : ℕ → List ℕ → Bool
  under k set = any (λ g. r Kind.Ordered k g) set

  pub record In (k : ℕ) (set : List ℕ) : Type 0 where
    pub holds : under k set ≡ true

  -- the children at f of the variables in the set
  unfoldable pub step : ℕ → List ℕ → List ℕ
  step f set = children_at f (λ k. under k set) st

  -- the first label stated in the set
  abbrev pub label_of : List ℕ → Option ℕ
  label_of set = first_label st (λ k. under k set)

  -- without a generator nothing, else a node with that label or bare
  abbrev pub root_of : List ℕ → Node
  root_of [] = absent
  root_of (g ∷ set) = node_of (label_of (g ∷ set))

  -- what the set's tree has at a path
  abbrev pub walk : Path → List ℕ → Node
  walk [] set = root_of set
  walk (f ∷ p) set = walk p (step f set)

  -- the least solution
  abbrev pub least : Assignment
  least i p = walk p (i ∷ [])

  -- what is in the one set is in the other
  abbrev pub Inside : List ℕ → List ℕ → Type 0
  Inside set other = (k : ℕ) → In k set → In k other

  -- what is in the one set is compatible with what is in the other
  abbrev pub Together : List ℕ → List ℕ → Type 0
  Together set other = (k l : ℕ) → In k set → In l other → Holds r Kind.Compatible k l

module _ {n : ℕ} {st : List Statement} {r : Relation} (L : Laws n st r) where
  -- the set of one variable
  pub in_one : {k i : ℕ} → Holds r Kind.Ordered k i → In st r k (i ∷ [])
  in_one {k} h = record { holds = any_by (λ g. r Kind.Ordered k g) _ (Memᴰ.head refl) h }

  pub one_in : {C : Type 0} {k i : ℕ} → In st r k (i ∷ []) → (Holds r Kind.Ordered k i → C) → C
  one_in {C} {k} {i} u next =
      any_one (λ g. r Kind.Ordered k g) (i ∷ []) u.holds λ x m h.
      next (subst (Holds r Kind.Ordered k) (Memᴰ.eq_of_singleton m) h)

  -- the set of the children
  pub in_step : {f k k' m : ℕ} {set : List ℕ} → Stated st (selection k' f m) → In st r k' set → Holds r Kind.Ordered k m
      → In st r k (step st r f set)
  unfolding step
  in_step {f} {k} s u h =
      record { holds = any_by (λ g. r Kind.Ordered k g) _ (child_found f _ st s u.holds) h }

  pub step_in : {C : Type 0} {f k : ℕ} {set : List ℕ} → In st r k (step st r f set)
      → ((k' m : ℕ) → Stated st (selection k' f m) → In st r k' set → Holds r Kind.Ordered k m → C) → C
  unfolding step
  step_in {C} {f} {k} {set} u next =
      any_one (λ g. r Kind.Ordered k g) _ u.holds λ m d h.
      child_from f (λ x. under st r x set) st d λ k' s q.
      next k' m s (record { holds = q }) h

  -- a root is present exactly where the set is not empty
  empty_in : {k : ℕ} → In st r k [] → ⊥
  unfolding any
  empty_in u = false≢true u.holds

  pub in_root : {k : ℕ} (set : List ℕ) → In st r k set → Present (root_of st r set)
  in_root [] u = absurd (empty_in u)
  in_root (g ∷ set) u = node_present (label_of st r (g ∷ set))

  pub root_in : {C : Type 0} (set : List ℕ) → Present (root_of st r set) → ((k : ℕ) → In st r k set → C) → C
  root_in [] h next = absurd h
  root_in (g ∷ set) h next =
      next g (record { holds = any_by (λ x. r Kind.Ordered g x) _ (Memᴰ.head refl) (L.self Kind.Ordered g) })

  -- a label at the root is stated of a variable in the set
  pub root_label : {C : Type 0} {a : ℕ} (set : List ℕ) → root_of st r set ≡ labelled a
      → ((k : ℕ) → Stated st (labelling k a) → In st r k set → C) → C
  root_label [] e next = absurd (present_label e)
  root_label (g ∷ set) e next =
      first_from _ st (node_label (label_of st r (g ∷ set)) e) λ k s p.
      next k s (record { holds = p })

  -- every label stated in a set that is compatible with itself is the root's
  pub label_root : {k a : ℕ} (set : List ℕ) → Together st r set set → Stated st (labelling k a) → In st r k set
      → root_of st r set ≡ labelled a
  label_root [] t s u = absurd (empty_in u)
  label_root {k} {a} (g ∷ set) t s u =
      first_found (λ x. under st r x (g ∷ set)) st s u.holds λ b e.
      first_from _ st e λ l s' p.
      subst (λ x. root_of st r (g ∷ set) ≡ labelled x) (one_label L (t l k (record { holds = p }) u) s' s) (ap node_of e)
