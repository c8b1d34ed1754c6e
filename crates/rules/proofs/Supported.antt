-- What support rests on, the selection or the label that shows it, and what carries it over.
use Prim.Native.Nat.{ℕ, ◌<◌}
use mathlib.Core.Bool.{true}
use mathlib.Core.List.{List}
use mathlib.Core.Path.{◌≡◌, refl, sym, subst}
use Rattle.fields.proofs.Choice.{is_same, same_true}
use Rattle.items.specs.declared.items.Statement.{Statement}
use Rattle.items.specs.Statements.{Names}
use Rattle.rules.specs.Stated.{selection, labelling, Stated}
use Rattle.rules.specs.declared.kinds.Kind.{Kind}
use Rattle.rules.specs.Facts.{Relation, Holds}
use Rattle.rules.specs.Support.{under_child, over_child, under_label, supported}
use Rattle.rules.proofs.Logic.{both, first_of_and, second_of_and}
use Rattle.rules.proofs.Some.{by_selection_at, by_labelling, one_selection_at, one_labelling}

module _ {st : List Statement} (r : Relation) where
  -- k[f]m with k ≤ i and j ≤ m
  pub under_by : {i f j k m : ℕ} → Stated st (selection k f m) → Holds r Kind.Ordered k i → Holds r Kind.Ordered j m
      → under_child st r i f j ≡ true
  unfolding under_child
  under_by {i} {f} s p q = by_selection_at f _ _ s p q

  -- k[f]m with i ≤ k and m ≤ j
  pub over_by : {i f j k m : ℕ} → Stated st (selection k f m) → Holds r Kind.Ordered i k → Holds r Kind.Ordered m j
      → over_child st r i f j ≡ true
  unfolding over_child
  over_by {i} {f} s p q = by_selection_at f _ _ s p q

  -- a(k) with k ≤ i
  pub label_by : {i a k : ℕ} → Stated st (labelling k a) → Holds r Kind.Ordered k i → under_label st r i a ≡ true
  unfolding under_label
  label_by {i} {a} s p = by_labelling _ s (both (is_same a a refl) p)

module _ {C : Type 0} (st : List Statement) (r : Relation) where
  pub under_of : (i f j : ℕ) → under_child st r i f j ≡ true
      → ((k m : ℕ) → Stated st (selection k f m) → Holds r Kind.Ordered k i → Holds r Kind.Ordered j m → C) → C
  unfolding under_child
  under_of i f j p next = one_selection_at st f _ _ p next

  pub over_of : (i f j : ℕ) → over_child st r i f j ≡ true
      → ((k m : ℕ) → Stated st (selection k f m) → Holds r Kind.Ordered i k → Holds r Kind.Ordered m j → C) → C
  unfolding over_child
  over_of i f j p next = one_selection_at st f _ _ p next

  pub label_under : (i a : ℕ) → under_label st r i a ≡ true
      → ((k : ℕ) → Stated st (labelling k a) → Holds r Kind.Ordered k i → C) → C
  unfolding under_label
  label_under i a p next =
      one_labelling st _ p λ k b s q.
      next k (subst (λ x. Stated st (labelling k x)) (sym (same_true a b (first_of_and _ _ q))) s) (second_of_and _ _ q)

-- what carries support from one structure, its statements st' and facts r', to another, for questions over n variables
pub record Carries (n : ℕ) (st' : List Statement) (r' : Relation) (st : List Statement) (r : Relation) : Type 0 where
  pub pairs : (kind : Kind) (i j : ℕ) → i < n → j < n → Holds r' kind i j → Holds r kind i j
  pub unders : (i f j k m : ℕ) → i < n → j < n → Stated st' (selection k f m)
      → Holds r' Kind.Ordered k i → Holds r' Kind.Ordered j m → under_child st r i f j ≡ true
  pub overs : (i f j k m : ℕ) → i < n → j < n → Stated st' (selection k f m)
      → Holds r' Kind.Ordered i k → Holds r' Kind.Ordered m j → over_child st r i f j ≡ true
  pub labels : (i a k : ℕ) → i < n → Stated st' (labelling k a) → Holds r' Kind.Ordered k i
      → under_label st r i a ≡ true

module _ {n : ℕ} {st' st : List Statement} {r' r : Relation} (c : Carries n st' r' st r) where
  pub carried : (q : Statement) → Names n q → supported st' r' q ≡ true → supported st r q ≡ true
  unfolding supported
  carried (Statement.Ordering i j) h p = c.pairs Kind.Ordered i.0 j.0 h.0 h.1 p
  carried (Statement.Compatibility i j) h p = c.pairs Kind.Compatible i.0 j.0 h.0 h.1 p
  carried (Statement.Selection i f j) h p =
      both
      (under_of st' r' i.0 f.0 j.0 (first_of_and _ _ p) λ k m s a b.
      c.unders i.0 f.0 j.0 k m h.0 h.1 s a b)
      (over_of st' r' i.0 f.0 j.0 (second_of_and _ _ p) λ k m s a b.
      c.overs i.0 f.0 j.0 k m h.0 h.1 s a b)
  carried (Statement.Labelling i a) h p =
      label_under st' r' i.0 a.0 p λ k s b.
      c.labels i.0 a.0 k h s b
