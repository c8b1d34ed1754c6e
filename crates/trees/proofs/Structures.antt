-- A closed structure: statements and a set of facts that obey F1 to F5, whatever they come from.
use Prim.Native.Nat.{ℕ, ◌<◌}
use mathlib.Core.List.{List}
use mathlib.Core.Logic.{◌⊎◌, ⊎_elim}
use mathlib.Core.Path.{◌≡◌, sym, ap, subst}
use Rattle.fields.specs.Fields.{variable, feature, label}
use Rattle.items.specs.declared.items.Statement.{Statement}
use Rattle.items.specs.Statements.{AllName}
use Rattle.rules.specs.declared.kinds.Kind.{Kind}
use Rattle.rules.specs.Facts.{Relation, Holds, Closed}
use Rattle.rules.specs.Stated.{selection, labelling, Stated}
use Rattle.rules.proofs.Paths.{compatible_under}

-- the facts r are closed over n variables and F5 applies nowhere; every number is related to itself, and one that is no
-- variable to no other
pub record Laws (n : ℕ) (st : List Statement) (r : Relation) : Type 0 where
  pub fit : AllName n st
  pub closed : Closed n st (Holds r)
  pub self : (kind : Kind) (i : ℕ) → Holds r kind i i
  pub apart : (kind : Kind) (i j : ℕ) → Holds r kind i j → (i ≡ j) ⊎ ((i < n) × (j < n))
  -- F5
  pub labels_agree : (i j a b : ℕ)
      → Holds r Kind.Compatible i j → Stated st (labelling i a) → Stated st (labelling j b) → a ≡ b

-- the rules, their variables left to be found
module _ {n : ℕ} {st : List Statement} {r : Relation} (L : Laws n st r) where
  pub through : (kind : Kind) {i j k : ℕ} → Holds r Kind.Ordered i j → Holds r kind j k → Holds r kind i k
  through kind {i} {j} {k} p q = L.closed.through kind i j k p q

  pub symmetric : {i j : ℕ} → Holds r Kind.Compatible i j → Holds r Kind.Compatible j i
  symmetric {i} {j} p = L.closed.symmetric i j p

  pub descends : (kind : Kind) {f i i' j j' : ℕ}
      → Stated st (selection i f i') → Holds r kind i j → Stated st (selection j f j') → Holds r kind i' j'
  descends kind {f} {i} {i'} {j} {j'} s p s' = L.closed.descends kind f i i' j j' s p s'

  pub one_label : {i j a b : ℕ}
      → Holds r Kind.Compatible i j → Stated st (labelling i a) → Stated st (labelling j b) → a ≡ b
  one_label {i} {j} {a} {b} p s s' = L.labels_agree i j a b p s s'

-- a statement has one kind
abbrev pub IsSelection : Statement → Type 0
IsSelection (Statement.Ordering i j) = ⊥
IsSelection (Statement.Compatibility i j) = ⊥
IsSelection (Statement.Selection i f j) = Unit {0}
IsSelection (Statement.Labelling i a) = ⊥

abbrev pub IsLabelling : Statement → Type 0
IsLabelling (Statement.Ordering i j) = ⊥
IsLabelling (Statement.Compatibility i j) = ⊥
IsLabelling (Statement.Selection i f j) = ⊥
IsLabelling (Statement.Labelling i a) = Unit {0}

pub is_selection : {z : Statement} {i f j : ℕ} → z ≡ selection i f j → IsSelection z
is_selection e = subst IsSelection (sym e) tt

pub is_labelling : {z : Statement} {i a : ℕ} → z ≡ labelling i a → IsLabelling z
is_labelling e = subst IsLabelling (sym e) tt

-- equal statements have equal numbers
pub same_selection : {C : Type 0} {x g y i f j : ℕ} → selection x g y ≡ selection i f j
    → (x ≡ i → g ≡ f → y ≡ j → C) → C
same_selection {C} {x} {g} {y} {i} {f} {j} e next =
    let subjects : variable x ≡ variable i = cc in
    let features : feature g ≡ feature f = cc in
    let children : variable y ≡ variable j = cc in
    next (ap (λ v. v.0) subjects) (ap (λ v. v.0) features) (ap (λ v. v.0) children)

pub same_labelling : {C : Type 0} {x b i a : ℕ} → labelling x b ≡ labelling i a → (x ≡ i → b ≡ a → C) → C
same_labelling {C} {x} {b} {i} {a} e next =
    let subjects : variable x ≡ variable i = cc in
    let given : label b ≡ label a = cc in
    next (ap (λ v. v.0) subjects) (ap (λ v. v.0) given)

-- what is related to a variable is one
module _ {n : ℕ} {st : List Statement} {r : Relation} (L : Laws n st r) where
  pub left_variable : (kind : Kind) {i j : ℕ} → Holds r kind i j → j < n → i < n
  left_variable kind {i} {j} p h = ⊎_elim (λ e. subst (λ x. x < n) (sym e) h) (λ b. b.0) (L.apart kind i j p)

  pub right_variable : (kind : Kind) {i j : ℕ} → Holds r kind i j → i < n → j < n
  right_variable kind {i} {j} p h = ⊎_elim (λ e. subst (λ x. x < n) e h) (λ b. b.1) (L.apart kind i j p)

  -- F3.2 on the right, and on both sides
  pub compatible_right : {i j k : ℕ} → Holds r Kind.Compatible i j → Holds r Kind.Ordered k j
      → Holds r Kind.Compatible i k
  compatible_right {i} h p = compatible_under L.closed (L.self Kind.Ordered i) h p

  pub compatible_below : {i j k l : ℕ} → Holds r Kind.Ordered k i → Holds r Kind.Compatible i j
      → Holds r Kind.Ordered l j
      → Holds r Kind.Compatible k l
  compatible_below p h q = compatible_under L.closed p h q
