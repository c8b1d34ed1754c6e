-- The labels stated for each variable, as they are kept: none, one, or several.
use Rattle.std.specs.Prelude.{ℕ, ◌<◌, length, set, Bool, not, List, ◌≡◌}
use Rattle.fields.specs.declared.numbers.Label.{Label}
use Rattle.fields.specs.Fields.{label}
use Rattle.fields.specs.Limits.{most_variables}
use Rattle.fields.specs.Tests.{same}
use Rattle.items.specs.declared.items.Statement.{Statement}
use Rattle.rules.specs.Connectives.{◌and◌}
use Rattle.rules.specs.Stated.{labelling, Stated, some_labelling}
use Rattle.rules.specs.Clashes.{labels_differ}
use Rattle.labels.specs.declared.spread.Spread.{Spread}
use Rattle.labels.specs.Spreads.{spread_at, with_labels}

-- a is a label of i, and no other is
pub record OnlyLabel (st : List Statement) (i a : ℕ) : Type 0 where
  pub stated : Stated st (labelling i a)
  pub only : (b : ℕ) → Stated st (labelling i b) → b ≡ a

-- two different labels of i
pub record TwoLabels (st : List Statement) (i : ℕ) : Type 0 where
  pub first : ℕ
  pub second : ℕ
  pub first_stated : Stated st (labelling i first)
  pub second_stated : Stated st (labelling i second)
  pub differs : first ≡ second → ⊥

-- a spread tells what st states of the labels of i
pub data LabelsAt (st : List Statement) (i : ℕ) : Spread → Type 0 where
  none : ((a : ℕ) → Stated st (labelling i a) → ⊥) → LabelsAt st i Spread.Nothing
  one : {a : Label} → OnlyLabel st i a.0 → LabelsAt st i (Spread.One a)
  several : TwoLabels st i → LabelsAt st i Spread.Several

-- spreads tell it of the variables below n
pub record LabelsStand (n : ℕ) (st : List Statement) (spreads : List Spread) : Type 0 where
  pub size : length spreads ≡ most_variables
  pub at : (i : ℕ) → i < n → LabelsAt st i (spread_at spreads i)

-- spreads with one label more, a of i
unfoldable pub spreads_with : List Spread → ℕ → ℕ → List Spread
spreads_with spreads i a = set spreads i (with_labels (spread_at spreads i) (Spread.One (label a)))

-- no label is stated by it
abbrev pub NoLabelling : Statement → Type 0
NoLabelling (Statement.Ordering i j) = Unit {0}
NoLabelling (Statement.Compatibility i j) = Unit {0}
NoLabelling (Statement.Selection i f j) = Unit {0}
NoLabelling (Statement.Labelling i a) = ⊥

-- a label of j other than a is stated
unfoldable pub other_stated : List Statement → ℕ → ℕ → Bool
other_stated st j a = some_labelling st λ y b. same j y and not (same a b)

-- what is told of other labels of j, and of different labels of i and j, whatever statements are kept so
pub record OtherTold (spreads : List Spread) (j a : ℕ) (r : Bool) : Type 0 where
  pub told : (n : ℕ) (st : List Statement) → LabelsStand n st spreads → j < n → r ≡ other_stated st j a

pub record DifferTold (spreads : List Spread) (i j : ℕ) (r : Bool) : Type 0 where
  pub told : (n : ℕ) (st : List Statement) → LabelsStand n st spreads → i < n → j < n → r ≡ labels_differ st i j
