-- The selection list: subject, feature and child of each i[f]j, in record order.
use Rattle.std.specs.Prelude.{ℕ, ◌<◌, ◌≤◌, length, get_or, List, ◌≡◌}
use Rattle.fields.specs.Fields.{variable, feature}
use Rattle.fields.specs.Limits.{most_variables, most_items}
use Rattle.selections.specs.declared.listed.Selection.{Selection}

-- i[f]j as one of the list
abbrev pub selection_of : ℕ → ℕ → ℕ → Selection
selection_of i f j = record { subject = variable i; feature = feature f; child = variable j }

-- one of the list
abbrev pub selection_at : List Selection → ℕ → Selection
selection_at list k = get_or list k (selection_of 0 0 0)

-- the subject of one of the list
abbrev pub subject_at : List Selection → ℕ → ℕ
subject_at list k = (selection_at list k).subject.0

-- a list no longer than there may be records, that names variables below n
pub record Selections (n : ℕ) (list : List Selection) : Type 0 where
  pub few : n ≤ most_variables
  pub short : length list ≤ most_items
  pub subject_below : (k : ℕ) → k < length list → subject_at list k < n
  pub child_below : (k : ℕ) → k < length list → (selection_at list k).child.0 < n

-- i[f]j is in the list
pub record Listed (list : List Selection) (i f j : ℕ) : Type 0 where
  pub at : ℕ
  pub in_list : at < length list
  pub subject : subject_at list at ≡ i
  pub feature : (selection_at list at).feature.0 ≡ f
  pub child : (selection_at list at).child.0 ≡ j
