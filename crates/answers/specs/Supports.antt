-- What is told of support, whatever statements have their selections in the list and these spreads of labels.
use Rattle.std.specs.Prelude.{ℕ, ◌<◌, Bool, false, ◌&&◌, List, Option, None, Some, ◌≡◌}
use Rattle.fields.specs.declared.numbers.Label.{Label}
use Rattle.fields.specs.Tests.{same}
use Rattle.items.specs.declared.items.Statement.{Statement}
use Rattle.rules.specs.declared.kinds.Kind.{Kind}
use Rattle.rules.specs.Facts.{Relation}
use Rattle.rules.specs.Tables.{facts}
use Rattle.rules.specs.Support.{under_label, supported}
use Rattle.selections.specs.declared.listed.Selection.{Selection}
use Rattle.selections.specs.Listed.{Listed}
use Rattle.selections.specs.Stands.{SelectionsStand}
use Rattle.labels.specs.declared.spread.Spread.{Spread}
use Rattle.labels.specs.Spreads.{spread_at, is_several}
use Rattle.labels.specs.Labels.{LabelsStand}

-- no variable has two different labels
pub record SingleLabels (n : ℕ) (spreads : List Spread) : Type 0 where
  pub single : (i : ℕ) → i < n → is_several (spread_at spreads i) ≡ false

-- a selection names variables below n
pub record IsSelection (n : ℕ) (s : Selection) : Type 0 where
  pub subject : s.subject.0 < n
  pub child : s.child.0 < n

-- upper is some k[f]m, and lower some i[f]j with k ≤ i and j ≤ m
abbrev pub is_under : Relation → Selection → Selection → Bool
is_under r upper lower =
    same upper.feature.0 lower.feature.0
    && (r Kind.Ordered upper.subject.0 lower.subject.0 && r Kind.Ordered lower.child.0 upper.child.0)

-- a label that may be there is a
abbrev pub is_label : Option Label → ℕ → Bool
is_label None a = false
is_label (Some b) a = same b.0 a

-- whether some k ≤ i has the label a
pub record LabelTold (n : ℕ) (t : List ℕ) (spreads : List Spread) (i a : ℕ) (r : Bool) : Type 0 where
  pub told : (st : List Statement) → LabelsStand n st spreads → r ≡ under_label st (facts n t) i a

pub record SupportTold (n : ℕ) (t : List ℕ) (list : List Selection) (spreads : List Spread) (q : Statement) (r : Bool)
    : Type 0 where
  pub told : (st : List Statement) → SelectionsStand n st (Listed list) → LabelsStand n st spreads
      → r ≡ supported st (facts n t) q
