-- What a path leads to, and what is told of it, whatever statements have their selections in the list.
use Rattle.std.specs.Prelude.{ℕ, Bool, false, List, Option, ◌≡◌}
use Rattle.fields.specs.declared.numbers.Label.{Label}
use Rattle.items.specs.declared.items.Statement.{Statement}
use Rattle.items.specs.Statements.{AllName}
use Rattle.rules.specs.Facts.{Relation}
use Rattle.rules.specs.Tables.{facts}
use Rattle.rules.specs.Derived.{derived}
use Rattle.rules.specs.Clashes.{clashes}
use Rattle.rules.specs.Paths.{at_path, path_supported}
use Rattle.rules.specs.Roots.{label_at}
use Rattle.rows.specs.Rows.{Members}
use Rattle.selections.specs.declared.listed.Selection.{Selection}
use Rattle.selections.specs.Listed.{Listed}
use Rattle.selections.specs.Stands.{SelectionsStand}
use Rattle.labels.specs.declared.spread.Spread.{Spread}
use Rattle.labels.specs.Labels.{LabelsStand}
use Rattle.labels.specs.Roots.{label_in}

-- the row of what a path leads to from i
pub record Walked (n : ℕ) (r : Relation) (list : List Selection) (i : ℕ) (p : List ℕ) (row : List ℕ) : Type 0 where
  pub told : (st : List Statement) → SelectionsStand n st (Listed list) → Members row (at_path st r i p)

-- whether it leads to a variable
pub record PathTold (n : ℕ) (t : List ℕ) (list : List Selection) (i : ℕ) (p : List ℕ) (has : Bool) : Type 0 where
  pub told : (st : List Statement) → SelectionsStand n st (Listed list) → has ≡ path_supported n st (facts n t) i p

-- the label there of statements that do not clash
pub record LabelTold (n : ℕ) (t : List ℕ) (list : List Selection) (spreads : List Spread) (i : ℕ) (p : List ℕ)
    (label : Option Label) : Type 0 where
  pub told : (st : List Statement) → SelectionsStand n st (Listed list) → LabelsStand n st spreads → AllName n st
      → t ≡ derived st n → clashes st n ≡ false → label_in label ≡ label_at st (facts n t) i p
