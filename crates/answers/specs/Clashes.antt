-- What is told of F5, whatever statements have these spreads of labels.
use Rattle.std.specs.Prelude.{ℕ, Bool, false, List, [], ◌∷◌, ◌++◌, Option, ◌≡◌}
use Rattle.items.specs.declared.items.Statement.{Statement}
use Rattle.items.specs.Statements.{AllName}
use Rattle.rules.specs.declared.clashes.Clash.{Clash}
use Rattle.rules.specs.Stated.{labelling}
use Rattle.rules.specs.Tables.{facts}
use Rattle.rules.specs.Derived.{derived}
use Rattle.rules.specs.Clashes.{clash_in_row, clash_in_rows, clashes}
use Rattle.labels.specs.declared.spread.Spread.{Spread}
use Rattle.labels.specs.Labels.{LabelsStand}

-- the first clash of row i
pub record RowTold (n : ℕ) (t : List ℕ) (spreads : List Spread) (i : ℕ) (r : Option Clash) : Type 0 where
  pub told : (st : List Statement) → LabelsStand n st spreads → r ≡ clash_in_row n 0 st (facts n t) i

-- the first clash of all rows
pub record ClashTold (n : ℕ) (t : List ℕ) (spreads : List Spread) (r : Option Clash) : Type 0 where
  pub told : (st : List Statement) → LabelsStand n st spreads → r ≡ clash_in_rows n 0 n st (facts n t)

-- whether consistent statements, of which t has the facts, clash with the label a of i behind them
pub record LabelClashTold (n : ℕ) (t : List ℕ) (spreads : List Spread) (i a : ℕ) (r : Bool) : Type 0 where
  pub told : (st : List Statement) → LabelsStand n st spreads → AllName n st → t ≡ derived st n
      → clashes st n ≡ false → r ≡ clashes (st ++ (labelling i a ∷ [])) n
