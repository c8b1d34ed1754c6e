-- What is told of labels at roots, whatever statements, of which t has the facts, have these spreads of labels.
use Rattle.std.specs.Prelude.{ℕ, ◌<◌, ◌≤◌, length, Bool, false, List, Option, None, ◌≡◌, get_or}
use Rattle.fields.specs.declared.numbers.Label.{Label}
use Rattle.fields.specs.Limits.{most_variables}
use Rattle.fields.specs.Tests.{pick}
use Rattle.items.specs.declared.items.Statement.{Statement}
use Rattle.items.specs.Statements.{AllName}
use Rattle.items.specs.Questions.{Query}
use Rattle.sheet.specs.Sheets.{sheet}
use Rattle.rules.specs.Tables.{facts}
use Rattle.rules.specs.Derived.{derived}
use Rattle.rules.specs.Clashes.{clashes}
use Rattle.rules.specs.Roots.{label_below, root_label}
use Rattle.labels.specs.declared.roots.RootLabels.{RootLabels}
use Rattle.labels.specs.declared.spread.Spread.{Spread}
use Rattle.labels.specs.Spreads.{spread_at, only_label}
use Rattle.labels.specs.Roots.{label_in, root_at}
use Rattle.labels.specs.Labels.{LabelsStand}

-- the one label of k, where k is in a set
abbrev pub label_from : (ℕ → Bool) → List Spread → ℕ → Option Label
label_from set spreads k = pick (set k) (only_label (spread_at spreads k)) None

-- that of i, where the statements are consistent
pub record BelowTold (n : ℕ) (t : List ℕ) (spreads : List Spread) (i : ℕ) (r : Option Label) : Type 0 where
  pub told : (st : List Statement) → LabelsStand n st spreads → AllName n st → t ≡ derived st n
      → clashes st n ≡ false → label_in r ≡ label_below st (facts n t) i

-- those of the variables below m, and no other
pub record Filling (n : ℕ) (t : List ℕ) (spreads : List Spread) (m : ℕ) (at : List (Option Label)) : Type 0 where
  pub size : length at ≡ most_variables
  pub told : (i : ℕ) → i < m → BelowTold n t spreads i (get_or at i None)
  pub others : (i : ℕ) → m ≤ i → get_or at i None ≡ None

-- what is told of the sheet that states them, whatever it asks
pub record RootsTold (n : ℕ) (t : List ℕ) (spreads : List Spread) (r : RootLabels) : Type 0 where
  pub told : (st : List Statement) (asked : List Query) → LabelsStand n st spreads → AllName n st → t ≡ derived st n
      → (i : ℕ) → root_at r i ≡ root_label (sheet n st asked) i
