-- Groups that were made of a selection list, the table that was derived with them, and what is known of both.
use Rattle.std.specs.Prelude.{ℕ, List, ◌≡◌}
use Rattle.sheet.specs.Headers.{size_for}
use Rattle.selections.specs.declared.grouped.Groups.{Groups}
use Rattle.selections.specs.declared.listed.Selection.{Selection}
use Rattle.selections.specs.Listed.{Selections}
use Rattle.selections.specs.Places.{Grouping}
use Rattle.labels.specs.declared.spread.Spread.{Spread}
use Rattle.derivation.specs.declared.pairs.Pair.{Pair}
use Rattle.derivation.specs.Stands.{Pairs, DerivedFrom}
use Rattle.closure.specs.declared.closed.Closed.{Closed}

-- lawful lists, and the size of a table for them
pub record Lawful (n : ℕ) (pairs : List Pair) (list : List Selection) (size : ℕ) : Type 0 where
  pub lawful_pairs : Pairs n pairs
  pub lawful_selections : Selections n list
  pub square : size ≡ size_for n

-- groups and a table, of lawful lists
pub record Made (n : ℕ) (pairs : List Pair) (list : List Selection) (groups : Groups) (t : List ℕ) : Type 0 where
  pub before : Groups
  pub grouping : Grouping n list before groups
  pub from : DerivedFrom n pairs groups t

-- of how many variables closed statements are, their table's bytes, their selections and the labels of each variable
abbrev pub variables_of : Closed → ℕ
variables_of c = c.table.now.n

abbrev pub table_of : Closed → List ℕ
table_of c = c.table.now.cells.now

abbrev pub spreads_of : Closed → List Spread
spreads_of c = c.labels.now.spreads
