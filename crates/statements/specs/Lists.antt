-- The lists in which statements stand: pairs, selections and labels.
use Rattle.std.specs.Prelude.{ℕ, ◌+◌, ◌*◌, ◌≤◌, length, replicate, List, [], ◌∷◌, ◌++◌, Ok, ◌≡◌}
use Rattle.std.specs.Prelude.{Option, option_map, unwrap_or}
use Rattle.fields.specs.declared.numbers.Cursor.{Cursor}
use Rattle.fields.specs.Limits.{most_variables, most_items}
use Rattle.sheet.specs.declared.headers.Header.{Header}
use Rattle.items.specs.declared.items.Statement.{Statement}
use Rattle.items.specs.Statements.{AllName}
use Rattle.sheet.specs.Sheets.{accepted, read_sheet}
use Rattle.selections.specs.Listed.{selection_of, Selections, Listed}
use Rattle.selections.specs.Stands.{SelectionsStand}
use Rattle.labels.specs.declared.spread.Spread.{Spread}
use Rattle.labels.specs.Labels.{LabelsStand, spreads_with}
use Rattle.derivation.specs.Stands.{pair_of, Pairs, PairsStand}
use Rattle.statements.specs.declared.lists.Lists.{Lists}

-- as many pairs as records can state: two each
abbrev pub pairs_room : ℕ
pairs_room = 2 * most_items

-- lists with one pair more, with one selection more, with one label more
abbrev pub with_pair : Lists → ℕ → ℕ → ℕ → Lists
with_pair x cell i j = record x { pairs = record { items = x.pairs.items ++ (pair_of cell i j ∷ []) } }

abbrev pub with_selection : Lists → ℕ → ℕ → ℕ → Lists
with_selection x i f j =
    record x { selections = record { items = x.selections.items ++ (selection_of i f j ∷ []) } }

abbrev pub with_label : Lists → ℕ → ℕ → Lists
with_label x i a = record x { labels = record { spreads = spreads_with x.labels.spreads i a } }

-- nothing stands in them
pub record AreEmpty (x : Lists) : Type 0 where
  pub pairs : x.pairs.items ≡ []
  pub selections : x.selections.items ≡ []
  pub labels : x.labels.spreads ≡ replicate most_variables Spread.Nothing

-- the statements st are those that stand in lawful lists
pub record Stand (n : ℕ) (st : List Statement) (x : Lists) : Type 0 where
  pub lawful_pairs : Pairs n x.pairs.items
  pub pairs_stand : PairsStand st x.pairs.items
  pub lawful_selections : Selections n x.selections.items
  pub selections_stand : SelectionsStand n st (Listed x.selections.items)
  pub labelled : LabelsStand n st x.labels.spreads

-- how many pairs and selections a statement is
abbrev pub pairs_in : Statement → ℕ
pairs_in (Statement.Ordering i j) = 1
pairs_in (Statement.Compatibility i j) = 1
pairs_in (Statement.Selection i f j) = 0
pairs_in (Statement.Labelling i a) = 0

abbrev pub selections_in : Statement → ℕ
selections_in (Statement.Ordering i j) = 0
selections_in (Statement.Compatibility i j) = 0
selections_in (Statement.Selection i f j) = 1
selections_in (Statement.Labelling i a) = 0

-- how many a statement is that may be there
abbrev pub pairs_if : Option Statement → ℕ
pairs_if q = unwrap_or (option_map pairs_in q) 0

abbrev pub selections_if : Option Statement → ℕ
selections_if q = unwrap_or (option_map selections_in q) 0

-- statements can be put into the lists: they name variables that there may be, and there is room for so many pairs and
-- selections more
pub record Putting (added : List Statement) (pairs selections : ℕ) (x : Lists) : Type 0 where
  pub named : AllName most_variables added
  pub pairs_fit : length x.pairs.items + pairs ≤ pairs_room
  pub selections_room : length x.selections.items + selections ≤ most_items

-- they stand behind those that did
pub record Put (added : List Statement) (pairs selections : ℕ) (x y : Lists) : Type 0 where
  pub stand : (n : ℕ) (st : List Statement) → AllName n added → Stand n st x → Stand n (st ++ added) y
  pub more_pairs : length y.pairs.items ≤ length x.pairs.items + pairs
  pub more_selections : length y.selections.items ≤ length x.selections.items + selections

-- an accepted sheet
pub record Gathering (s : List ℕ) (h : Header) : Type 0 where
  pub asked : Cursor
  pub accepted : read_sheet s ≡ Ok (accepted h asked)
