-- The labels told of a sheet: a table that is to hold its facts, or holds them, and what a check has left.
use Rattle.std.specs.Prelude.{ℕ, ◌≤◌, List, Ok, Result, ◌≡◌}
use Rattle.std.proofs.Math.Option.{Option, none}
use Rattle.fields.specs.declared.numbers.Cursor.{Cursor}
use Rattle.fields.specs.declared.refusals.Refusal.{Refusal}
use Rattle.fields.specs.Fields.{then_value}
use Rattle.sheet.specs.declared.headers.Header.{Header}
use Rattle.sheet.specs.declared.whole.Accepted.{Accepted}
use Rattle.sheet.specs.Headers.{table_size}
use Rattle.sheet.specs.Sheets.{Sheet, accepted, read_sheet, sheet_of}
use Rattle.rules.specs.Derived.{derived}
use Rattle.rules.specs.Roots.{root_label}
use Rattle.labels.specs.declared.roots.RootLabels.{RootLabels}
use Rattle.labels.specs.Roots.{root_at}
use Rattle.outcomes.specs.declared.outcomes.Outcome.{Outcome}
use Rattle.promise.specs.Checks.{of_refusal, sheet_outcome, facts_after, written}

-- an accepted sheet, and the size of a table for it
pub record Deriving (b : List ℕ) (h : Header) (size : ℕ) : Type 0 where
  pub asked : Cursor
  pub read : read_sheet b ≡ Ok (accepted h asked)
  pub square : size ≡ table_size h

-- or of a buffer with room for one
pub record Roomy (b : List ℕ) (h : Header) (size : ℕ) : Type 0 where
  pub asked : Cursor
  pub read : read_sheet b ≡ Ok (accepted h asked)
  pub room : table_size h ≤ size

-- an accepted sheet, and the table of what follows from it
pub record Derived (b : List ℕ) (h : Header) (facts : List ℕ) : Type 0 where
  pub asked : Cursor
  pub read : read_sheet b ≡ Ok (accepted h asked)
  pub is : facts ≡ derived (sheet_of b).stated (sheet_of b).n

-- what a check leaves of bytes that are accepted or refused: the outcome, and the first table
pub record Left (b : List ℕ) (o : Outcome) (facts : List ℕ) : Type 0 where
  pub judged : Result Accepted Refusal
  pub reads : (a : Accepted) → judged ≡ Ok a → read_sheet b ≡ Ok a
  pub before : List ℕ
  pub outcome : o ≡ then_value judged of_refusal λ a. sheet_outcome (sheet_of b)
  pub facts_are : facts ≡ written judged (sheet_of b) facts_after before

-- the labels told of a sheet, and where the outcome says that they are
pub record RootsAre (s : Sheet) (labels : RootLabels) : Type 0 where
  pub are : (i : ℕ) → root_at labels i ≡ root_label s i

abbrev pub label_where : Outcome → Option ℕ → Option ℕ
label_where (Outcome.Consistent orderings compatibilities) told = told
label_where (Outcome.Clash i j) told = none
label_where (Outcome.Refused fault at) told = none

pub record RootsBy (o : Outcome) (s : Sheet) (labels : RootLabels) : Type 0 where
  pub are : (i : ℕ) → root_at labels i ≡ label_where o (root_label s i)
