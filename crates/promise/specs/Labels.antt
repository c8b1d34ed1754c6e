-- A label that is told, as a number, and what it means of trees.
use Rattle.std.specs.Prelude.{ℕ, zero, suc, ◌+◌, ◌<◌, ◌↔◌, ◌≡◌, Result}
use Rattle.std.proofs.Math.Option.{Option, none, some}
use Rattle.fields.specs.declared.refusals.Refusal.{Refusal}
use Rattle.sheet.specs.declared.whole.Accepted.{Accepted}
use Rattle.sheet.specs.Sheets.{Sheet}
use Rattle.trees.specs.Assignments.{Counts}
use Rattle.trees.specs.Demand.{Met, LabelIs}
use Rattle.trees.specs.Trees.{Path}
use Rattle.promise.specs.Promise.{IsAccepted}

-- the number that C gets: 0 for none, else 1 + the label
abbrev pub label_number : Option ℕ → ℕ
label_number none = 0
label_number (some a) = 1 + a

-- and what such a number tells
abbrev pub label_of_number : ℕ → Option ℕ
label_of_number zero = none
label_of_number (suc a) = some a

-- label a has to be at the path p of i: the bytes are a sheet, i is one of its variables, some assignment counts, and each
-- that does has it there
pub record MustHave (read : Result Accepted Refusal) (s : Sheet) (i : ℕ) (p : Path) (a : ℕ) : Type 0 where
  pub accepted : IsAccepted read
  pub variable : i < s.n
  pub met : Met (Counts s)
  pub everywhere : LabelIs (Counts s) i p a

-- what is told is true, of the labels that must be: a label exactly where it must, none exactly where none must, and never two
pub record LabelMeans (Must : ℕ → Type 0) (told : Option ℕ) : Type 0 where
  pub label : (a : ℕ) → (told ≡ some a) ↔ Must a
  pub dash : (told ≡ none) ↔ ((a : ℕ) → Must a → ⊥)
  pub one : (a c : ℕ) → Must a → Must c → a ≡ c
