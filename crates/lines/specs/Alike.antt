-- Two sheets of which the same is told.
use Rattle.std.specs.Prelude.{ℕ, ◌<◌, ◌≡◌, List}
use Rattle.sheet.specs.Sheets.{Sheet, sheet_of}
use Rattle.rules.specs.Roots.{root_label}
use Rattle.rules.specs.Replies.{replies_of}
use Rattle.outcomes.specs.declared.outcomes.Outcome.{Outcome}
use Rattle.outcomes.specs.Outcomes.{kind_of, first_of, second_of}
use Rattle.lines.specs.Lines.{outcome_told}

-- two sheets have the same outcome, and where they are consistent, as many variables, the same labels and replies
pub record Alike (s s' : Sheet) (o o' : Outcome) : Type 0 where
  pub kind : kind_of o ≡ kind_of o'
  pub first : first_of o ≡ first_of o'
  pub second : second_of o ≡ second_of o'
  pub variables : kind_of o ≡ 0 → s.n ≡ s'.n
  pub labels : kind_of o ≡ 0 → (i : ℕ) → i < s.n → root_label s i ≡ root_label s' i
  pub replies : kind_of o ≡ 0 → replies_of s ≡ replies_of s'

-- the same is told of two inputs
abbrev pub SameTold : List ℕ → List ℕ → Type 0
SameTold b b' = Alike (sheet_of b) (sheet_of b') (outcome_told b) (outcome_told b')
