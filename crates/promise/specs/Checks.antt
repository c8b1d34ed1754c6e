-- What a check of any bytes gives, and what it leaves in the lent buffers.
use Rattle.std.specs.Prelude.{ℕ, length, drop, replicate, List, ◌++◌, map, ◌≡◌, Result}
use Rattle.fields.specs.declared.refusals.Refusal.{Refusal}
use Rattle.sheet.specs.Headers.{size_for}
use Rattle.fields.specs.Fields.{then_value}
use Rattle.sheet.specs.declared.whole.Accepted.{Accepted}
use Rattle.sheet.specs.Sheets.{Sheet, sheet_of}
use Rattle.rules.specs.declared.verdicts.Verdict.{Verdict}
use Rattle.rules.specs.Derived.{facts_of}
use Rattle.rules.specs.Tables.{table_bytes}
use Rattle.rules.specs.Verdicts.{verdict_of}
use Rattle.rules.specs.Replies.{replies_of, reply_number}
use Rattle.outcomes.specs.declared.outcomes.Outcome.{Outcome}
use Rattle.outcomes.specs.Closed.{outcome_by}
use Rattle.outcomes.specs.Judged.{judged}
use Rattle.outcomes.specs.Outcomes.{packed}

-- of a sheet
abbrev pub sheet_outcome : Sheet → Outcome
sheet_outcome s = outcome_by s.n (facts_of s.stated s.n) (verdict_of s)

abbrev pub of_refusal : Refusal → Outcome
of_refusal r = Outcome.Refused r.fault r.at

-- the outcome
unfoldable pub outcome_of : List ℕ → ℕ → ℕ → ℕ → Outcome
outcome_of b facts work replies =
    then_value (judged b facts work replies) of_refusal λ a. sheet_outcome (sheet_of b)

-- the first bytes of a buffer written over, and the others as they were
abbrev pub over : List ℕ → List ℕ → List ℕ
over first buffer = first ++ drop (length first) buffer

-- written where the sheet is consistent, else as it was
unfoldable pub where_consistent : Verdict → List ℕ → List ℕ → List ℕ
where_consistent Verdict.Consistent written buffer = written
where_consistent (Verdict.Clash clash) written buffer = buffer

-- of an accepted sheet: the first table holds the derived facts, on a clash too
abbrev pub facts_after : Sheet → List ℕ → List ℕ
facts_after s facts = over (table_bytes s.n (facts_of s.stated s.n)) facts

-- the second table is cleared where the sheet is consistent
abbrev pub work_after : Sheet → List ℕ → List ℕ
work_after s work = where_consistent (verdict_of s) (over (replicate (size_for s.n) 0) work) work

-- and there is then one reply a question
abbrev pub replies_after : Sheet → List ℕ → List ℕ
replies_after s replies = where_consistent (verdict_of s) (over (map reply_number (replies_of s)) replies) replies

-- what a buffer holds: as it was where the call is refused
abbrev pub written : Result Accepted Refusal → Sheet → (Sheet → List ℕ → List ℕ) → List ℕ → List ℕ
written read s after buffer = then_value read (λ r. buffer) (λ a. after s buffer)

-- every lent byte afterwards
pub record Written (b facts work replies facts' work' replies' : List ℕ) : Type 0 where
  pub facts_are : facts' ≡ written (judged b (length facts) (length work) (length replies)) (sheet_of b) facts_after facts
  pub work_is : work' ≡ written (judged b (length facts) (length work) (length replies)) (sheet_of b) work_after work
  pub replies_are : replies'
      ≡ written (judged b (length facts) (length work) (length replies)) (sheet_of b) replies_after replies

-- the result and every lent byte
pub record Checked (b facts work replies facts' work' replies' : List ℕ) (r : Outcome) : Type 0 where
  pub outcome : r ≡ outcome_of b (length facts) (length work) (length replies)
  pub buffers : Written b facts work replies facts' work' replies'

-- the same of the packed number
pub record Returned (b facts work replies facts' work' replies' : List ℕ) (r : ℕ) : Type 0 where
  pub number : r ≡ packed (outcome_of b (length facts) (length work) (length replies))
  pub buffers : Written b facts work replies facts' work' replies'
