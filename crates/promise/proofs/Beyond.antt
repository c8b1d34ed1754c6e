-- What stands behind the longest sheet cannot change an outcome: a program need not read on.
use Rattle.fields.specs.declared.refusals.Refusal.{Refusal}
use Rattle.std.specs.Prelude.{Result, Ok, Err}
use Prim.Native.Nat.{ℕ, ◌+◌}
use lib.ListN.{take}
use mathlib.Core.List.{List}
use mathlib.Core.Path.{◌≡◌, refl}
use Rattle.sheet.specs.declared.whole.Accepted.{Accepted}
use Rattle.sheet.specs.Sheets.{read_sheet, longest}
use Rattle.sheet.proofs.Beyond.{beyond_unread, beyond_accepted}
use Rattle.outcomes.specs.Judged.{judged}
use Rattle.promise.specs.Checks.{outcome_of}

-- the outcome is that of the first bytes, one more than the longest sheet has: number and offset of a refusal too
pub beyond_outcome : (b : List ℕ) (facts work replies : ℕ)
    → outcome_of (take (longest + 1) b) facts work replies ≡ outcome_of b facts work replies
unfolding outcome_of judged
beyond_outcome b facts work replies = go (read_sheet b) refl
  where
    go : (r : Result Accepted Refusal) → read_sheet b ≡ r
        → outcome_of (take (longest + 1) b) facts work replies ≡ outcome_of b facts work replies
    go (Ok a) e = rw (beyond_accepted b a e) refl
    go (Err r) e = rw (beyond_unread b, e) refl
