-- What a check of any bytes leaves to be printed, where the lent buffers are long enough.
use Rattle.std.specs.Prelude.{ℕ, length, List, ◌≡◌}
use Rattle.sheet.specs.Headers.{most_replies}
use Rattle.sheet.specs.Sheets.{read_sheet, sheet_of}
use Rattle.labels.specs.declared.roots.RootLabels.{RootLabels}
use Rattle.labels.specs.Roots.{root_at}
use Rattle.outcomes.specs.declared.outcomes.Outcome.{Outcome}
use Rattle.promise.specs.Checks.{written, replies_after}
use Rattle.promise.specs.Roots.{label_told}
use Rattle.lines.specs.Lines.{outcome_told}

-- the outcome, the labels, and a reply buffer over what was in it before
pub record Told (b : List ℕ) (o : Outcome) (labels : RootLabels) (replies : List ℕ) : Type 0 where
  pub before : List ℕ
  pub outcome : o ≡ outcome_told b
  pub labelled : (i : ℕ) → root_at labels i ≡ label_told (read_sheet b) (sheet_of b) i
  pub replied : replies ≡ written (read_sheet b) (sheet_of b) replies_after before
  pub room : length replies ≡ most_replies
