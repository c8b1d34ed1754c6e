-- When the run-time test of what a question asks may be left out.
use Rattle.std.specs.Prelude.{ℕ, List, ◌≡◌}
use Rattle.std.proofs.Math.Option.{some}
use Rattle.items.specs.Questions.{Query}
use Rattle.sheet.specs.Numbered.{question_in}
use Rattle.sheet.specs.Sheets.{read_sheet, sheet_of}
use Rattle.trees.specs.Assignments.{Keeps, Counts}
use Rattle.trees.specs.Demand.{Met, Every}
use Rattle.promise.specs.Promise.{IsAccepted}

-- the bytes are a sheet, some assignment meets it, it has a question k, and every assignment that meets it keeps that
pub record MayDrop (b : List ℕ) (k : ℕ) : Type 0 where
  pub accepted : IsAccepted (read_sheet b)
  pub met : Met (Counts (sheet_of b))
  pub question : Query
  pub asked : question_in (sheet_of b).asked k ≡ some question
  pub kept : Every (Counts (sheet_of b)) λ v. Keeps v question
