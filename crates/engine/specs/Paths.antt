-- The label told at a path of a sheet, and where the outcome says that it is.
use Rattle.std.specs.Prelude.{ℕ, false, List, Option as Found, ◌≡◌}
use Rattle.fields.specs.declared.numbers.Label.{Label}
use Rattle.sheet.specs.Numbered.{question_in}
use Rattle.sheet.specs.Sheets.{Sheet}
use Rattle.rules.specs.Roots.{path_label}
use Rattle.rules.specs.Clashes.{clashes}
use Rattle.labels.specs.Roots.{label_in}
use Rattle.outcomes.specs.declared.outcomes.Outcome.{Outcome}
use Rattle.promise.specs.Paths.{asked_label}
use Rattle.engine.specs.Roots.{label_where}

-- of a sheet whose labels do not clash
pub record PathLabelIs (s : Sheet) (i : ℕ) (p : List ℕ) (label : Found Label) : Type 0 where
  pub is : clashes s.stated s.n ≡ false → label_in label ≡ path_label s i p

-- of its question k
pub record PathLabelBy (o : Outcome) (s : Sheet) (k : ℕ) (label : Found Label) : Type 0 where
  pub is : label_in label ≡ label_where o (asked_label s (question_in s.asked k))
