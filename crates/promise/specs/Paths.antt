-- The label told at the path that a question asks for: of any bytes and buffers, and of any number of a question.
use Rattle.std.specs.Prelude.{ℕ, ◌+◌, ◌*◌, ◌/◌, length, List, ◌≡◌, Result}
use Rattle.std.proofs.Math.Option.{Option, none, some}
use Rattle.fields.specs.declared.refusals.Refusal.{Refusal}
use Rattle.fields.specs.declared.numbers.Variable.{Variable}
use Rattle.fields.specs.Fields.{then_value}
use Rattle.items.specs.Questions.{Query, holds, has_path}
use Rattle.sheet.specs.declared.whole.Accepted.{Accepted}
use Rattle.sheet.specs.Numbered.{question_in}
use Rattle.sheet.specs.Sheets.{Sheet, sheet_of}
use Rattle.rules.specs.Roots.{path_label}
use Rattle.trees.specs.Trees.{Path}
use Rattle.outcomes.specs.Outcomes.{packed}
use Rattle.outcomes.specs.Judged.{judged}
use Rattle.promise.specs.Checks.{outcome_of, Written}
use Rattle.promise.specs.Labels.{label_number, label_of_number, MustHave, LabelMeans}

-- of a question: only one for a path has a label
abbrev pub asked_label : Sheet → Option Query → Option ℕ
asked_label s none = none
asked_label s (some (holds x)) = none
asked_label s (some (has_path i p)) = path_label s i.0 p

-- told of question k, where bytes are read so and give this sheet: none where they are refused
unfoldable pub path_label_told : Result Accepted Refusal → Sheet → ℕ → Option ℕ
path_label_told read s k = then_value read (λ r. none) λ a. asked_label s (question_in s.asked k)

-- question k asks for a path of a variable, where label a has to be
pub record MustHaveAsked (read : Result Accepted Refusal) (s : Sheet) (k a : ℕ) : Type 0 where
  pub subject : Variable
  pub path : Path
  pub asked : question_in s.asked k ≡ some (has_path subject path)
  pub must : MustHave read s subject.0 path a

-- the label is what is told, and true
pub record PathLabelTold (read : Result Accepted Refusal) (s : Sheet) (k : ℕ) (label : Option ℕ) : Type 0 where
  pub is : label ≡ path_label_told read s k
  pub means : LabelMeans (MustHaveAsked read s k) label

-- the number that C gets: that of the outcome, and above it that of the label
unfoldable pub with_label : ℕ → Option ℕ → ℕ
with_label number label = number + 1099511627776 * label_number label

-- the label in such a number
abbrev pub label_in_number : ℕ → Option ℕ
label_in_number r = label_of_number (r / 1099511627776)

-- the number, its label, and every lent byte
pub record PathReturned (b facts work replies facts' work' replies' : List ℕ) (k r : ℕ) : Type 0 where
  pub number : r
      ≡ with_label (packed (outcome_of b (length facts) (length work) (length replies)))
      (path_label_told (judged b (length facts) (length work) (length replies)) (sheet_of b) k)
  pub label : PathLabelTold (judged b (length facts) (length work) (length replies)) (sheet_of b) k (label_in_number r)
  pub buffers : Written b facts work replies facts' work' replies'
