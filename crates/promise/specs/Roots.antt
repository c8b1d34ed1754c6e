-- The labels told of the roots of variables: of any bytes, and of any number of a variable.
use Rattle.std.specs.Prelude.{ℕ, [], ◌≡◌, Result}
use Rattle.std.proofs.Math.Option.{Option, none}
use Rattle.fields.specs.declared.refusals.Refusal.{Refusal}
use Rattle.fields.specs.Fields.{then_value}
use Rattle.sheet.specs.declared.whole.Accepted.{Accepted}
use Rattle.sheet.specs.Sheets.{Sheet}
use Rattle.rules.specs.Roots.{root_label}
use Rattle.labels.specs.declared.roots.RootLabels.{RootLabels}
use Rattle.labels.specs.Roots.{root_at}
use Rattle.promise.specs.Labels.{label_number, label_of_number, MustHave, LabelMeans}

-- told of i, where bytes are read so and give this sheet: none where they are refused
unfoldable pub label_told : Result Accepted Refusal → Sheet → ℕ → Option ℕ
label_told read s i = then_value read (λ r. none) λ a. root_label s i

-- the labels of all variables are what is told, and true
pub record LabelsTold (read : Result Accepted Refusal) (s : Sheet) (labels : RootLabels) : Type 0 where
  pub are : (i : ℕ) → root_at labels i ≡ label_told read s i
  pub mean : (i : ℕ) → LabelMeans (MustHave read s i []) (root_at labels i)

-- the number of one is, and true
pub record LabelReturned (read : Result Accepted Refusal) (s : Sheet) (i r : ℕ) : Type 0 where
  pub number : r ≡ label_number (label_told read s i)
  pub means : LabelMeans (MustHave read s i []) (label_of_number r)
