-- The labels told of variables, as they are kept: one each, or none.
use Rattle.std.specs.Prelude.{ℕ, get_or, replicate, Option, None, Some, ◌≡◌}
use Rattle.std.proofs.Math.Option.{Option as Maybe, none, some}
use Rattle.fields.specs.declared.numbers.Label.{Label}
use Rattle.fields.specs.Limits.{most_variables}
use Rattle.labels.specs.declared.roots.RootLabels.{RootLabels}

-- none is told of any
pub record Unlabelled (labels : RootLabels) : Type 0 where
  pub is : labels.at ≡ replicate most_variables None

-- its number, as the rules tell it
abbrev pub label_in : Option Label → Maybe ℕ
label_in None = none
label_in (Some a) = some a.0

-- that of i
abbrev pub root_at : RootLabels → ℕ → Maybe ℕ
root_at labels i = label_in (get_or labels.at i None)
