-- Labels of which none is told.
use Rattle.std.specs.Prelude.{◌≡◌, Option, None}
use Prim.Native.Nat.{ℕ, zero, suc}
use lib.ListN.{get_or, replicate}
use mathlib.Core.List.{List}
use mathlib.Core.Option.{none}
use mathlib.Core.Path.{refl, ap, ◌∙◌}
use Rattle.fields.specs.declared.numbers.Label.{Label}
use Rattle.fields.specs.Limits.{most_variables}
use Rattle.labels.specs.declared.roots.RootLabels.{RootLabels}
use Rattle.labels.specs.Roots.{Unlabelled, label_in, root_at}

abbrev nowhere : ℕ → List (Option Label)
nowhere m = replicate m None

none_of : (m i : ℕ) → get_or (nowhere m) i None ≡ None
none_of zero i = refl
none_of (suc m) zero = refl
none_of (suc m) (suc i) = none_of m i

pub none_filled : {r : RootLabels} → Unlabelled r → (i : ℕ) → get_or r.at i None ≡ None
none_filled u i = ap (λ at. get_or at i None) u.is ∙ none_of most_variables i

pub none_told : {r : RootLabels} → Unlabelled r → (i : ℕ) → root_at r i ≡ none
none_told u i = ap label_in (none_filled u i)
