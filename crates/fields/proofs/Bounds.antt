-- The limits of the code are those of the definitions.
use mathlib.Core.Path.{◌≡◌, refl}
use Rattle.fields.specs.declared.limits.TheConstants.{MOST_VARIABLES, MOST_ITEMS, MOST_FEATURES}
use Rattle.fields.specs.Limits.{most_variables, most_items, most_features}

pub limits_agree : (MOST_VARIABLES ≡ most_variables) × (MOST_ITEMS ≡ most_items) × (MOST_FEATURES ≡ most_features)
limits_agree = (refl, refl, refl)
