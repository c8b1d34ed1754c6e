-- A row: a set of variables as words of 64 bits.
use Rattle.std.specs.Prelude.{ℕ, ◌/◌, ◌%◌, ◌^◌, get_or, Bool, List, ◌≡◌}
use Rattle.fields.specs.Limits.{most_variables}
use Rattle.fields.specs.Tests.{less, has}
use Rattle.rules.specs.Connectives.{◌and◌}
use Rattle.rules.specs.Stated.{any_below}

-- whether j is a member: bit j % 64 of word j / 64
unfoldable pub in_row : List ℕ → ℕ → Bool
in_row row j = less j most_variables and has (2 ^ (j % 64)) (get_or row (j / 64) 0)

-- the members are those that pass a test
pub record Members (row : List ℕ) (test : ℕ → Bool) : Type 0 where
  pub bits : (j : ℕ) → in_row row j ≡ test j

-- whether there is a member
unfoldable pub has_some : List ℕ → Bool
has_some row = any_below most_variables (in_row row)
