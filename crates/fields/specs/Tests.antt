-- Tests on numbers, a choice by a test, and the bits of a map.
use Rattle.std.specs.Prelude.{ℕ, ◌/◌, ◌%◌, Bool, true, false, ltb, eqb}

-- a < b
unfoldable pub less : ℕ → ℕ → Bool
less a b = ltb a b

-- a = b
unfoldable pub same : ℕ → ℕ → Bool
same a b = eqb a b

-- the first where the test holds, else the second
unfoldable pub pick : {A : Type 0} → Bool → A → A → A
pick true a b = a
pick false a b = b

-- whether the bit of this value (1, 2, 4, ..) stands in a map
unfoldable pub has : ℕ → ℕ → Bool
has value map = same (map / value % 2) 1
