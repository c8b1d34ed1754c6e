-- Numerals: numbers written in base ten without leading zeros, and the number that digits stand for.
use Rattle.std.specs.Prelude.{ℕ, zero, suc, ◌+◌, ◌-◌, ◌*◌, ◌/◌, ◌%◌, ◌≤◌, nat_lt, if◌then◌else◌}
use Rattle.std.specs.Prelude.{List, [], ◌∷◌, ◌++◌, fold}

-- the byte of a digit
abbrev pub digit : ℕ → ℕ
digit d = 48 + d

-- a byte is a digit
abbrev pub IsDigit : ℕ → Type 0
IsDigit b = (48 ≤ b) × (b ≤ 57)

-- the digits of n, or the last k where it has more
unfoldable pub digits_within : ℕ → ℕ → List ℕ
digits_within zero n = []
digits_within (suc k) n = if nat_lt n 10 then digit n ∷ [] else digits_within k (n / 10) ++ digit (n % 10) ∷ []

-- all digits of n, of which there are at most n + 1
unfoldable pub numeral : ℕ → List ℕ
numeral n = digits_within (suc n) n

-- the number that digits stand for, read from the left
unfoldable pub value : List ℕ → ℕ
value bytes = fold (λ m b. m * 10 + (b - 48)) 0 bytes
