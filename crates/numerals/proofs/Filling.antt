-- What is used where digits are counted and written.
use Prim.Native.Nat.{ℕ, zero, suc, ◌+◌, ◌/◌, ◌%◌, ◌≤◌, ◌<◌}
use lib.ListN.{length, drop}
use mathlib.Core.List.{List, [], ◌∷◌, ◌++◌, append-nil}
use mathlib.Core.Path.{◌≡◌, ap, ◌∙◌}
use native.Mathlib.Numerals.{add-one}
use native.Mathlib.Omega.{arith}
use Rattle.std.proofs.lemmas.List.{length_push, drop_all}
use Rattle.numerals.specs.Numerals.{digit, numeral}
use Rattle.numerals.proofs.Steps.{numeral_digit, numeral_step, by_steps}
use Rattle.numerals.proofs.Theorems.{numeral_not_empty, numeral_longest}

-- a number below 10 has one digit
pub length_digit : (n : ℕ) → n < 10 → length (numeral n) ≡ 1
length_digit n h = ap length (numeral_digit n h)

-- any other has one more than a tenth of it
pub length_step : (n : ℕ) → 10 ≤ n → length (numeral n) ≡ length (numeral (n / 10)) + 1
length_step n h = ap length (numeral_step n h) ∙ length_push (numeral (n / 10)) (digit (n % 10))

-- what is known of lengths
pub ruleset lengths = (length_digit, length_step, numeral_not_empty, numeral_longest)

-- the last k digits of n, also zeros in front
abbrev pub last_digits : ℕ → ℕ → List ℕ
last_digits zero n = []
last_digits (suc k) n = last_digits k (n / 10) ++ digit (n % 10) ∷ []

-- as many as the numeral has are the numeral
all_digits : (n : ℕ) → last_digits (length (numeral n)) n ≡ numeral n
all_digits =
    by_steps (λ n ds. last_digits (length ds) n ≡ ds) (λ n h. ap (λ d. digit d ∷ []) (omega arith))
    λ n ds h e. rw (length_push ds (digit (n % 10)), add-one) (ap (λ ds. ds ++ digit (n % 10) ∷ []) e)

-- at first all of a part of that length is to be written
pub all_left : (n : ℕ) (part : List ℕ) → length part ≡ length (numeral n)
    → last_digits (length part) n ++ drop (length part) part ≡ numeral n
all_left n part e = rw (drop_all (length part) part (omega arith), append-nil, e) (all_digits n)
