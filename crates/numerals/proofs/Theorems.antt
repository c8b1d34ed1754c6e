-- What a reader of numerals rests on.
use Prim.Native.Nat.{ℕ, ◌+◌, ◌-◌, ◌*◌, ◌%◌, ◌^◌, ◌≤◌, ◌<◌}
use lib.ListN.{length, get_or}
use mathlib.Core.List.{List, [], ◌∷◌, ◌++◌}
use mathlib.Core.Path.{◌≡◌, sym, ap, ◌∙◌}
use native.Mathlib.Omega.{arith}
use Rattle.std.specs.Fmt.{decimal}
use Rattle.std.specs.List.{All}
use Rattle.std.proofs.lemmas.Fmt.{decimal_from_appends, length-decimal-le_succ}
use Rattle.std.proofs.lemmas.List.{length_push}
use Rattle.std.proofs.lemmas.List.Elements.{All-nil, All-cons, All-push}
use Rattle.std.proofs.lemmas.List.Sums.{fold_push}
use Rattle.numerals.specs.declared.numerals.TheConstants.{LONGEST_NUMERAL}
use Rattle.numerals.specs.Numerals.{digit, IsDigit, digits_within, numeral, value}
use Rattle.numerals.proofs.Steps.{appends, by_steps}
use Rattle.numerals.proofs.Digits.{first_stays, Short, short_more, Long, long_one, long_more}
use Rattle.numerals.proofs.Parts.{same_parts}

-- a numeral has a byte
pub numeral_not_empty : (n : ℕ) → 0 < length (numeral n)
numeral_not_empty =
    by_steps (λ n ds. 0 < length ds) (λ n h. omega arith) λ n ds h some. omega (arith, length_push ds (digit (n % 10)))

-- each byte of it is a digit
pub numeral_digits : (n : ℕ) → All IsDigit (numeral n)
numeral_digits =
    by_steps (λ n ds. All IsDigit ds)
    (λ n h. All-cons IsDigit (digit n) [] (omega arith, omega arith) (All-nil IsDigit))
    λ n ds h all. All-push IsDigit ds (digit (n % 10)) all (omega arith, omega arith)

-- the first digit is no 0, unless the number is 0
pub numeral_first : (n : ℕ) → 0 < n → 48 < get_or (numeral n) 0 0
numeral_first =
    by_steps (λ n ds. 0 < n → 48 < get_or ds 0 0) (λ n h some. omega arith)
    λ n ds h first some. first_stays ds _ (first (omega arith))

-- a number below 10 ^ k has at most k digits
pub numeral_short : (k n : ℕ) → 0 < k → n < 10 ^ k → length (numeral n) ≤ k
numeral_short k n some small = by_steps Short (λ n h k some small. omega arith) short_more n k some small

-- a number of 64 bits has at most 20
pub numeral_longest : (n : ℕ) → n < 2 ^ 64 → length (numeral n) ≤ LONGEST_NUMERAL
numeral_longest n h = numeral_short LONGEST_NUMERAL n (omega arith) (omega arith)

-- one from 10 ^ k on has more than k, so the greatest of 64 bits has 20
pub numeral_long : (k n : ℕ) → 10 ^ k ≤ n → k < length (numeral n)
numeral_long k n big = by_steps Long long_one long_more n k big

pub longest_is_reached : length (numeral (2 ^ 64 - 1)) ≡ LONGEST_NUMERAL
longest_is_reached =
    omega (arith, numeral_long 19 (2 ^ 64 - 1) (omega arith), numeral_longest (2 ^ 64 - 1) (omega arith))

-- a numeral stands for its number
pub numeral_value : (n : ℕ) → value (numeral n) ≡ n
unfolding value
numeral_value =
    by_steps (λ n ds. value ds ≡ n) (λ n h. omega arith)
    λ n ds h e. omega (arith, e, fold_push (λ m b. m * 10 + (b - 48)) 0 ds (digit (n % 10)))

-- different numbers have different numerals
pub numeral_injective : (m n : ℕ) → numeral m ≡ numeral n → m ≡ n
numeral_injective m n e = sym (numeral_value m) ∙ ap value e ∙ numeral_value n

-- where text follows that begins with no digit, the number and that text are known
pub numeral_behind : (m n c d : ℕ) (x y : List ℕ) → ¬ (IsDigit c) → ¬ (IsDigit d)
    → numeral m ++ c ∷ x ≡ numeral n ++ d ∷ y → (m ≡ n) × (c ∷ x ≡ d ∷ y)
numeral_behind m n c d x y other other' e =
    let parts = same_parts IsDigit c d x y other other' (numeral m) (numeral n) (numeral_digits m) (numeral_digits n) e in
    (numeral_injective m n parts.0, parts.1)

-- a space is no digit
pub space_no_digit : ¬ (IsDigit 32)
space_no_digit h = omega arith

-- a newline is no digit
pub newline_no_digit : ¬ (IsDigit 10)
newline_no_digit h = omega arith

-- the numeral of a number of 64 bits is what `{}` prints
pub numeral_is_decimal : (n : ℕ) → n < 2 ^ 64 → numeral n ≡ decimal n
unfolding numeral
numeral_is_decimal n h = decimal_from_appends digits_within appends _ n h (omega (arith, length-decimal-le_succ n h))
