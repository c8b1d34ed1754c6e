-- Digits with more behind them.
use Prim.Native.Nat.{ℕ, zero, suc, ◌/◌, ◌%◌, ◌^◌, ◌≤◌, ◌<◌}
use lib.ListN.{length, get_or}
use mathlib.Core.List.{List, [], ◌∷◌, ◌++◌}
use native.Mathlib.Omega.{arith}
use Rattle.std.proofs.lemmas.List.{length_push}
use Rattle.numerals.specs.Numerals.{digit}

-- a first digit that is no 0 stays the first
pub first_stays : (ds x : List ℕ) → 48 < get_or ds 0 0 → 48 < get_or (ds ++ x) 0 0
first_stays [] x h = absurd (omega arith)
first_stays (b ∷ ds) x h = h

-- where n < 10 ^ k there are at most k digits
abbrev pub Short : ℕ → List ℕ → Type 0
Short n ds = (k : ℕ) → 0 < k → n < 10 ^ k → length ds ≤ k

-- that stays so with one digit more, of a number ten times as large
pub short_more : (n : ℕ) (ds : List ℕ) → 10 ≤ n → Short (n / 10) ds → Short n (ds ++ digit (n % 10) ∷ [])
short_more n ds h short zero some small = absurd (omega arith)
short_more n ds h short (suc zero) some small = absurd (omega arith)
short_more n ds h short (suc (suc j)) some small =
    omega (arith, length_push ds (digit (n % 10)), short (suc j) (omega arith) (omega arith))

-- where 10 ^ k ≤ n there are more than k
abbrev pub Long : ℕ → List ℕ → Type 0
Long n ds = (k : ℕ) → 10 ^ k ≤ n → k < length ds

one_at_least : (k : ℕ) → 0 < 10 ^ k
one_at_least zero = omega arith
one_at_least (suc k) = omega (arith, one_at_least k)

pub long_one : (n : ℕ) → n < 10 → Long n (digit n ∷ [])
long_one n h zero big = omega arith
long_one n h (suc k) big = absurd (omega (arith, one_at_least k))

pub long_more : (n : ℕ) (ds : List ℕ) → 10 ≤ n → Long (n / 10) ds → Long n (ds ++ digit (n % 10) ∷ [])
long_more n ds h long zero big = omega (arith, length_push ds (digit (n % 10)))
long_more n ds h long (suc k) big = omega (arith, length_push ds (digit (n % 10)), long k (omega arith))
