-- A numeral by its last digit: those in front of it are the numeral of a tenth.
use Prim.Native.Nat.{ℕ, zero, suc, ◌/◌, ◌%◌, ◌≤◌, ◌<◌}
use borrow.Author.Tests.{lt-ltb, le-ltb}
use mathlib.Core.List.{List, [], ◌∷◌, ◌++◌}
use mathlib.Core.Logic.{⊎_elim}
use mathlib.Core.Path.{◌≡◌, sym, ap, subst, ◌∙◌}
use native.Mathlib.Omega.{arith}
use Rattle.std.proofs.lemmas.Bool.{cases_lt}
use Rattle.std.proofs.lemmas.Fmt.{AppendsLastDigit}
use Rattle.numerals.specs.Numerals.{digit, digits_within, numeral}

-- at most k + 1 digits of n: one, or the last behind at most k of a tenth
pub appends : AppendsLastDigit digits_within
unfolding digits_within
appends = record { one = λ k n h. rw (lt-ltb n 10 h); more = λ k n h. rw (le-ltb n 10 h) }

-- any limit above n gives the same digits
same_within : (j k n : ℕ) → n < j → n < k → digits_within j n ≡ digits_within k n
same_within zero k n h g = absurd (omega arith)
same_within (suc j) zero n h g = absurd (omega arith)
same_within (suc j) (suc k) n h g =
    ⊎_elim (λ few. appends.one j n few ∙ sym (appends.one k n few))
    (λ many.
    appends.more j n many ∙ ap (λ ds. ds ++ digit (n % 10) ∷ []) (same_within j k (n / 10) (omega arith) (omega arith))
    ∙ sym (appends.more k n many)) (cases_lt n 10)

-- a number below 10 is one digit
pub numeral_digit : (n : ℕ) → n < 10 → numeral n ≡ digit n ∷ []
unfolding numeral
numeral_digit n h = appends.one n n h

-- any other has its last digit behind the numeral of a tenth
pub numeral_step : (n : ℕ) → 10 ≤ n → numeral n ≡ numeral (n / 10) ++ digit (n % 10) ∷ []
unfolding numeral
numeral_step n h =
    appends.more n n h
    ∙ ap (λ ds. ds ++ digit (n % 10) ∷ []) (same_within n (suc (n / 10)) (n / 10) (omega arith) (omega arith))

-- what holds of one digit, and stays with one digit more behind, holds of every numeral
module _ (P : ℕ → List ℕ → Type 0) (one : (n : ℕ) → n < 10 → P n (digit n ∷ []))
    (more : (n : ℕ) (ds : List ℕ) → 10 ≤ n → P (n / 10) ds → P n (ds ++ digit (n % 10) ∷ [])) where
  below : (k n : ℕ) → n < k → P n (numeral n)
  below zero n h = absurd (omega arith)
  below (suc k) n h =
      ⊎_elim (λ few. subst (P n) (sym (numeral_digit n few)) (one n few))
      (λ many. subst (P n) (sym (numeral_step n many)) (more n _ many (below k (n / 10) (omega arith)))) (cases_lt n 10)

  pub by_steps : (n : ℕ) → P n (numeral n)
  by_steps n = below (suc n) n (omega arith)
