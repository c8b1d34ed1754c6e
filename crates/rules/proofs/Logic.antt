-- Tests joined by 'and' and 'or', their parts, and cases by a test.
use Prim.Native.Nat.{ℕ, suc, ◌<◌}
use mathlib.Core.Bool.{Bool, true, false, false≢true}
use mathlib.Core.Logic.{⊎_elim}
use mathlib.Core.Path.{◌≡◌, refl, sym}
use native.Mathlib.Nat.{eq-or-lt_of_le, le_of_suc-le-suc}
use Rattle.rules.specs.Connectives.{◌and◌, ◌or◌}

pub both : {a b : Bool} → a ≡ true → b ≡ true → a and b ≡ true
unfolding ◌and◌
both {a} {b} p q = rw p q

pub first_of_and : (a b : Bool) → a and b ≡ true → a ≡ true
unfolding ◌and◌
first_of_and true b p = refl
first_of_and false b p = p

pub second_of_and : (a b : Bool) → a and b ≡ true → b ≡ true
unfolding ◌and◌
second_of_and true b p = p
second_of_and false b p = absurd (false≢true p)

pub either_first : {a : Bool} (b : Bool) → a ≡ true → a or b ≡ true
unfolding ◌or◌
either_first b p = rw p refl

pub either_second : (a : Bool) {b : Bool} → b ≡ true → a or b ≡ true
unfolding ◌or◌
either_second true p = refl
either_second false p = p

pub either_of : {C : Type 0} (a b : Bool) → a or b ≡ true → (a ≡ true → C) → (b ≡ true → C) → C
unfolding ◌or◌
either_of true b p f g = f refl
either_of false b p f g = g p

-- by cases, with what the case knows
pub decided : {C : Type 0} (b : Bool) → (b ≡ true → C) → (b ≡ false → C) → C
decided true f g = f refl
decided false f g = g refl

-- two tests that hold in the same cases are the same
pub same_tests : (a b : Bool) → (a ≡ true → b ≡ true) → (b ≡ true → a ≡ true) → a ≡ b
same_tests true b f g = sym (f refl)
same_tests false true f g = g refl
same_tests false false f g = refl

-- a number below suc m is m or below m
pub last_or_before : {C : Type 0} (x m : ℕ) → x < suc m → (x ≡ m → C) → (x < m → C) → C
last_or_before x m h last before = ⊎_elim last before (eq-or-lt_of_le (le_of_suc-le-suc h))
