-- Laws of the tests and of the choice by a test.
use Prim.Native.Nat.{ℕ, ◌≤◌, ◌<◌}
use mathlib.Core.Bool.{Bool, true, false, false≢true}
use mathlib.Core.Path.{◌≡◌, refl}
use borrow.Author.Tests.{lt-ltb, le-ltb, eq-eqb, ne_eqb, ltb-true, ltb-false, eqb-true, eqb-false}
use native.Mathlib.Omega.{arith}
use Rattle.fields.specs.Tests.{less, same, pick}

-- a test from the fact
pub is_less : (a b : ℕ) → a < b → less a b ≡ true
unfolding less
is_less a b h = lt-ltb a b h

pub not_less : (a b : ℕ) → b ≤ a → less a b ≡ false
unfolding less
not_less a b h = le-ltb a b h

pub is_same : (a b : ℕ) → a ≡ b → same a b ≡ true
unfolding same
is_same a b h = eq-eqb a b h

pub not_same : (a b : ℕ) → (a ≡ b → ⊥) → same a b ≡ false
unfolding same
not_same a b h = ne_eqb a b h

-- the fact from the test
pub less_true : (a b : ℕ) → less a b ≡ true → a < b
unfolding less
less_true a b e = ltb-true a b e

pub less_false : (a b : ℕ) → less a b ≡ false → b ≤ a
unfolding less
less_false a b e = ltb-false a b e

pub same_true : (a b : ℕ) → same a b ≡ true → a ≡ b
unfolding same
same_true a b e = eqb-true a b e

pub same_false : (a b : ℕ) → same a b ≡ false → a ≡ b → ⊥
unfolding same
same_false a b e = eqb-false a b e

-- a choice whose test is known
pub chosen : {A : Type 0} {r : A} (b : Bool) (x y : A) → b ≡ true → r ≡ x → r ≡ pick b x y
unfolding pick
chosen b x y e p = rw e p

pub passed : {A : Type 0} {r : A} (b : Bool) (x y : A) → b ≡ false → r ≡ y → r ≡ pick b x y
unfolding pick
passed b x y e p = rw e p

-- a choice of no bytes or k is at most k
pub pick_most : (b : Bool) (k : ℕ) → pick b k 0 ≤ k
unfolding pick
pick_most true k = omega arith
pick_most false k = omega arith

pub picked : (b : Bool) (k : ℕ) → b ≡ true → pick b k 0 ≡ k
unfolding pick
picked true k e = refl
picked false k e = absurd (false≢true e)
