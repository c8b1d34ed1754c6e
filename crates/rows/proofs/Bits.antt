-- Laws of the bits of a word.
use Prim.Native.Nat.{ℕ, zero, suc, ◌^◌, max, ◌<◌}
use lib.Bits.{bit_or}
use mathlib.Core.Bool.{false}
use mathlib.Core.Path.{◌≡◌, refl, ap, ◌∙◌}
use native.Mathlib.Omega.{arith}
use Rattle.std.proofs.lemmas.Nat.Bits.{bit_at_or, bit_at-lt, bit_at-zero, bit_at-pow_same, bit_at-pow_other}
use Rattle.fields.specs.Tests.{same, has}
use Rattle.fields.proofs.Choice.{is_same, not_same, same_true, same_false}
use Rattle.rules.specs.Connectives.{◌or◌}
use Rattle.rules.proofs.Logic.{decided}

pub has_none : (k : ℕ) → has (2 ^ k) 0 ≡ false
unfolding has
has_none k = not_same _ 1 (λ e. omega (arith, bit_at-zero k))

pub has_power : (k j : ℕ) → has (2 ^ k) (2 ^ j) ≡ same k j
unfolding has
has_power k j =
    decided (same k j)
    (λ p. rw p (is_same _ 1 (let e = same_true k j p in rw e (bit_at-pow_same j))))
    (λ p. rw p (not_same _ 1 (let e = bit_at-pow_other j k (same_false k j p) in λ q. omega arith)))

or_low : (p q : ℕ) → p < 2 → q < 2 → same (max p q) 1 ≡ same p 1 or same q 1
unfolding same ◌or◌
or_low zero zero h g = refl
or_low zero (suc zero) h g = refl
or_low (suc zero) zero h g = refl
or_low (suc zero) (suc zero) h g = refl
or_low p (suc (suc q)) h g = absurd (omega arith)
or_low (suc (suc p)) q h g = absurd (omega arith)

pub has_either : (k a b : ℕ) → has (2 ^ k) (bit_or a b) ≡ has (2 ^ k) a or has (2 ^ k) b
unfolding has
has_either k a b = ap (λ x. same x 1) (bit_at_or a b k) ∙ or_low _ _ (bit_at-lt a k) (bit_at-lt b k)
