-- What a cell says, by its number.
use Prim.Native.Nat.{ℕ, ◌<◌, ◌≤◌}
use mathlib.Core.Bool.{true, false}
use mathlib.Core.Path.{◌≡◌}
use native.Mathlib.Omega.{arith}
use Rattle.std.proofs.Common.{nat_eq}
use Rattle.fields.specs.Tests.{same}
use Rattle.fields.proofs.Choice.{is_less, not_less, not_same}
use Rattle.rules.specs.Connectives.{◌or◌}
use Rattle.rules.specs.declared.kinds.Kind.{Kind}
use Rattle.rules.specs.Tables.{says}
use Rattle.rules.proofs.Cells.{says_nothing}

-- 0 says nothing
pub nothing_said : (kind : Kind) (w : ℕ) → w ≡ 0 → says kind w ≡ false
nothing_said kind w e = rw e (says_nothing kind)

-- 1 says ≤, and of the others 3 alone does
pub ordered_one : (w : ℕ) → w ≡ 1 → says Kind.Ordered w ≡ true
unfolding says same ◌or◌
ordered_one w e = rw e

pub ordered_three : (w : ℕ) → (w ≡ 1 → ⊥) → says Kind.Ordered w ≡ nat_eq w 3
unfolding says same ◌or◌
ordered_three w e = rw (not_same w 1 e)

-- 0 and 1 do not say ~, and the others do
pub compatible_not : (w : ℕ) → w < 2 → says Kind.Compatible w ≡ false
unfolding says
compatible_not w h = not_less 1 w (omega arith)

pub compatible_more : (w : ℕ) → 2 ≤ w → says Kind.Compatible w ≡ true
unfolding says
compatible_more w h = is_less 1 w (omega arith)

pub ruleset by_number = (nothing_said, ordered_one, ordered_three, compatible_not, compatible_more)
