-- A packed outcome taken apart again.
use Prim.Native.Nat.{ℕ, ◌/◌, ◌<◌}
use mathlib.Core.Path.{◌≡◌, refl}
use native.Mathlib.Omega.{arith}
use Rattle.fields.specs.declared.numbers.Variable.{Variable}
use Rattle.fields.specs.declared.refusals.Fault.{Fault}
use Rattle.outcomes.specs.declared.outcomes.Outcome.{Outcome}
use Rattle.outcomes.specs.Outcomes.{kind_of, first_of, second_of, pack, packed, kind_in, first_in, second_in}

module _ (kind first second : ℕ) (small : kind < 256) where
  kind_packed : kind_in (pack kind first second) ≡ kind
  unfolding pack
  kind_packed = omega (arith, small)

  first_packed : first < 65536 → first_in (pack kind first second) ≡ first
  unfolding pack
  first_packed h = omega (arith, small, h)

  rest_packed : first < 65536 → pack kind first second / 16777216 ≡ second
  unfolding pack
  rest_packed h = omega (arith, small, h)

  second_packed : first < 65536 → second < 65536 → second_in (pack kind first second) ≡ second
  unfolding pack
  second_packed h h' = omega (arith, small, h, h')

small_kind : (o : Outcome) → kind_of o < 256
small_kind (Outcome.Consistent orderings compatibilities) = omega arith
small_kind (Outcome.Clash i j) = omega arith
small_kind (Outcome.Refused fault at) = omega arith

pub kind_is : (o : Outcome) → kind_in (packed o) ≡ kind_of o
unfolding packed
kind_is o = kind_packed (kind_of o) (first_of o) (second_of o) (small_kind o)

pub first_is : (o : Outcome) → first_of o < 65536 → first_in (packed o) ≡ first_of o
unfolding packed
first_is o h = first_packed (kind_of o) (first_of o) (second_of o) (small_kind o) h

pub second_is : (o : Outcome) → first_of o < 65536 → second_of o < 65536 → second_in (packed o) ≡ second_of o
unfolding packed
second_is o h h' = second_packed (kind_of o) (first_of o) (second_of o) (small_kind o) h h'

-- all that stands above the first number is the second
pub second_whole : (o : Outcome) → first_of o < 65536 → packed o / 16777216 ≡ second_of o
unfolding packed
second_whole o h = rest_packed (kind_of o) (first_of o) (second_of o) (small_kind o) h

-- the number of each kind of outcome
pub consistent_is_0 : (x y : ℕ) → kind_of (Outcome.Consistent x y) ≡ 0
consistent_is_0 x y = refl

pub clash_is_1 : (i j : Variable) → kind_of (Outcome.Clash i j) ≡ 1
clash_is_1 i j = refl

pub refused_is_2 : (fault : Fault) (at : ℕ) → kind_of (Outcome.Refused fault at) ≡ 2
refused_is_2 fault at = refl
