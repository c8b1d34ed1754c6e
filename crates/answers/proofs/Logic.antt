-- Tests of which a part decides.
use mathlib.Core.Bool.{Bool, true, false, ◌&&◌}
use mathlib.Core.Path.{◌≡◌, refl}
use Rattle.rules.specs.Connectives.{◌and◌}

-- a part that fails
pub fails_first : {a : Bool} (b : Bool) → a ≡ false → a and b ≡ false
unfolding ◌and◌
fails_first b p = rw p

pub fails_second : (a : Bool) {b : Bool} → b ≡ false → a and b ≡ false
unfolding ◌and◌
fails_second true p = p
fails_second false p = refl

-- both tests in code and in definitions, where the second parts agree
pub second_alike : (a : Bool) {b c : Bool} → b ≡ c → a && b ≡ a and c
unfolding ◌and◌
second_alike true e = e
second_alike false e = refl

-- where the first part holds the second decides
pub second_decides : {a b c : Bool} → a ≡ true → c ≡ b → c ≡ a and b
unfolding ◌and◌
second_decides p e = rw p e
