-- Tests joined by 'and' and 'or'.
use Rattle.std.specs.Prelude.{Bool, true, false}

infixr 35 ◌and◌
unfoldable pub ◌and◌ : Bool → Bool → Bool
true and b = b
false and b = false

infixr 30 ◌or◌
unfoldable pub ◌or◌ : Bool → Bool → Bool
true or b = true
false or b = b
