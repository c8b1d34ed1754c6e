-- What is known of a closed table and its labels.
use Rattle.std.specs.Prelude.{ℕ, List, Option, ◌≡◌}
use Rattle.rules.specs.declared.clashes.Clash.{Clash}
use Rattle.labels.specs.declared.spread.Spread.{Spread}
use Rattle.labels.specs.Spreads.{spread_below}
use Rattle.answers.specs.Clashes.{ClashTold}

-- the pair that clashes, and the labels of all
pub record IsTold (n : ℕ) (t : List ℕ) (spreads : List Spread) (clash : Option Clash) (spread : Spread) : Type 0 where
  pub first : ClashTold n t spreads clash
  pub all : spread ≡ spread_below n spreads
