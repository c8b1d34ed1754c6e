-- When the selections of a list of statements stand in a list or in groups.
use Rattle.std.specs.Prelude.{ℕ, ◌<◌, List}
use Rattle.items.specs.declared.items.Statement.{Statement}
use Rattle.rules.specs.Stated.{selection, Stated}

-- which i[f]j there are
abbrev pub Selected : Type 1
Selected = ℕ → ℕ → ℕ → Type 0

-- the selections of st are those of the n variables, and no other
pub record SelectionsStand (n : ℕ) (st : List Statement) (selected : Selected) : Type 0 where
  pub listed : (i f j : ℕ) → Stated st (selection i f j) → selected i f j
  pub stated : (i f j : ℕ) → i < n → selected i f j → Stated st (selection i f j)
