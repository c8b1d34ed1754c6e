-- One cell of a fact table.
use Rattle.std.specs.Prelude.{ℕ, ◌+◌, ◌*◌, ◌<◌, ◌≤◌, length, set, Bool, not, List, ◌≡◌}
use Rattle.std.specs.Int.Bits.{bit_or}
use Rattle.fields.specs.Limits.{most_variables}
use Rattle.fields.specs.Tests.{same}
use Rattle.table.specs.declared.cells.Kinds.{Kinds}

-- a cell of this number
abbrev pub kinds : ℕ → Kinds
kinds k = record { 0 = k }

-- t is a table for n variables, and has a cell for i and j
pub record Cell (n : ℕ) (t : List ℕ) (i j : ℕ) : Type 0 where
  pub few : n ≤ most_variables
  pub size : length t ≡ n * n
  pub row : i < n
  pub column : j < n

-- the table with another cell for i and j
unfoldable pub with_cell : ℕ → List ℕ → ℕ → ℕ → ℕ → List ℕ
with_cell n t i j cell = set t (i * n + j) cell

-- w says something that the cell does not
unfoldable pub is_lacking : ℕ → ℕ → Bool
is_lacking cell w = not (same (bit_or cell w) cell)
