-- How many facts of a kind a row has.
use Rattle.std.specs.Prelude.{ℕ, ◌≤◌, List, ◌≡◌}
use Rattle.rules.specs.declared.kinds.Kind.{Kind}
use Rattle.rules.specs.Tables.{facts, count_row}

pub record RowCount (n : ℕ) (t : List ℕ) (kind : Kind) (i r : ℕ) : Type 0 where
  pub count : r ≡ count_row n (facts n t) kind i
  pub most : r ≤ n
