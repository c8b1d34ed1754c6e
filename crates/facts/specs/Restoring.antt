-- A table that grew from another, to be made that one again.
use Rattle.std.specs.Prelude.{ℕ, ◌<◌, ◌≤◌, length, List, ◌⊎◌}
use Rattle.fields.specs.Limits.{most_variables}
use Rattle.rules.specs.declared.kinds.Kind.{Kind}
use Rattle.rules.specs.Facts.{Holds, Within}
use Rattle.rules.specs.Tables.{facts, Shape}
use Rattle.table.specs.Queue.{entry_at, Queued, IsEntry, State}

-- each fact that s has beyond the other table is of a pair in its queue, from one place on
pub record Restoring (n : ℕ) (other : List ℕ) (s : State) (from : ℕ) : Type 0 where
  pub few : n ≤ most_variables
  pub shape : Shape n other
  pub grown : Shape n s.table
  pub grows : Within (facts n other) (facts n s.table)
  pub begin : from ≤ length s.queue
  pub entries : (k : ℕ) → k < length s.queue → IsEntry n (entry_at s.queue k)
  pub queued : (kind : Kind) (i j : ℕ) → Holds (facts n s.table) kind i j
      → Holds (facts n other) kind i j ⊎ Queued s.queue from (length s.queue) i j
