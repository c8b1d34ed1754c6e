-- A growing table and its queue, seen as a state; and what stays of it whatever is added.
use Rattle.std.specs.Prelude.{ℕ, List, ◌≡◌}
use Rattle.table.specs.Queue.{State, state}
use Rattle.facts.specs.declared.growth.Growth.{Growth}

-- the table's bytes and the queue's entries
abbrev pub state_of : Growth → State
state_of g = state g.cells.now g.queue.now.items

-- the same with other bytes in the table
abbrev pub with_table : Growth → List ℕ → Growth
with_table g t = record g { cells = record g.cells { now = t } }

-- a table of as many variables in the same bytes, and the same queue
pub record IsSame (g g' : Growth) : Type 0 where
  pub n : g'.n ≡ g.n
  pub cells : g'.cells.ghost_name ≡ g.cells.ghost_name
  pub queue : g'.queue.ghost_name ≡ g.queue.ghost_name
