-- The queue: pairs of variables whose cells changed and whose children are still to be looked at.
use Rattle.std.specs.Prelude.{ℕ, ◌+◌, ◌*◌, ◌<◌, ◌≤◌, length, get_or, List, ◌≡◌}
use Rattle.fields.specs.Fields.{variable}
use Rattle.fields.specs.Limits.{most_variables}
use Rattle.rules.specs.declared.kinds.Kind.{Kind}
use Rattle.rules.specs.Tables.{facts, Shape, count_facts}
use Rattle.table.specs.declared.queue.Entry.{Entry}

-- how many entries there is room for: one for each fact, and one for each pair that a selection on trial queues
abbrev pub queue_room : ℕ
queue_room = 2 * most_variables * most_variables + 2 * most_variables

-- the entry of two variables
abbrev pub entry : ℕ → ℕ → Entry
entry x y = record { first = variable x; second = variable y }

-- the entry at a place, and what stands for one behind the last
abbrev pub no_entry : Entry
no_entry = entry 0 0

abbrev pub entry_at : List Entry → ℕ → Entry
entry_at queue k = get_or queue k no_entry

-- i and j are an entry, from one place up to another
pub record Queued (queue : List Entry) (from upto i j : ℕ) : Type 0 where
  pub at : ℕ
  pub behind : from ≤ at
  pub ahead : at < upto
  pub first : (entry_at queue at).first.0 ≡ i
  pub second : (entry_at queue at).second.0 ≡ j

-- an entry of two variables below n
pub record IsEntry (n : ℕ) (e : Entry) : Type 0 where
  pub first : e.first.0 < n
  pub second : e.second.0 < n

-- a table's bytes and a queue's entries
pub record State : Type 0 where
  pub table : List ℕ
  pub queue : List Entry

abbrev pub state : List ℕ → List Entry → State
state table queue = record { table = table; queue = queue }

-- how many facts a table has, of both kinds
unfoldable pub fact_count : ℕ → List ℕ → ℕ
fact_count n t = count_facts n (facts n t) Kind.Ordered + count_facts n (facts n t) Kind.Compatible

-- the queue has a place for each fact that is not in the table yet
pub record Ready (n : ℕ) (s : State) : Type 0 where
  pub few : n ≤ most_variables
  pub shape : Shape n s.table
  pub room : length s.queue + 2 * (n * n) ≤ queue_room + fact_count n s.table
  pub entries : (k : ℕ) → k < length s.queue → IsEntry n (entry_at s.queue k)
