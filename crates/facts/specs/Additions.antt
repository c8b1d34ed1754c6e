-- What is added to a fact table, and how the queue follows.
use Rattle.std.specs.Prelude.{ℕ, ◌+◌, ◌<◌, ◌≤◌, length, true, ◌⊎◌, ◌≡◌}
use Rattle.rules.specs.declared.kinds.Kind.{Kind}
use Rattle.rules.specs.Facts.{Relation, Holds, Within}
use Rattle.rules.specs.Tables.{says, facts, Shape}
use Rattle.table.specs.Queue.{entry_at, Queued, IsEntry, State, fact_count}

-- a set of facts
abbrev pub Facts : Type 1
Facts = Kind → ℕ → ℕ → Type 0

-- what the cell w says of x and y
pub record Said (w x y : ℕ) (kind : Kind) (i j : ℕ) : Type 0 where
  pub first : i ≡ x
  pub second : j ≡ y
  pub told : says kind w ≡ true

-- one set or the other
pub data Either (P Q : Facts) (kind : Kind) (i j : ℕ) : Type 0 where
  one : P kind i j → Either P Q kind i j
  other : Q kind i j → Either P Q kind i j

-- one of a row of sets, from one place up to another
pub record Among (from upto : ℕ) (P : ℕ → Facts) (kind : Kind) (i j : ℕ) : Type 0 where
  pub at : ℕ
  pub behind : from ≤ at
  pub ahead : at < upto
  pub holds : P at kind i j

-- cells only grow; each cell that changed is behind the queue's old entries, and there are no more entries than new
-- facts
pub record Moves (n : ℕ) (s s' : State) : Type 0 where
  pub shape : Shape n s'.table
  pub grows : Within (facts n s.table) (facts n s'.table)
  pub later : length s.queue ≤ length s'.queue
  pub kept : (k : ℕ) → k < length s.queue → entry_at s'.queue k ≡ entry_at s.queue k
  pub entries : (k : ℕ) → length s.queue ≤ k → k < length s'.queue → IsEntry n (entry_at s'.queue k)
  pub queued : (kind : Kind) (i j : ℕ) → Holds (facts n s'.table) kind i j
      → Holds (facts n s.table) kind i j ⊎ Queued s'.queue (length s.queue) (length s'.queue) i j
  pub counted : length s'.queue + fact_count n s.table ≤ length s.queue + fact_count n s'.table

-- the facts of P are added, and no other
pub record Added (n : ℕ) (P : Facts) (s s' : State) : Type 0 where
  pub moves : Moves n s s'
  pub given : (kind : Kind) (i j : ℕ) → P kind i j → Holds (facts n s'.table) kind i j
  pub only : (kind : Kind) (i j : ℕ) → Holds (facts n s'.table) kind i j
      → Holds (facts n s.table) kind i j ⊎ P kind i j

-- a set of facts to which F1 and F3 add nothing
pub record Framed (n : ℕ) (r : Relation) : Type 0 where
  -- F1.1, F3.1
  pub reflexive : (kind : Kind) (i : ℕ) → i < n → Holds r kind i i
  -- F1.2, F3.2
  pub through : (kind : Kind) (i j k : ℕ) → Holds r Kind.Ordered i j → Holds r kind j k → Holds r kind i k
  -- F3.3
  pub symmetric : (i j : ℕ) → Holds r Kind.Compatible i j → Holds r Kind.Compatible j i

-- the facts of P are added with what F1 and F3 give from them, and no other
pub record Steps (n : ℕ) (P : Facts) (s s' : State) : Type 0 where
  pub moves : Moves n s s'
  pub framed : Framed n (facts n s'.table)
  pub given : (kind : Kind) (i j : ℕ) → P kind i j → Holds (facts n s'.table) kind i j
  pub within : (r : Relation) → Framed n r → Within (facts n s.table) r
      → ((kind : Kind) (i j : ℕ) → P kind i j → Holds r kind i j) → Within (facts n s'.table) r
