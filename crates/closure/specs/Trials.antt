-- Trials: a closed table with one statement more.
use Rattle.std.specs.Prelude.{ℕ, ◌*◌, ◌<◌, ◌≤◌, length, Bool, true, false}
use Rattle.std.specs.Prelude.{List, [], ◌∷◌, ◌++◌, ◌⊎◌, ◌↔◌, ◌≡◌}
use Rattle.fields.specs.Limits.{most_variables}
use Rattle.items.specs.declared.items.Statement.{Statement}
use Rattle.items.specs.Statements.{Names, AllName}
use Rattle.rules.specs.declared.kinds.Kind.{Kind}
use Rattle.rules.specs.Facts.{Relation, Holds, Within}
use Rattle.rules.specs.Tables.{facts, Shape}
use Rattle.rules.specs.Derived.{derived}
use Rattle.rules.specs.Clashes.{clashes_at, clashes}
use Rattle.table.specs.declared.queue.Entry.{Entry}
use Rattle.table.specs.Queue.{entry_at, Queued, IsEntry}
use Rattle.facts.specs.Additions.{Facts, Framed}
use Rattle.facts.specs.declared.growth.Growth.{Growth}
use Rattle.facts.specs.Growth.{IsSame}
use Rattle.selections.specs.declared.grouped.Groups.{Groups}
use Rattle.selections.specs.Groups.{Grouped, AreGroups, Spare}
use Rattle.selections.specs.Stands.{Selected, SelectionsStand}
use Rattle.labels.specs.declared.spread.Spread.{Spread}
use Rattle.labels.specs.Labels.{LabelsStand}
use Rattle.derivation.specs.Settled.{Descends}
use Rattle.closure.specs.declared.closed.Closed.{Closed}
use Rattle.closure.specs.Making.{variables_of, table_of}

-- the same growth with the facts of before, and the groups of before
pub record Restored (g g' : Growth) (groups groups' : Groups) : Type 0 where
  pub same : IsSame g g'
  pub table : g'.cells.now ≡ g.cells.now
  pub grouped : groups' ≡ groups

-- a closed table, and groups with free places
pub record Trying (n : ℕ) (t : List ℕ) (groups : Groups) : Type 0 where
  pub few : n ≤ most_variables
  pub shape : Shape n t
  pub framed : Framed n (facts n t)
  pub descends : Descends n (Grouped groups) (facts n t)
  pub lawful : AreGroups n groups
  pub spare : Spare n groups

-- a fact on trial
pub record TryingFact (n : ℕ) (t : List ℕ) (groups : Groups) (i j : ℕ) : Type 0 where
  pub trying : Trying n t groups
  pub first : i < n
  pub second : j < n

-- a selection on trial
pub record TryingSelection (n : ℕ) (t : List ℕ) (groups : Groups) (i j : ℕ) : Type 0 where
  pub trying : Trying n t groups
  pub subject : i < n
  pub child : j < n

-- no facts
abbrev pub Nothing : Facts
Nothing kind i j = ⊥

-- the selections and i[f]j
pub data WithOne (selected : Selected) (i f j : ℕ) (x g y : ℕ) : Type 0 where
  before : selected x g y → WithOne selected i f j x g y
  last : x ≡ i → g ≡ f → y ≡ j → WithOne selected i f j x g y

-- t is the least closed table with the facts of a closed one and those of P; what is new is in the queue, from a place
-- on
pub record Tries (n : ℕ) (selected : Selected) (P : Facts) (closed t : List ℕ) (queue : List Entry) (from : ℕ)
    : Type 0 where
  pub shape : Shape n t
  pub grows : Within (facts n closed) (facts n t)
  pub framed : Framed n (facts n t)
  pub descends : Descends n selected (facts n t)
  pub given : (kind : Kind) (i j : ℕ) → P kind i j → Holds (facts n t) kind i j
  pub within : (r : Relation) → Framed n r → Descends n selected r → Within (facts n closed) r
      → ((kind : Kind) (i j : ℕ) → P kind i j → Holds r kind i j) → Within (facts n t) r
  pub begin : from ≤ length queue
  pub entries : (k : ℕ) → k < length queue → IsEntry n (entry_at queue k)
  pub queued : (kind : Kind) (i j : ℕ) → Holds (facts n t) kind i j
      → Holds (facts n closed) kind i j ⊎ Queued queue from (length queue) i j

-- the pairs of i are to be queued
pub record Queueing (n i : ℕ) (queue : List Entry) : Type 0 where
  pub few : n ≤ most_variables
  pub subject : i < n
  pub empty : queue ≡ []

-- the pairs of i with each variable below x are the entries
pub record SubjectQueued (n i x : ℕ) (queue : List Entry) : Type 0 where
  pub count : length queue ≡ 2 * x
  pub entries : (k : ℕ) → k < length queue → IsEntry n (entry_at queue k)
  pub left : (y : ℕ) → y < x → Queued queue 0 (length queue) i y
  pub right : (y : ℕ) → y < x → Queued queue 0 (length queue) y i

-- a table, and an entry of variables below n
pub record Searching (n : ℕ) (t : List ℕ) (entry : Entry) : Type 0 where
  pub few : n ≤ most_variables
  pub shape : Shape n t
  pub pair : IsEntry n entry

-- F5 applies to the variables of an entry
unfoldable pub entry_clashes : ℕ → List ℕ → List Statement → Entry → Bool
entry_clashes n t st entry = clashes_at st (facts n t) entry.first.0 entry.second.0

-- it is told whether, whatever statements have their labels kept so
pub record EntryTold (n : ℕ) (t : List ℕ) (spreads : List Spread) (entry : Entry) (r : Bool) : Type 0 where
  pub told : (st : List Statement) → LabelsStand n st spreads → r ≡ entry_clashes n t st entry

-- a table, and a queue of such entries with a place in it
pub record Sought (n : ℕ) (t : List ℕ) (queue : List Entry) (from : ℕ) : Type 0 where
  pub few : n ≤ most_variables
  pub shape : Shape n t
  pub begin : from ≤ length queue
  pub entries : (k : ℕ) → k < length queue → IsEntry n (entry_at queue k)

-- F5 applies to an entry, from one place on
pub record QueuedClash (n : ℕ) (t : List ℕ) (st : List Statement) (queue : List Entry) (from : ℕ) : Type 0 where
  pub at : ℕ
  pub behind : from ≤ at
  pub ahead : at < length queue
  pub applies : entry_clashes n t st (entry_at queue at) ≡ true

-- it is told whether
pub record QueueTold (n : ℕ) (t : List ℕ) (spreads : List Spread) (queue : List Entry) (from : ℕ) (r : Bool)
    : Type 0 where
  pub told : (st : List Statement) → LabelsStand n st spreads → (r ≡ true) ↔ QueuedClash n t st queue from

-- a trial, and whether F5 applies to what is new by it
pub record Searched (n : ℕ) (selected : Selected) (P : Facts) (closed : List ℕ) (spreads : List Spread) (r : Bool)
    : Type 0 where
  pub table : List ℕ
  pub queue : List Entry
  pub from : ℕ
  pub tries : Tries n selected P closed table queue from
  pub found : QueueTold n table spreads queue from r

-- statements that stand in groups and labels, and of which the closed table is derived
pub record Standing (n : ℕ) (closed : List ℕ) (groups : Groups) (spreads : List Spread) (st : List Statement)
    : Type 0 where
  pub names : AllName n st
  pub derives : closed ≡ derived st n
  pub selections : SelectionsStand n st (Grouped groups)
  pub labelled : LabelsStand n st spreads

-- and do not clash
pub record Consistent (n : ℕ) (closed : List ℕ) (groups : Groups) (spreads : List Spread) (st : List Statement)
    : Type 0 where
  pub stands : Standing n closed groups spreads st
  pub clear : clashes st n ≡ false

-- the answer says whether the statements with q clash, whatever statements they are among some
pub record Tried (n : ℕ) (Some : List Statement → Type 0) (q : Statement) (r : Bool) : Type 0 where
  pub answer : (st : List Statement) → Some st → r ≡ clashes (st ++ (q ∷ [])) n

-- a growth of as many variables as closed statements, with a copy of their table
pub record IsCopy (c : Closed) (g : Growth) : Type 0 where
  pub sizes : variables_of c ≡ g.n
  pub table : g.cells.now ≡ table_of c

-- a question on trial, in a copy of the closed table
pub record Asking (c : Closed) (g : Growth) (groups : Groups) (q : Statement) : Type 0 where
  pub copy : IsCopy c g
  pub trying : Trying g.n (table_of c) groups
  pub names : Names g.n q
