-- The run of the queue: at its end no rule adds a fact.
use Rattle.std.specs.Prelude.{ℕ, ◌<◌, length, ◌⊎◌}
use Rattle.rules.specs.declared.kinds.Kind.{Kind}
use Rattle.rules.specs.Facts.{Relation, Holds, Within}
use Rattle.rules.specs.Tables.{facts}
use Rattle.table.specs.Queue.{Queued, State}
use Rattle.facts.specs.Additions.{Moves, Framed}
use Rattle.selections.specs.declared.grouped.Groups.{Groups}
use Rattle.selections.specs.Groups.{Grouped}
use Rattle.selections.specs.Stands.{Selected}
use Rattle.derivation.specs.Descent.{Running}

-- a fact is handed down to all children at common features
pub record Handed (selected : Selected) (r : Relation) (kind : Kind) (i j : ℕ) : Type 0 where
  pub down : (f i' j' : ℕ) → selected i f i' → selected j f j' → Holds r kind i' j'

-- F2, F4: every fact of n variables is
abbrev pub Descends : ℕ → Selected → Relation → Type 0
Descends n selected r = (kind : Kind) (i j : ℕ) → i < n → j < n → Holds r kind i j → Handed selected r kind i j

-- every fact is handed down or still in the queue, from one place on
abbrev pub Pending : ℕ → Selected → ℕ → State → Type 0
Pending n selected head s =
    (kind : Kind) (i j : ℕ) → Holds (facts n s.table) kind i j
    → Queued s.queue head (length s.queue) i j ⊎ Handed selected (facts n s.table) kind i j

-- the queue may be run
pub record Starting (n : ℕ) (s : State) (groups : Groups) : Type 0 where
  pub running : Running n s groups
  pub pending : Pending n (Grouped groups) 0 s

-- the rules add nothing to the table any more, and it has no fact that they do not give
pub record Settled (n : ℕ) (selected : Selected) (s s' : State) : Type 0 where
  pub moves : Moves n s s'
  pub framed : Framed n (facts n s'.table)
  pub descends : Descends n selected (facts n s'.table)
  pub within : (r : Relation) → Framed n r → Descends n selected r → Within (facts n s.table) r
      → Within (facts n s'.table) r
