-- The run of the queue: what holds on the way, entry by entry, and at its end.
use Prim.Native.Nat.{ℕ, ◌+◌, ◌<◌, ◌≤◌}
use lib.ListN.{length}
use mathlib.Core.Logic.{◌⊎◌, inl, inr, ⊎_elim}
use mathlib.Core.Path.{◌≡◌, ap, subst, ◌∙◌}
use native.Mathlib.Omega.{arith}
use Rattle.rules.specs.declared.kinds.Kind.{Kind}
use Rattle.rules.specs.Facts.{Relation, Holds, Within}
use Rattle.rules.specs.Tables.{facts}
use Rattle.rules.proofs.Tables.{fact_row, fact_column}
use Rattle.table.specs.declared.queue.Entry.{Entry}
use Rattle.table.specs.Queue.{entry_at, Queued, State, Ready, queue_room}
use Rattle.table.proofs.Entries.{wider, carried, first_or_later}
use Rattle.facts.specs.Additions.{Moves, Framed, Steps}
use Rattle.facts.proofs.Moving.{moves_none, moves_then, ready_after, fact_bound}
use Rattle.selections.specs.declared.grouped.Groups.{Groups}
use Rattle.selections.specs.Groups.{Grouped}
use Rattle.selections.specs.Stands.{Selected}
use Rattle.derivation.specs.Descent.{Visited}
use Rattle.derivation.specs.Settled.{Handed, Descends, Pending, Starting, Settled}

-- the queue is no longer than its room
pub tail_bound : {n : ℕ} {s : State} → Ready n s → length s.queue ≤ queue_room
tail_bound {n} {s} ready = omega (arith, ready.room, fact_bound n s.table)

-- what is handed down in a set of facts is so in a larger one
pub handed_on : {selected : Selected} {r r' : Relation} {kind : Kind} {i j : ℕ} → Within r r'
    → Handed selected r kind i j → Handed selected r' kind i j
handed_on {kind = kind} grows p = record { down = λ f i' j' a b. grows kind i' j' (p.down f i' j' a b) }

-- the entries before head are visited
pub record Halfway (n : ℕ) (selected : Selected) (s s' : State) (head : ℕ) : Type 0 where
  pub moves : Moves n s s'
  pub framed : Framed n (facts n s'.table)
  pub passed : head ≤ length s'.queue
  pub pending : Pending n selected head s'
  pub within : (r : Relation) → Framed n r → Descends n selected r → Within (facts n s.table) r
      → Within (facts n s'.table) r

module _ {n : ℕ} {s : State} {groups : Groups}
    (starting : Starting n s groups) where
  abbrev chosen : Selected
  chosen = Grouped groups

  pub halfway_start : Halfway n (Grouped groups) s s 0
  halfway_start =
      record {
        moves = moves_none s starting.running.ready.shape;
        framed = starting.running.framed;
        passed = omega arith;
        pending = starting.pending;
        within = λ r framed descends old. old;
      }

  module _ {s' : State} {head : ℕ} (half : Halfway n (Grouped groups) s s' head) where
    pub halfway_ready : Ready n s'
    halfway_ready = ready_after starting.running.ready half.moves

    -- one more entry is visited
    module _ {m : ℕ} {s'' : State} (entry : Entry) (same : m ≡ n) (e : entry ≡ entry_at s'.queue head)
        (h : head < length s'.queue) (visited : Steps m (Visited m s'.table groups entry) s' s'') where
      steps : Steps n (Visited n s'.table groups entry) s' s''
      steps = subst (λ z. Steps z (Visited z s'.table groups entry) s' s'') same visited

      handed_entry : (kind : Kind) → Holds (facts n s'.table) kind entry.first.0 entry.second.0
          → Handed chosen (facts n s''.table) kind entry.first.0 entry.second.0
      handed_entry kind p =
          record {
            down = λ f i' j' a b.
                steps.given kind i' j' (record { parents = p; feature = f; first = a; second = b });
          }

      from_queue : (kind : Kind) (i j : ℕ) → Holds (facts n s'.table) kind i j
          → Queued s'.queue head (length s'.queue) i j
          → Queued s''.queue (head + 1) (length s''.queue) i j ⊎ Handed chosen (facts n s''.table) kind i j
      from_queue kind i j p q =
          first_or_later q
          (λ a b.
          let x : entry.first.0 ≡ i = ap (λ z. z.first.0) e ∙ a in
          let y : entry.second.0 ≡ j = ap (λ z. z.second.0) e ∙ b in
          inr (rw (← x, ← y) (handed_entry kind (rw (x, y) p))))
          (λ later. inl (wider (omega arith) steps.moves.later (carried steps.moves.kept later)))

      pending_next : Pending n chosen (head + 1) s''
      pending_next kind i j p =
          ⊎_elim
          (λ q. ⊎_elim (from_queue kind i j q) (λ a. inr (handed_on steps.moves.grows a))
          (half.pending kind i j q))
          (λ q. inl (wider (omega arith) (omega arith) q))
          (steps.moves.queued kind i j p)

      pub halfway_next : Halfway n (Grouped groups) s s'' (head + 1)
      halfway_next =
          record {
            moves = moves_then half.moves steps.moves;
            framed = steps.framed;
            passed = omega (arith, steps.moves.later);
            pending = pending_next;
            within = λ r framed descends old.
                let before = half.within r framed descends old in
                steps.within r framed before λ kind x y p.
                (descends kind entry.first.0 entry.second.0 (fact_row n s'.table kind _ _ p.parents)
                (fact_column n s'.table kind _ _ p.parents) (before kind _ _ p.parents)).down p.feature x y
                p.first p.second;
          }

    -- none is left
    pub halfway_end : length s'.queue ≤ head → Settled n (Grouped groups) s s'
    halfway_end h =
        record {
          moves = half.moves;
          framed = half.framed;
          descends = λ kind i j b c p.
              ⊎_elim (λ q. absurd (omega (arith, q.behind, q.ahead))) (λ a. a) (half.pending kind i j p);
          within = half.within;
        }
