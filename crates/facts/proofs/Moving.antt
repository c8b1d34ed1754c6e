-- Laws of `Moves`: nothing moved, one move after another, what stays ready, and one cell that changes.
use Prim.Native.Nat.{ℕ, ◌*◌, ◌<◌, ◌≤◌}
use lib.ListN.{length}
use mathlib.Core.Bool.{false}
use mathlib.Core.List.{List}
use mathlib.Core.Logic.{◌⊎◌, inl, inr, ⊎_elim}
use mathlib.Core.Path.{◌≡◌, refl, ◌∙◌}
use native.Mathlib.Omega.{arith}
use Rattle.std.proofs.lemmas.Bool.{both_ways, cases_lt}
use Rattle.rules.specs.declared.kinds.Kind.{Kind}
use Rattle.rules.specs.Facts.{Holds, Within}
use Rattle.rules.specs.Tables.{facts, Shape, count_facts}
use Rattle.rules.proofs.Counts.{count_most, count_back, count_bound}
use Rattle.table.specs.Queue.{entry_at, Queued, IsEntry, State, fact_count, Ready}
use Rattle.table.proofs.Entries.{wider, carried}
use Rattle.facts.specs.Additions.{Moves}

pub moves_none : {n : ℕ} (s : State) → Shape n s.table → Moves n s s
moves_none s shape =
    record {
      shape = shape;
      grows = λ kind i j p. p;
      later = omega arith;
      kept = λ k h. refl;
      entries = λ k h g. absurd (omega arith);
      queued = λ kind i j p. inl p;
      counted = omega arith;
    }

module _ {n : ℕ} {s s' s'' : State} (first : Moves n s s') (second : Moves n s' s'') where
  kept_both : (k : ℕ) → k < length s.queue → entry_at s''.queue k ≡ entry_at s.queue k
  kept_both k h = second.kept k (omega (arith, first.later)) ∙ first.kept k h

  entries_both : (k : ℕ) → length s.queue ≤ k → k < length s''.queue → IsEntry n (entry_at s''.queue k)
  entries_both k h g =
      ⊎_elim (λ p. rw (second.kept k p) (first.entries k h p)) (λ p. second.entries k p g)
      (cases_lt k (length s'.queue))

  queued_both : (kind : Kind) (i j : ℕ) → Holds (facts n s''.table) kind i j
      → Holds (facts n s.table) kind i j ⊎ Queued s''.queue (length s.queue) (length s''.queue) i j
  queued_both kind i j p =
      ⊎_elim
      (λ q. ⊎_elim inl
      (λ e. inr (wider (omega arith) second.later (carried second.kept e)))
      (first.queued kind i j q))
      (λ e. inr (wider first.later (omega arith) e))
      (second.queued kind i j p)

  pub moves_then : Moves n s s''
  moves_then =
      record {
        shape = second.shape;
        grows = λ kind i j p. second.grows kind i j (first.grows kind i j p);
        later = omega (arith, first.later, second.later);
        kept = kept_both;
        entries = entries_both;
        queued = queued_both;
        counted = omega (arith, first.counted, second.counted);
      }

pub ready_after : {n : ℕ} {s s' : State} → Ready n s → Moves n s s' → Ready n s'
ready_after {n} {s} {s'} ready moves =
    record {
      few = ready.few;
      shape = moves.shape;
      room = omega (arith, ready.room, moves.counted);
      entries = λ k h.
          ⊎_elim (λ p. rw (moves.kept k p) (ready.entries k p)) (λ p. moves.entries k p h)
          (cases_lt k (length s.queue));
    }

-- a table that gains a fact has more facts
module _ (n : ℕ) (t t' : List ℕ) (grows : Within (facts n t) (facts n t')) where
  more_of : (kind : Kind) (i j : ℕ) → i < n → j < n → Holds (facts n t') kind i j → facts n t kind i j ≡ false
      → count_facts n (facts n t) kind < count_facts n (facts n t') kind
  more_of kind i j h g p q =
      ⊎_elim (λ e. e) (λ e. absurd (both_ways _ q (count_back n _ _ grows kind e i j h g p)))
      (cases_lt (count_facts n (facts n t) kind) (count_facts n (facts n t') kind))

  pub more_facts : (kind : Kind) (i j : ℕ) → i < n → j < n → Holds (facts n t') kind i j → facts n t kind i j ≡ false
      → fact_count n t < fact_count n t'
  unfolding fact_count
  more_facts Kind.Ordered i j h g p q =
      omega (arith, more_of Kind.Ordered i j h g p q, count_most n (facts n t) (facts n t') grows Kind.Compatible)
  more_facts Kind.Compatible i j h g p q =
      omega (arith, more_of Kind.Compatible i j h g p q, count_most n (facts n t) (facts n t') grows Kind.Ordered)

-- there are at most two facts for each pair
pub fact_bound : (n : ℕ) (t : List ℕ) → fact_count n t ≤ 2 * (n * n)
unfolding fact_count
fact_bound n t = omega (arith, count_bound n (facts n t) Kind.Ordered, count_bound n (facts n t) Kind.Compatible)
