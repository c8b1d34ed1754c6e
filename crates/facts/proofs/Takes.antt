-- One cell that is joined with another: what is added to table and queue.
use Prim.Native.Nat.{ℕ, ◌+◌, ◌<◌}
use lib.Bits.{bit_or}
use lib.ListN.{length}
use mathlib.Core.Bool.{Bool, true, not}
use mathlib.Core.List.{List, [], ◌∷◌, ◌++◌}
use mathlib.Core.Logic.{inl, inr}
use mathlib.Core.Path.{◌≡◌, sym, ap, ◌∙◌}
use native.Mathlib.Omega.{arith}
use Rattle.std.proofs.lemmas.Bool.{both_ways}
use Rattle.std.proofs.lemmas.Nat.{or_lt}
use Rattle.fields.proofs.Choice.{is_same}
use Rattle.rules.specs.Connectives.{◌or◌}
use Rattle.rules.specs.declared.kinds.Kind.{Kind}
use Rattle.rules.specs.Facts.{Holds, Within}
use Rattle.rules.specs.Tables.{says, cell_at, facts}
use Rattle.rules.proofs.Logic.{either_first, either_second, either_of}
use Rattle.rules.proofs.Tables.{fact_row, fact_column, fact_said}
use Rattle.table.specs.Cells.{with_cell, is_lacking}
use Rattle.table.specs.declared.queue.Entry.{Entry}
use Rattle.table.specs.Queue.{entry, Queued, State, state, fact_count, queue_room}
use Rattle.table.proofs.Entries.{pushed_size, pushed_kept, pushed_entry, pushed_queued}
use Rattle.table.proofs.Stores.{store_there, store_elsewhere, store_shape, there_or}
use Rattle.facts.specs.Additions.{Said, Added}
use Rattle.facts.specs.Insertion.{Taking}
use Rattle.facts.proofs.Joined.{joined_says, gains}
use Rattle.facts.proofs.Moving.{more_facts, fact_bound}

-- what holds of a pair holds of the same pair by other names
at_pair : (P : ℕ → ℕ → Type 0) {i j x y : ℕ} → i ≡ x → j ≡ y → P x y → P i j
at_pair P e f p = rw (e, f) p

module _ (n : ℕ) (s : State) (w x y : ℕ) (taking : Taking n s w x y) where
  abbrev old : ℕ
  old = cell_at n s.table x y

  abbrev new : List ℕ
  new = with_cell n s.table x y (bit_or old w)

  old_small : old < 4
  old_small = taking.ready.shape.cells x y taking.first taking.second

  -- the facts of the new table
  said_there : (kind : Kind) → facts n new kind x y ≡ says kind old or says kind w
  said_there kind =
      fact_said n new kind x y taking.first taking.second
      ∙ ap (says kind) (store_there n s.table x y (bit_or old w) taking.ready.shape taking.first
      taking.second)
      ∙ joined_says kind old w old_small taking.cell

  said_elsewhere : (kind : Kind) (i j : ℕ) → i < n → j < n → (i ≡ x → j ≡ y → ⊥)
      → facts n new kind i j ≡ facts n s.table kind i j
  said_elsewhere kind i j h g away =
      fact_said n new kind i j h g
      ∙ ap (says kind)
      (store_elsewhere n s.table x y (bit_or old w) taking.ready.shape taking.first taking.second i j g
      away)
      ∙ sym (fact_said n s.table kind i j h g)

  old_said : (kind : Kind) → Holds (facts n s.table) kind x y → says kind old ≡ true
  old_said kind p = sym (fact_said n s.table kind x y taking.first taking.second) ∙ p

  said_old : (kind : Kind) → says kind old ≡ true → Holds (facts n s.table) kind x y
  said_old kind p = fact_said n s.table kind x y taking.first taking.second ∙ p

  new_grows : Within (facts n s.table) (facts n new)
  new_grows kind i j p =
      there_or n s.table x y (bit_or old w) taking.ready.shape taking.first taking.second i j
      (λ e f.
      at_pair (λ a b. Holds (facts n new) kind a b) e f
      (said_there kind ∙ either_first (says kind w)
      (old_said kind (at_pair (λ a b. Holds (facts n s.table) kind a b) (sym e) (sym f) p))))
      (λ away. said_elsewhere kind i j (fact_row n _ kind i j p) (fact_column n _ kind i j p) away ∙ p)

  -- a cell that changes is stored and queued
  module _ (changed : bit_or old w ≡ old → ⊥) where
    more : fact_count n s.table < fact_count n new
    more =
        gains old w old_small taking.cell
        (λ kind p q.
        more_facts n s.table new new_grows kind x y taking.first taking.second
        (said_there kind ∙ either_second (says kind old) p)
        (fact_said n s.table kind x y taking.first taking.second ∙ q))
        changed

    pub has_room : length s.queue < queue_room
    has_room = omega (arith, more, fact_bound n new, taking.ready.room)

    abbrev queue : List Entry
    queue = s.queue ++ entry x y ∷ []

    size : length queue ≡ length s.queue + 1
    size = pushed_size s.queue (entry x y)

    queued : (i j : ℕ) → i ≡ x → j ≡ y → Queued queue (length s.queue) (length queue) i j
    queued i j e f =
        at_pair (Queued queue (length s.queue) (length queue)) e f
        (rw size (pushed_queued s.queue x y))

    abbrev next : State
    next = state new queue

    by_place : {C : Type 0} (kind : Kind) (i j : ℕ) → Holds (facts n new) kind i j
        → (i ≡ x → j ≡ y → says kind old or says kind w ≡ true → C) → (Holds (facts n s.table) kind i j → C) → C
    by_place kind i j p there away =
        there_or n s.table x y (bit_or old w) taking.ready.shape taking.first taking.second i j
        (λ e f.
        there e f
        (sym (said_there kind) ∙ at_pair (λ a b. Holds (facts n new) kind a b) (sym e) (sym f) p))
        (λ apart.
        away (sym (said_elsewhere kind i j (fact_row n _ kind i j p) (fact_column n _ kind i j p) apart) ∙ p))

    pub cell_taken : Added n (Said w x y) s next
    cell_taken =
        record {
          moves =
              record {
                shape =
                    store_shape n s.table x y (bit_or old w) taking.ready.shape taking.first taking.second
                    (or_lt 2 old w old_small taking.cell);
                grows = new_grows;
                later = omega (arith, size);
                kept = pushed_kept s.queue (entry x y);
                entries = λ k h g.
                    let here : k ≡ length s.queue = omega (arith, size) in
                    rw here (pushed_entry s.queue x y taking.first taking.second);
                queued = λ kind i j p. by_place kind i j p (λ e f q. inr (queued i j e f)) inl;
                counted = omega (arith, more, size);
              };
          given = λ kind i j p.
              at_pair (λ a b. Holds (facts n new) kind a b) p.first p.second
              (said_there kind ∙ either_second (says kind old) p.told);
          only = λ kind i j p.
              by_place kind i j p
              (λ e f q.
              either_of (says kind old) (says kind w) q
              (λ z. inl (at_pair (λ a b. Holds (facts n s.table) kind a b) e f (said_old kind z)))
              (λ z. inr (record { first = e; second = f; told = z })))
              inl;
        }

-- the same, of a cell that was looked at and lacks some of w
module _ (n : ℕ) (s : State) (w x y cell : ℕ) (taking : Taking n s w x y) (e : cell ≡ cell_at n s.table x y)
    {lacks : Bool} (asked : lacks ≡ is_lacking cell w) (lacking : lacks ≡ true) where
  looked : bit_or (cell_at n s.table x y) w ≡ cell_at n s.table x y → ⊥
  unfolding is_lacking
  looked none = both_ways _ (ap not (is_same _ _ none)) (rw e at (sym asked ∙ lacking))

  pub take_room : length s.queue < queue_room
  take_room = has_room n s w x y taking looked

  pub take_one : {joined : ℕ} (t : List ℕ) (queue : List Entry) → joined ≡ bit_or cell w
      → t ≡ with_cell n s.table x y joined → queue ≡ s.queue ++ entry x y ∷ []
      → Added n (Said w x y) s (state t queue)
  take_one t queue with p q = rw (p, q, with, e) (cell_taken n s w x y taking looked)
