-- The way back to a table, entry by entry.
use Prim.Native.Nat.{ℕ, ◌+◌, ◌<◌, ◌≤◌}
use lib.ListN.{length}
use mathlib.Core.List.{List}
use mathlib.Core.Logic.{◌⊎◌, inl, inr, ⊎_elim}
use mathlib.Core.Path.{◌≡◌, sym, ap, subst, ◌∙◌}
use native.Mathlib.Omega.{arith}
use Rattle.rules.specs.declared.kinds.Kind.{Kind}
use Rattle.rules.specs.Facts.{Holds}
use Rattle.rules.specs.Tables.{says, cell_at, facts}
use Rattle.rules.proofs.Logic.{same_tests}
use Rattle.rules.proofs.Tables.{fact_row, fact_column, fact_said, same_facts}
use Rattle.table.specs.Cells.{with_cell}
use Rattle.table.specs.declared.queue.Entry.{Entry}
use Rattle.table.specs.Queue.{entry_at, Queued, State, state}
use Rattle.table.proofs.Entries.{first_or_later, entries_from, none_left, is_left, entry_left}
use Rattle.table.proofs.Stores.{store_there, store_elsewhere, there_or, store_shape}
use Rattle.facts.specs.Restoring.{Restoring}

module _ {n : ℕ} {other : List ℕ} {s : State} {from : ℕ} (restoring : Restoring n other s from) where
  abbrev t : List ℕ
  t = s.table

  abbrev queue : List Entry
  queue = s.queue

  -- at the end of the queue
  pub restored : length queue ≤ from → t ≡ other
  restored h =
      same_facts n t other restoring.grown restoring.shape λ kind i j a b.
      same_tests _ _
      (λ p. ⊎_elim (λ q. q) (λ e. absurd (omega (arith, e.behind, e.ahead))) (restoring.queued kind i j p))
      (restoring.grows kind i j)

  -- one entry
  module _ (h : from < length queue) where
    abbrev entry : Entry
    entry = entry_at queue from

    row : entry.first.0 < n
    row = (restoring.entries from h).first

    column : entry.second.0 < n
    column = (restoring.entries from h).second

    module _ (t' : List ℕ)
        (stored : t' ≡ with_cell n t entry.first.0 entry.second.0 (cell_at n other entry.first.0
        entry.second.0)) where
      -- a fact there is the other table's, and elsewhere as it was
      there : (kind : Kind) → facts n t' kind entry.first.0 entry.second.0 ≡ facts n other kind entry.first.0
          entry.second.0
      there kind =
          fact_said n t' kind _ _ row column
          ∙ ap (says kind) (rw stored (store_there n t _ _ _ restoring.grown row column))
          ∙ sym (fact_said n other kind _ _ row column)

      elsewhere : (kind : Kind) (i j : ℕ) → i < n → j < n → (i ≡ entry.first.0 → j ≡ entry.second.0 → ⊥)
          → facts n t' kind i j ≡ facts n t kind i j
      elsewhere kind i j a b away =
          fact_said n t' kind i j a b
          ∙ ap (says kind) (rw stored (store_elsewhere n t _ _ _ restoring.grown row column i j b away))
          ∙ sym (fact_said n t kind i j a b)

      by_place : {C : Type 0} (i j : ℕ) → (i ≡ entry.first.0 → j ≡ entry.second.0 → C)
          → ((i ≡ entry.first.0 → j ≡ entry.second.0 → ⊥) → C) → C
      by_place = there_or n t _ _ 0 restoring.grown row column

      back : (kind : Kind) (i j : ℕ) → Holds (facts n other) kind i j → Holds (facts n t') kind i j
      back kind i j p =
          by_place i j (λ e f. rw (e, f) (there kind ∙ (rw (e, f) at p)))
          (λ away. elsewhere kind i j (fact_row n _ kind i j p) (fact_column n _ kind i j p) away
          ∙ restoring.grows kind i j p)

      -- an entry behind this one
      later : (i j : ℕ) → (i ≡ entry.first.0 → j ≡ entry.second.0 → ⊥) → Queued queue from (length queue) i j
          → Queued queue (from + 1) (length queue) i j
      later i j away e = first_or_later e (λ p q. absurd (away (sym p) (sym q))) (λ q. q)

      still_queued : (kind : Kind) (i j : ℕ) → Holds (facts n t') kind i j
          → Holds (facts n other) kind i j ⊎ Queued queue (from + 1) (length queue) i j
      still_queued kind i j p =
          by_place i j (λ e f. inl (rw (e, f) (sym (there kind) ∙ (rw (e, f) at p))))
          (λ away.
          ⊎_elim inl (λ e. inr (later i j away e))
          (restoring.queued kind i j
          (sym (elsewhere kind i j (fact_row n _ kind i j p) (fact_column n _ kind i j p) away) ∙ p)))

      pub restore_next : Restoring n other (state t' queue) (from + 1)
      restore_next =
          record {
            few = restoring.few;
            shape = restoring.shape;
            grown = rw stored (store_shape n t _ _ _ restoring.grown row column
                (restoring.shape.cells _ _ row column));
            grows = back;
            begin = omega arith;
            entries = restoring.entries;
            queued = still_queued;
          }

-- the same, where the entries from a place on are read one after another
module _ {n : ℕ} {other t : List ℕ} {queue items : List Entry} (from : ℕ) (read : items ≡ queue) where
  module _ {k : ℕ} (restoring : Restoring n other (state t queue) (from + k)) where
    pub restore_end : length (entries_from from items) ≤ k → t ≡ other
    restore_end h = restored restoring (none_left from k read h)

    -- one entry, whose variables were read as numbers
    module _ (h : k < length (entries_from from items)) {x y : ℕ}
        (first : x ≡ (entry_at (entries_from from items) k).first.0)
        (second : y ≡ (entry_at (entries_from from items) k).second.0) where
      pub restore_more : {m : ℕ} {t' : List ℕ} {cell : ℕ} → m ≡ n → cell ≡ cell_at m other x y
          → t' ≡ with_cell n t x y cell → Restoring n other (state t' queue) (from + (k + 1))
      restore_more {t' = t'} same looked stored =
          subst (λ k. Restoring n other (state t' queue) k) (omega arith)
          (restore_next restoring (is_left from k read h) t'
          (rw (← entry_left from k read h, ← first, ← second, ← rw same at looked) stored))
