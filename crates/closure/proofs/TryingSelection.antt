-- A selection on trial: from the closed table to the least one that is closed with it.
use Prim.Native.Nat.{ℕ, ◌*◌, ◌<◌}
use mathlib.Core.List.{List}
use mathlib.Core.Logic.{inl, inr, ⊎_elim}
use mathlib.Core.Path.{◌≡◌}
use native.Mathlib.Omega.{arith}
use Rattle.std.proofs.lemmas.Bool.{cases_eq}
use Rattle.rules.specs.declared.kinds.Kind.{Kind}
use Rattle.rules.specs.Facts.{Holds}
use Rattle.rules.specs.Tables.{facts}
use Rattle.rules.proofs.Tables.{fact_row, fact_column}
use Rattle.table.specs.declared.queue.Entry.{Entry}
use Rattle.table.specs.Queue.{State, state, Ready}
use Rattle.table.proofs.Entries.{wider}
use Rattle.facts.proofs.Moving.{ready_after}
use Rattle.selections.specs.declared.grouped.Child.{Child}
use Rattle.selections.specs.declared.grouped.Groups.{Groups}
use Rattle.selections.specs.declared.trial.Kept.{Kept}
use Rattle.selections.specs.Groups.{Grouped}
use Rattle.selections.specs.Trial.{Put}
use Rattle.selections.specs.Stands.{Selected}
use Rattle.selections.proofs.Theorems.{put_groups, put_each, put_no_other}
use Rattle.derivation.specs.Settled.{Handed, Starting, Settled}
use Rattle.closure.specs.Trials.{TryingSelection, Nothing, WithOne, before, last, Tries, SubjectQueued}
use Rattle.closure.proofs.Trying.{few_entries}

module _ {n : ℕ} {t : List ℕ} {groups : Groups} {i : ℕ} {child : Child}
    (trying : TryingSelection n t groups i child.variable.0)
    (queue₁ : List Entry) (groups' : Groups) (kept : Kept)
    (put : Put i child groups groups' kept)
    (queued : SubjectQueued n i n queue₁) where
  abbrev f : ℕ
  f = child.feature.0

  abbrev j : ℕ
  j = child.variable.0

  abbrev old : Selected
  old = Grouped groups

  abbrev new : Selected
  new = Grouped groups'

  -- the groups have the selections from before and the one on trial
  only : (x g y : ℕ) → x < n → new x g y → WithOne old i f j x g y
  only x g y h p =
      ⊎_elim before (λ e. last e.0 e.1 e.2)
      (put_no_other trying.trying.spare trying.subject put h p)

  each : (x g y : ℕ) → x < n → WithOne old i f j x g y → new x g y
  each x g y h (before p) = put_each trying.trying.spare trying.subject put h (inl p)
  each x g y h (last a b c) = put_each trying.trying.spare trying.subject put h (inr (a, b, c))

  others : (x g y : ℕ) → x < n → (x ≡ i → ⊥) → new x g y → old x g y
  others x g y h away p =
      ⊎_elim (λ q. q) (λ e. absurd (away e.0)) (put_no_other trying.trying.spare trying.subject put h p)

  subject_ready : Ready n (state t queue₁)
  subject_ready =
      record {
        few = trying.trying.few;
        shape = trying.trying.shape;
        room = few_entries n _ _ trying.trying.few (omega (arith, queued.count));
        entries = queued.entries;
      }

  -- a pair of other variables is handed down already
  apart : (kind : Kind) (x y : ℕ) → Holds (facts n t) kind x y → (x ≡ i → ⊥) → (y ≡ i → ⊥)
      → Handed new (facts n t) kind x y
  apart kind x y p away away' =
      let h = fact_row n t kind x y p in
      let g = fact_column n t kind x y p in
      record {
        down = λ e x' y' a b.
            (trying.trying.descends kind x y h g p).down e x' y' (others x e x' h away a)
            (others y e y' g away' b);
      }

  selection_run : Starting n (state t queue₁) groups'
  selection_run =
      record {
        running =
            record {
              ready = subject_ready;
              framed = trying.trying.framed;
              lawful =
                  put_groups trying.trying.spare trying.subject put trying.child trying.trying.lawful;
            };
        pending = λ kind x y p.
            ⊎_elim (λ a. inl (rw a (queued.left y (fact_column n t kind x y p))))
            (λ a.
            ⊎_elim (λ b. inl (rw b (queued.right x (fact_row n t kind x y p))))
            (λ b. inr (apart kind x y p a b)) (cases_eq y i)) (cases_eq x i);
      }

  selection_tried : {s : State} → Settled n new (state t queue₁) s
      → Tries n (WithOne old i f j) Nothing t s.table s.queue (2 * n)
  selection_tried {s} settled =
      let ready = ready_after subject_ready settled.moves in
      record {
        shape = settled.moves.shape;
        grows = settled.moves.grows;
        framed = settled.framed;
        descends = λ kind x y h g p.
            record {
              down = λ e x' y' a b.
                  (settled.descends kind x y h g p).down e x' y' (each x e x' h a) (each y e y' g b);
            };
        given = λ kind x y p. absurd p;
        within = λ r framed descends within has.
            settled.within r framed
            (λ kind x y h g p.
            record {
              down = λ e x' y' a b. (descends kind x y h g p).down e x' y' (only x e x' h a) (only y e y' g b);
            })
            within;
        begin = omega (arith, settled.moves.later, queued.count);
        entries = ready.entries;
        queued = λ kind x y p.
            ⊎_elim inl (λ q. inr (wider (omega (arith, queued.count)) (omega arith) q))
            (settled.moves.queued kind x y p);
      }

  -- the same, where the call between says its own numbers, table and groups
  module _ {m : ℕ} {t' : List ℕ} {groups'' : Groups} (same : m ≡ n) (table : t' ≡ t) (grouped : groups'' ≡ groups') where
    pub selection_may_run : Starting m (state t' queue₁) groups''
    selection_may_run = rw (same, table, grouped) selection_run

    pub selection_is_tried : {s : State} → Settled m (Grouped groups'') (state t' queue₁) s
        → Tries n (WithOne old i f j) Nothing t s.table s.queue (2 * n)
    selection_is_tried settled = selection_tried (rw (same, table, grouped) at settled)
