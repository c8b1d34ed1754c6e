-- A fact on trial: from the closed table to the least closed one that has it too.
use Prim.Native.Nat.{ℕ, ◌+◌, ◌*◌, ◌<◌, ◌≤◌}
use lib.ListN.{length}
use mathlib.Core.List.{List, [], ◌∷◌, ◌++◌}
use mathlib.Core.Logic.{inl, inr, ⊎_elim}
use mathlib.Core.Path.{◌≡◌, sym, subst}
use native.Mathlib.Nat.{mul-le-mul}
use native.Mathlib.Omega.{arith}
use Rattle.fields.specs.Limits.{most_variables}
use Rattle.rules.specs.declared.kinds.Kind.{Kind}
use Rattle.rules.specs.Facts.{Holds}
use Rattle.rules.specs.Tables.{facts}
use Rattle.rules.proofs.Logic.{last_or_before}
use Rattle.rules.proofs.Tables.{fact_row, fact_column}
use Rattle.table.specs.declared.queue.Entry.{Entry}
use Rattle.table.specs.Queue.{State, state, entry, entry_at, Queued, IsEntry, Ready, queue_room}
use Rattle.table.proofs.Entries.{wider, carried, pushed_size, pushed_kept, pushed_entry, pushed_queued}
use Rattle.facts.specs.Additions.{Facts, Steps}
use Rattle.facts.proofs.Moving.{moves_then, ready_after}
use Rattle.selections.specs.declared.grouped.Groups.{Groups}
use Rattle.selections.specs.Groups.{Grouped}
use Rattle.derivation.specs.Settled.{Handed, Starting, Settled}
use Rattle.derivation.proofs.Runs.{handed_on}
use Rattle.closure.specs.Trials.{Trying, TryingFact, Tries, SubjectQueued}

-- as many entries as the pairs of one variable leave room for all facts
pub few_entries : (n size count : ℕ) → n ≤ most_variables → size ≤ 2 * n → size + 2 * (n * n) ≤ queue_room + count
few_entries n size count few h = omega (arith, mul-le-mul few few)

module _ {n : ℕ} {t : List ℕ} {queue : List Entry} {groups : Groups} {i j : ℕ}
    (trying : TryingFact n t groups i j) (empty : queue ≡ []) where
  abbrev given_to : Trying n t groups
  given_to = trying.trying

  pub fact_ready : Ready n (state t queue)
  fact_ready =
      rw empty (record {
        few = given_to.few;
        shape = given_to.shape;
        room = few_entries n 0 _ given_to.few (omega arith);
        entries = λ k h. absurd (omega arith);
      })

  module _ {P : Facts} {s₁ : State} (steps : Steps n P (state t queue) s₁) where
    old_handed : (kind : Kind) (x y : ℕ) → Holds (facts n t) kind x y
        → Handed (Grouped groups) (facts n s₁.table) kind x y
    old_handed kind x y p =
        handed_on steps.moves.grows
        (given_to.descends kind x y (fact_row n t kind x y p) (fact_column n t kind x y p) p)

    -- the queue was empty
    from_start : {queue' : List Entry} {upto x y : ℕ} → Queued queue' (length queue) upto x y → Queued queue' 0 upto x y
    from_start q = wider (omega arith) (omega arith) q

    pub fact_run : Starting n s₁ groups
    fact_run =
        record {
          running =
              record {
                ready = ready_after fact_ready steps.moves;
                framed = steps.framed;
                lawful = given_to.lawful;
              };
          pending = λ kind x y p.
              ⊎_elim (λ q. inr (old_handed kind x y q)) (λ q. inl (from_start q)) (steps.moves.queued kind x y p);
        }

    pub fact_tried : {s₂ : State} → Settled n (Grouped groups) s₁ s₂
        → Tries n (Grouped groups) P t s₂.table s₂.queue 0
    fact_tried {s₂} settled =
        let moves = moves_then steps.moves settled.moves in
        let ready = ready_after fact_ready moves in
        record {
          shape = moves.shape;
          grows = moves.grows;
          framed = settled.framed;
          descends = settled.descends;
          given = λ kind x y p. settled.moves.grows kind x y (steps.given kind x y p);
          within = λ r framed descends old has.
              settled.within r framed descends (steps.within r framed old has);
          begin = omega arith;
          entries = ready.entries;
          queued = λ kind x y p. ⊎_elim inl (λ q. inr (from_start q)) (moves.queued kind x y p);
        }

-- the run of the queue, of one number of variables or an equal one
pub starting_at : {m n : ℕ} {s : State} {groups : Groups} → m ≡ n → Starting n s groups → Starting m s groups
starting_at {s = s} {groups = groups} same = subst (λ z. Starting z s groups) (sym same)

pub settled_to : {m n : ℕ} {s s' : State} {groups : Groups} → m ≡ n → Settled m (Grouped groups) s s'
    → Settled n (Grouped groups) s s'
settled_to {s = s} {s' = s'} {groups = groups} same = subst (λ z. Settled z (Grouped groups) s s') same

-- an entry more
module _ (queue queue' : List Entry) (x y : ℕ) (pushed : queue' ≡ queue ++ (entry x y ∷ [])) where
  push_size : length queue' ≡ length queue + 1
  push_size = rw pushed (pushed_size queue (entry x y))

  push_kept : (k : ℕ) → k < length queue → entry_at queue' k ≡ entry_at queue k
  push_kept k b = rw pushed (pushed_kept queue (entry x y) k b)

  push_entries : {n : ℕ} → x < n → y < n → ((k : ℕ) → k < length queue → IsEntry n (entry_at queue k)) → (k : ℕ)
      → k < length queue' → IsEntry n (entry_at queue' k)
  push_entries {n} h g old k b =
      last_or_before k (length queue) (omega (arith, push_size))
      (λ e. rw (e, pushed) (pushed_entry queue x y {n = n} h g))
      (λ c. rw (push_kept k c) (old k c))

  push_queued : Queued queue' 0 (length queue') x y
  push_queued =
      wider {from = length queue} {upto = length queue + 1} (omega arith) (omega (arith, push_size))
      (rw pushed (pushed_queued queue x y))

  push_still : {i j : ℕ} → Queued queue 0 (length queue) i j → Queued queue' 0 (length queue') i j
  push_still q = wider (omega arith) (omega (arith, push_size)) (carried push_kept q)

-- the pairs of i and each variable below a are queued, and those of each below b and i
pub record Ones (n i a b : ℕ) (queue : List Entry) : Type 0 where
  pub count : length queue ≡ a + b
  pub entries : (k : ℕ) → k < length queue → IsEntry n (entry_at queue k)
  pub left : (y : ℕ) → y < a → Queued queue 0 (length queue) i y
  pub right : (y : ℕ) → y < b → Queued queue 0 (length queue) y i

-- none yet
pub ones_start : (n i : ℕ) {queue : List Entry} → queue ≡ [] → Ones n i 0 0 queue
ones_start n i e =
    rw e (record {
      count = omega arith;
      entries = λ k h. absurd (omega arith);
      left = λ y h. absurd (omega arith);
      right = λ y h. absurd (omega arith);
    })

-- one more, of either kind
module _ {n i a b : ℕ} (few : n ≤ most_variables) (subject : i < n) {queue : List Entry} (so_far : Ones n i a b queue) where
  pub ones_room : a + b < 2 * n → length queue < queue_room
  ones_room h = omega (arith, so_far.count)

  pub left_next : a < n → (queue' : List Entry) → queue' ≡ queue ++ (entry i a ∷ []) → Ones n i (a + 1) b queue'
  left_next h queue' pushed =
      record {
        count = omega (arith, so_far.count, push_size queue queue' i a pushed);
        entries = push_entries queue queue' i a pushed subject h so_far.entries;
        left = λ y g.
            last_or_before y a (omega arith) (λ e. rw e (push_queued queue queue' i a pushed))
            (λ c. push_still queue queue' i a pushed (so_far.left y c));
        right = λ y g. push_still queue queue' i a pushed (so_far.right y g);
      }

  pub right_next : b < n → (queue' : List Entry) → queue' ≡ queue ++ (entry b i ∷ []) → Ones n i a (b + 1) queue'
  right_next h queue' pushed =
      record {
        count = omega (arith, so_far.count, push_size queue queue' b i pushed);
        entries = push_entries queue queue' b i pushed h subject so_far.entries;
        left = λ y g. push_still queue queue' b i pushed (so_far.left y g);
        right = λ y g.
            last_or_before y b (omega arith) (λ e. rw e (push_queued queue queue' b i pushed))
            (λ c. push_still queue queue' b i pushed (so_far.right y c));
      }

-- all of them
pub ones_all : {n i b : ℕ} {queue : List Entry} → b ≡ n → Ones n i n b queue → SubjectQueued n i n queue
ones_all last all =
    record {
      count = omega (arith, all.count, last);
      entries = all.entries;
      left = all.left;
      right = λ y h. all.right y (omega (arith, last));
    }
