-- Entries of the queue: between wider bounds, in a queue that has the same there, and one more behind the others.
use Prim.Native.Nat.{ℕ, ◌+◌, ◌-◌, ◌<◌, ◌≤◌}
use lib.ListN.{length, take, drop, length-take, length-drop, length-append, get_or-append}
use lib.Seq.{get_or-append-add}
use mathlib.Core.List.{List, [], ◌∷◌, ◌++◌}
use mathlib.Core.Logic.{⊎_elim}
use mathlib.Core.Path.{◌≡◌, sym, ap, ◌∙◌}
use native.Mathlib.Omega.{arith}
use Rattle.std.proofs.lemmas.Bool.{cases_eq}
use Rattle.std.proofs.lemmas.List.{get_or-take, get_or-drop}
use Rattle.table.specs.declared.queue.Entry.{Entry}
use Rattle.table.specs.Queue.{entry, no_entry, entry_at, Queued, IsEntry}

pub wider : {queue : List Entry} {from upto from' upto' i j : ℕ} → from' ≤ from → upto ≤ upto'
    → Queued queue from upto i j → Queued queue from' upto' i j
wider h g e =
    record {
      at = e.at;
      behind = omega (arith, e.behind);
      ahead = omega (arith, e.ahead);
      first = e.first;
      second = e.second;
    }

pub carried : {queue queue' : List Entry} {from upto i j : ℕ}
    → ((k : ℕ) → k < upto → entry_at queue' k ≡ entry_at queue k)
    → Queued queue from upto i j → Queued queue' from upto i j
carried kept e =
    record {
      at = e.at;
      behind = e.behind;
      ahead = e.ahead;
      first = ap (λ p. p.first.0) (kept e.at e.ahead) ∙ e.first;
      second = ap (λ p. p.second.0) (kept e.at e.ahead) ∙ e.second;
    }

-- the first entry, or one behind it
pub first_or_later : {C : Type 0} {queue : List Entry} {from upto i j : ℕ} → Queued queue from upto i j
    → ((entry_at queue from).first.0 ≡ i → (entry_at queue from).second.0 ≡ j → C)
    → (Queued queue (from + 1) upto i j → C) → C
first_or_later {queue = queue} {from = from} q first later =
    ⊎_elim
    (λ p.
    let e = ap (λ k. entry_at queue k) p in
    first (sym (ap (λ p. p.first.0) e) ∙ q.first) (sym (ap (λ p. p.second.0) e) ∙ q.second))
    (λ p.
    later (record {
      at = q.at;
      behind = omega (arith, q.behind);
      ahead = q.ahead;
      first = q.first;
      second = q.second;
    }))
    (cases_eq q.at from)

-- one more entry behind the entries so far
module _ (queue : List Entry) (e : Entry) where
  abbrev pushed : List Entry
  pushed = queue ++ e ∷ []

  pub pushed_size : length pushed ≡ length queue + 1
  pushed_size = length-append queue (e ∷ [])

  pub pushed_kept : (k : ℕ) → k < length queue → entry_at pushed k ≡ entry_at queue k
  pushed_kept k h = get_or-append queue (e ∷ []) no_entry k h

  pub pushed_there : entry_at pushed (length queue) ≡ e
  pushed_there = ap (entry_at pushed) (omega arith) ∙ get_or-append-add queue (e ∷ []) 0 no_entry

-- the entry of x and y behind the entries so far
module _ (queue : List Entry) (x y : ℕ) where
  pub pushed_entry : {n : ℕ} → x < n → y < n → IsEntry n (entry_at (queue ++ entry x y ∷ []) (length queue))
  pushed_entry h g = rw (pushed_there queue (entry x y)) (record { first = h; second = g })

  pub pushed_queued : Queued (queue ++ entry x y ∷ []) (length queue) (length queue + 1) x y
  pushed_queued =
      record {
        at = length queue;
        behind = omega arith;
        ahead = omega arith;
        first = ap (λ p. p.first.0) (pushed_there queue (entry x y));
        second = ap (λ p. p.second.0) (pushed_there queue (entry x y));
      }

-- the entries from a place on, as they are read one after another
abbrev pub entries_from : ℕ → List Entry → List Entry
entries_from from queue = take (length queue - from) (drop from queue)

module _ (from k : ℕ) {queue items : List Entry} (read : items ≡ queue) where
  pub none_left : length (entries_from from items) ≤ k → length queue ≤ from + k
  none_left h =
      omega
      (arith, length-take (length items - from) (drop from items), length-drop from items, ap length read, h)

  pub left_of : from + k < length queue → k < length (entries_from from items)
  left_of h =
      omega
      (arith, length-take (length items - from) (drop from items), length-drop from items, ap length read, h)

  module _ (h : k < length (entries_from from items)) where
    pub is_left : from + k < length queue
    is_left =
        omega
        (arith, length-take (length items - from) (drop from items), length-drop from items, ap length read, h)

    pub entry_left : entry_at (entries_from from items) k ≡ entry_at queue (from + k)
    entry_left =
        get_or-take (length items - from) (drop from items) k no_entry
        (omega (arith, length-take (length items - from) (drop from items), h))
        ∙ get_or-drop from items k no_entry
        ∙ ap (λ q. entry_at q (from + k)) read
