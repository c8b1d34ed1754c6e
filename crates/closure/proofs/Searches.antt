-- The search of the queue for a pair to which F5 applies.
use Prim.Native.Nat.{ℕ, ◌+◌, ◌-◌, ◌<◌}
use lib.ListN.{length, get_or}
use mathlib.Core.Bool.{Bool, true, false}
use mathlib.Core.List.{List, reverse}
use mathlib.Core.Path.{◌≡◌, sym, ap, ◌∙◌}
use native.Mathlib.Omega.{arith}
use Rattle.std.specs.Prelude.{◌↔◌}
use Rattle.std.specs.List.{list_any}
use Rattle.std.proofs.lemmas.List.{get_or_default, get_or-reverse, length-reverse}
use Rattle.std.proofs.lemmas.List.Folds.{list_any_at}
use Rattle.items.specs.declared.items.Statement.{Statement}
use Rattle.rules.specs.declared.kinds.Kind.{Kind}
use Rattle.rules.specs.Tables.{says, cell_at, facts}
use Rattle.rules.specs.Clashes.{clashes_at}
use Rattle.rules.proofs.Logic.{same_tests}
use Rattle.rules.proofs.Tables.{fact_said}
use Rattle.table.specs.declared.queue.Entry.{Entry}
use Rattle.table.specs.Queue.{no_entry, entry_at}
use Rattle.table.proofs.Entries.{entries_from, left_of, is_left, entry_left}
use Rattle.labels.specs.declared.spread.Spread.{Spread}
use Rattle.labels.specs.Labels.{DifferTold}
use Rattle.answers.proofs.Logic.{fails_first, second_decides}
use Rattle.answers.proofs.Ranges.{passing_at}
use Rattle.closure.specs.Trials.{Searching, entry_clashes, EntryTold, Sought, QueuedClash}

-- one entry, whose variables were taken from it
module _ {n : ℕ} {t : List ℕ} {entry : Entry} (searching : Searching n t entry) (i j : ℕ) (first : i ≡ entry.first.0)
    (second : j ≡ entry.second.0) where
  search_row : i < n
  search_row = rw first searching.pair.first

  search_column : j < n
  search_column = rw second searching.pair.second

  -- and whose cell was asked
  module _ (cell : ℕ) (alike : Bool) (looked : cell ≡ cell_at n t i j) (asked : alike ≡ says Kind.Compatible cell) where
    of_cell : facts n t Kind.Compatible i j ≡ alike
    of_cell =
        fact_said n t Kind.Compatible i j search_row search_column ∙ ap (says Kind.Compatible) (sym looked) ∙ sym asked

    pub entry_open : {spreads : List Spread} {r : Bool} → alike ≡ true → DifferTold spreads i j r
        → EntryTold n t spreads entry r
    unfolding entry_clashes clashes_at
    entry_open p told =
        record {
          told = λ st stand.
              rw (← first, ← second)
              (second_decides (of_cell ∙ p) (told.told n st stand search_row search_column));
        }

    pub entry_clear : {spreads : List Spread} → alike ≡ false → EntryTold n t spreads entry false
    unfolding entry_clashes clashes_at
    entry_clear p =
        record { told = λ st stand. rw (← first, ← second) (sym (fails_first _ (of_cell ∙ p))) }

-- the entries from a place on, as they are read, the last first
abbrev pub last_first : ℕ → List Entry → List Entry
last_first from items = reverse (entries_from from items)

-- where the one that is read behind k others stands
abbrev read_at : ℕ → List Entry → ℕ → ℕ
read_at from items k = length (entries_from from items) - 1 - k

-- each entry that is read so has variables below n
pub may_search : {n : ℕ} {t : List ℕ} {queue items : List Entry} (from : ℕ) → items ≡ queue → Sought n t queue from
    → (entry : Entry) (k : ℕ) → k < length (last_first from items)
    → entry ≡ get_or (last_first from items) k entry → Searching n t entry
may_search {items = items} from read sought entry k h e =
    let h' : k < length (entries_from from items) = omega (arith, h, length-reverse (entries_from from items)) in
    let b : read_at from items k < length (entries_from from items) = omega (arith, h') in
    let is =
    e ∙ get_or_default (last_first from items) k entry no_entry h
    ∙ get_or-reverse (entries_from from items) k no_entry h' ∙ entry_left from (read_at from items k) read b in
    record {
      few = sought.few;
      shape = sought.shape;
      pair = rw is (sought.entries (from + read_at from items k) (is_left from (read_at from items k) read b));
    }

-- whether some element passes is asked of a list in either direction
either_way : {A : Type 0} (test : A → Bool) (xs : List A) (d : A) → list_any test (reverse xs) ≡ list_any test xs
either_way test xs d =
    let size = length-reverse xs in
    same_tests _ _
    (λ p. passing_at test (reverse xs) d p λ k h q.
    list_any_at test xs (length xs - 1 - k) d (omega (arith, h, size))
    (ap test (sym (get_or-reverse xs k d (omega (arith, h, size)))) ∙ q))
    (λ p. passing_at test xs d p λ k h q.
    let k' = length xs - 1 - k in
    let back : length xs - 1 - k' ≡ k = omega (arith, h) in
    list_any_at test (reverse xs) k' d (omega (arith, h, size))
    (ap test (get_or-reverse xs k' d (omega (arith, h)) ∙ ap (λ z. get_or xs z d) back) ∙ q))

-- F5 applies to one of them where it applies to an entry of the queue
module _ (n : ℕ) (t : List ℕ) (st : List Statement) {queue items : List Entry} (from : ℕ) (read : items ≡ queue) where
  abbrev applies : Entry → Bool
  applies = entry_clashes n t st

  one_applies : list_any applies (entries_from from items) ≡ true → QueuedClash n t st queue from
  one_applies p =
      passing_at applies (entries_from from items) no_entry p λ k h q.
      record {
        at = from + k;
        behind = omega arith;
        ahead = is_left from k read h;
        applies = ap applies (sym (entry_left from k read h)) ∙ q;
      }

  -- and the other way round
  applies_to_one : QueuedClash n t st queue from → list_any applies (entries_from from items) ≡ true
  applies_to_one e =
      let k = e.at - from in
      let h = left_of from k read (omega (arith, e.ahead, e.behind)) in
      let place : from + k ≡ e.at = omega (arith, e.behind) in
      list_any_at applies (entries_from from items) k no_entry h
      (ap applies (entry_left from k read h ∙ ap (entry_at queue) place) ∙ e.applies)

  pub searched : {r : Bool} → r ≡ list_any applies (last_first from items)
      → (r ≡ true) ↔ QueuedClash n t st queue from
  searched is =
      let is' = is ∙ either_way applies (entries_from from items) no_entry in
      (λ p. one_applies (sym is' ∙ p), λ e. is' ∙ applies_to_one e)
