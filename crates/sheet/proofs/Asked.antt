-- A question that is read by its number is that question of the sheet.
use Rattle.std.specs.Prelude.{Option as Found, None, Some, option_map, Ok}
use Prim.Native.Nat.{ℕ, zero, suc, ◌<◌, ◌≤◌}
use lib.ListN.{length}
use mathlib.Core.Bool.{true, false}
use mathlib.Core.List.{List, [], ◌∷◌, map}
use mathlib.Core.Option.{Option, none, some}
use mathlib.Core.Path.{◌≡◌, refl, sym, ◌∙◌}
use native.Mathlib.Numerals.{sub-one}
use native.Mathlib.Omega.{arith}
use Rattle.fields.specs.declared.fields.Field.{Field}
use Rattle.fields.specs.declared.numbers.Cursor.{Cursor}
use Rattle.fields.specs.declared.refusals.Place.{Place}
use Rattle.fields.specs.Fields.{run_end, run_of}
use Rattle.fields.specs.Tests.{pick}
use Rattle.fields.proofs.Chains.{told}
use Rattle.fields.proofs.Choice.{is_less, not_less}
use Rattle.fields.proofs.Runs.{run_next}
use Rattle.items.specs.declared.items.Item.{Item}
use Rattle.items.specs.declared.items.Question.{Question}
use Rattle.items.specs.Items.{item_at, items_end, items_of, question_at}
use Rattle.items.specs.Questions.{Query, query_of, question_of}
use Rattle.items.proofs.Lawful.{Reads, item_spans}
use Rattle.sheet.specs.declared.whole.Accepted.{Accepted}
use Rattle.sheet.specs.Numbered.{question_in, numbered}
use Rattle.sheet.specs.Sheets.{asks, read_sheet, sheet_of, sheet_at}
use Rattle.sheet.proofs.Theorems.{accepted_read, accepted_sheet, asked_count}

-- past the last there is none
pub question_beyond : (qs : List Query) (k : ℕ) → length qs ≤ k → question_in qs k ≡ none
question_beyond [] k h = refl
question_beyond (q ∷ qs) zero h = absurd (omega arith)
question_beyond (q ∷ qs) (suc k) h = question_beyond qs k (omega arith)

module _ (s : List ℕ) (n : ℕ) where
  -- behind so many questions stands the next
  asked_at : {C : Type 0} (k count : ℕ) (c end : Cursor) → k < count → items_end count Place.Question s n c ≡ Ok end
      → ((start : Cursor) (f : Field Item) → items_end k Place.Question s n c ≡ Ok start
      → item_at Place.Question s n start ≡ Ok f
      → question_in (map (asks s) (items_of count Place.Question s n c)) k ≡ some (asks s f.value) → C)
      → C
  unfolding run_end
  asked_at k zero c end h e go = absurd (omega arith)
  asked_at zero (suc count) c end h e go =
      run_next (item_at Place.Question s n) c end (suc count) (omega arith) e λ f i q items. go c f refl i (rw items refl)
  asked_at (suc k) (suc count) c end h e go =
      run_next (item_at Place.Question s n) c end (suc count) (omega arith) e λ f i q items.
      asked_at k count f.next end (omega arith) (rw sub-one at q) λ start g ends reads nth.
      go start g (rw i ends) reads (rw (items, sub-one) nth)

module _ (s : List ℕ) (a : Accepted) (accepted : read_sheet s ≡ Ok a) (k : ℕ) where
  -- a question of the sheet, with its item as it was read
  pub record Numbered (q : Question) : Type 0 where
    pub read : numbered s a k ≡ Some q
    pub asked : question_in (sheet_of s).asked k ≡ some (query_of s q)
    pub start : Cursor
    pub next : Cursor
    pub item : Item
    pub question_is : question_of item ≡ q
    pub reads : Reads Place.Question s a.header.variables start item next

  pub by_number : {C : Type 0} → k < a.header.questions → ((q : Question) → Numbered q → C) → C
  unfolding numbered sheet_of sheet_at question_at pick
  by_number {C} h go =
      let read = accepted_read s a accepted in
      asked_at s a.header.variables k a.header.questions a.asked _ h read.questions_end λ start f ends reads nth.
      go (question_of f.value)
      (record {
        read = rw (is_less k a.header.questions h, ends, reads) refl;
        asked = rw accepted nth;
        start = start;
        next = f.next;
        item = f.value;
        question_is = refl;
        reads = told (item_spans Place.Question s a.header.variables start) reads;
      })

  -- what is no question's number
  pub number_beyond : a.header.questions ≤ k → (numbered s a k ≡ None) × (question_in (sheet_of s).asked k ≡ none)
  unfolding numbered pick
  number_beyond h = (
    rw (not_less k a.header.questions h) refl,
    question_beyond (sheet_of s).asked k (omega (arith, h, asked_count s a accepted)),
  )
