-- The questions read so far have their replies.
use Prim.Native.Nat.{ℕ, suc, ◌+◌, ◌-◌, ◌<◌, ◌≤◌}
use lib.ListN.{length, take, set, length-set}
use lib.Seq.{take-suc-set, take-length}
use mathlib.Core.List.{List, [], ◌∷◌, ◌++◌, map, append-nil, append_assoc, map-append}
use mathlib.Core.Path.{◌≡◌, refl, sym, ap, subst, ◌∙◌}
use native.Mathlib.Omega.{arith}
use Rattle.std.specs.Prelude.{Ok, Err}
use Rattle.fields.specs.declared.fields.Field.{Field}
use Rattle.fields.specs.declared.numbers.Cursor.{Cursor}
use Rattle.fields.specs.declared.refusals.Place.{Place}
use Rattle.fields.specs.declared.refusals.Refusal.{Refusal}
use Rattle.fields.specs.Fields.{Read, found}
use Rattle.fields.specs.Limits.{most_items}
use Rattle.items.specs.declared.items.Item.{Item}
use Rattle.items.specs.declared.items.Question.{Question}
use Rattle.items.specs.Items.{item_at, items_end, items_of, question_at}
use Rattle.items.specs.Questions.{Query, question_of, query_of, Asks, AllAsk}
use Rattle.fields.proofs.Runs.{run_on, run_reads, values_over, values_on}
use Rattle.sheet.specs.Headers.{reply_count}
use Rattle.sheet.specs.declared.whole.Accepted.{Accepted}
use Rattle.sheet.specs.Sheets.{asks, sheet_of, sheet_at}
use Rattle.sheet.proofs.Theorems.{accepted_read, accepted_sheet, accepted_variables, accepted_asked}
use Rattle.rules.specs.declared.replies.Reply.{Reply}
use Rattle.rules.specs.Replies.{reply_to, replies_of, reply_number}
use Rattle.rules.proofs.Lists.{all_split}
use Rattle.engine.specs.Replying.{Asked}

-- the numbers of the replies of a list of bytes to some questions
abbrev numbers_of : List ℕ → List Query → List ℕ
numbers_of s qs = map (λ q. reply_number (reply_to (sheet_of s) q)) qs

-- with so many questions left to read, from a cursor on: k replies are written, and the rest is as it was
pub record Answers (s : List ℕ) (n left : ℕ) (cursor : Cursor) (k : ℕ) (replies : List ℕ) : Type 0 where
  pub variables : (sheet_of s).n ≡ n
  pub named : AllAsk n (sheet_of s).asked
  pub done : List Query
  pub written : take k replies ≡ numbers_of s done
  pub rest : (sheet_of s).asked ≡ done ++ map (asks s) (items_of left Place.Question s n cursor)
  pub end : Cursor
  pub readable : items_end left Place.Question s n cursor ≡ Ok end
  pub room : k + left ≡ length replies
  pub few : k + left ≤ most_items

-- before the first question
pub answers_start : (s : List ℕ) (a : Accepted) (replies : List ℕ) → Asked s a replies
    → Answers s a.header.variables a.header.questions a.asked 0 replies
unfolding sheet_at reply_count
answers_start s a replies given =
    let read = accepted_read s a given.accepted in
    let is = accepted_sheet s a given.accepted in
    record {
      variables = accepted_variables s a given.accepted;
      named = accepted_asked s a given.accepted;
      done = [];
      written = refl;
      rest = ap (λ y. y.asked) is;
      end = read.end;
      readable = read.questions_end;
      room = omega (arith, given.room);
      few = omega (arith, read.heads.questions);
    }

-- a question that is read is the one that its item asks
pub read_item : {C : Type 0} (s : List ℕ) (n : ℕ) (c : Cursor) (q : Field Question) → question_at s n c ≡ Ok q
    → ((x : Item) → item_at Place.Question s n c ≡ found x q.next → question_of x ≡ q.value → C) → C
unfolding question_at
read_item {C} s n c q e go = first (item_at Place.Question s n c) refl
  where
    first : (r : Read Item) → item_at Place.Question s n c ≡ r → C
    first (Ok x) i =
        let e' : found (question_of x.value) x.next ≡ Ok q = rw i at e in
        let same : record { value = question_of x.value; next = x.next } ≡ q = cc in
        go x.value (i ∙ ap (λ (y : Field Question). found x.value y.next) same) (ap (λ (y : Field Question). y.value) same)
    first (Err r) i =
        let e' : ◌≡◌ {A = Read Question} (Err r) (Ok q) = rw i at e in
        absurd (cc)

-- one question
module _ {s : List ℕ} {n left : ℕ} {cursor : Cursor} {k : ℕ} {replies : List ℕ} (g : Answers s n left cursor k replies)
    (more : 0 < left) where
  module _ {q : Field Question} (read : question_at s n cursor ≡ Ok q) where
    split : (sheet_of s).asked
        ≡ g.done ++ (query_of s q.value ∷ map (asks s) (items_of (left - 1) Place.Question s n q.next))
    split =
        read_item s n cursor q read λ x i e.
        g.rest
        ∙ ap (λ y. g.done ++ map (asks s) y) (values_on (item_at Place.Question s n) cursor left _ more i)
        ∙ ap (λ y. g.done ++ (query_of s y ∷ map (asks s) (items_of (left - 1) Place.Question s n q.next))) e

    pub question_named : Asks n (query_of s q.value)
    question_named =
        let rest = map (asks s) (items_of (left - 1) Place.Question s n q.next) in
        (all_split (Asks n) g.done (query_of s q.value ∷ rest) (subst (AllAsk n) split g.named)).1.0

    answers_next : {r : Reply} {v : ℕ} → r ≡ reply_to (sheet_of s) (query_of s q.value) → v ≡ reply_number r
        → Answers s n (left - 1) q.next (k + 1) (set replies k v)
    answers_next {r} {v} answer number =
        let size = g.room in
        let is = number ∙ ap reply_number answer in
        let one_more : k + 1 ≡ suc k = omega arith in
        record {
          variables = g.variables;
          named = g.named;
          done = g.done ++ (query_of s q.value ∷ []);
          written =
              rw one_more (take-suc-set replies k v (omega arith))
              ∙ ap (λ y. take k replies ++ (y ∷ [])) is
              ∙ ap (λ y. y ++ (reply_number (reply_to (sheet_of s) (query_of s q.value)) ∷ [])) g.written
              ∙ sym (map-append (λ y. reply_number (reply_to (sheet_of s) y)) g.done (query_of s q.value ∷ []));
          rest = split ∙ sym (append_assoc g.done (query_of s q.value ∷ []) _);
          end = g.end;
          readable =
              read_item s n cursor q read λ x i e.
              sym (run_on (item_at Place.Question s n) cursor left _ more i) ∙ g.readable;
          room = omega (arith, size, length-set replies k v);
          few = omega (arith, g.few, more);
        }

    -- the same, with what is left counted otherwise
    pub answers_on : {r : Reply} {v left' : ℕ} → left' ≡ left - 1 → r ≡ reply_to (sheet_of s) (query_of s q.value)
        → v ≡ reply_number r → Answers s n left' q.next (k + 1) (set replies k v)
    answers_on same answer number = rw same (answers_next answer number)

  pub none_refused : {r : Refusal} → question_at s n cursor ≡ Err r → ⊥
  unfolding question_at
  none_refused {r} e = first (item_at Place.Question s n cursor) refl
    where
      first : (x : Read Item) → item_at Place.Question s n cursor ≡ x → ⊥
      first (Ok x) i =
          let e' : found (question_of x.value) x.next ≡ Err r = rw i at e in
          cc
      first (Err r') i = run_reads (item_at Place.Question s n) cursor g.end left r' more g.readable i

-- behind the last question
pub answers_end : {s : List ℕ} {n left : ℕ} {cursor : Cursor} {k : ℕ} {replies : List ℕ}
    → Answers s n left cursor k replies → left ≤ 0 → replies ≡ map reply_number (replies_of (sheet_of s))
unfolding replies_of
answers_end {s} {n} {left} {cursor} {k} {replies} g over =
    let whole : k ≡ length replies = omega (arith, g.room, over) in
    let all = g.rest ∙ ap (λ y. g.done ++ map (asks s) y) (values_over (item_at Place.Question s n) cursor left over)
    ∙ append-nil g.done in
    sym (rw whole (take-length replies)) ∙ g.written ∙ ap (numbers_of s) (sym all)
    ∙ twice (sheet_of s).asked
  where
    twice : (qs : List Query) → numbers_of s qs ≡ map reply_number (map (reply_to (sheet_of s)) qs)
    twice [] = refl
    twice (q ∷ qs) = ap (λ y. reply_number (reply_to (sheet_of s) q) ∷ y) (twice qs)
