-- While questions are replied to, what they are tried by stays as it was.
use Prim.Native.Nat.{ℕ, ◌+◌, ◌-◌, ◌<◌}
use lib.ListN.{length, set, length-set}
use mathlib.Core.List.{List}
use mathlib.Core.Path.{◌≡◌, refl, sym, subst, ◌∙◌}
use native.Mathlib.Omega.{arith}
use Rattle.std.specs.Prelude.{Ok, Err}
use Rattle.fields.specs.declared.fields.Field.{Field}
use Rattle.fields.specs.declared.numbers.Cursor.{Cursor}
use Rattle.fields.specs.declared.refusals.Refusal.{Refusal}
use Rattle.items.specs.declared.items.Question.{Question}
use Rattle.items.specs.Questions.{Query, query_of, Asks}
use Rattle.items.specs.Items.{question_at}
use Rattle.sheet.specs.Headers.{reply_count}
use Rattle.sheet.specs.declared.whole.Accepted.{Accepted}
use Rattle.sheet.specs.Sheets.{sheet, sheet_of}
use Rattle.rules.specs.declared.replies.Reply.{Reply}
use Rattle.rules.specs.Replies.{reply_to, reply_number}
use Rattle.facts.specs.declared.growth.Growth.{Growth}
use Rattle.facts.proofs.Growing.{same_none, same_then}
use Rattle.selections.specs.declared.grouped.Groups.{Groups}
use Rattle.closure.specs.declared.closed.Closed.{Closed}
use Rattle.closure.specs.Trials.{Restored}
use Rattle.engine.specs.Replying.{Held, ReplyTold, Asked}
use Rattle.engine.proofs.Answered.{Answers, answers_start, question_named, answers_on, none_refused}

-- all is as it was
pub restored_none : (g : Growth) (groups : Groups) → Restored g g groups groups
restored_none g groups = record { same = same_none g; table = refl; grouped = refl }

pub restored_then : {g g' g'' : Growth} {groups groups' groups'' : Groups} → Restored g g' groups groups'
    → Restored g' g'' groups' groups'' → Restored g g'' groups groups''
restored_then a b =
    record {
      same = same_then a.same b.same;
      table = b.table ∙ a.table;
      grouped = b.grouped ∙ a.grouped;
    }

-- what is told of the statements is told of the sheet
module _ (s : List ℕ) {c : Closed} {g g' : Growth} {groups groups' : Groups} {n : ℕ} (sizes : g.n ≡ n)
    (held : Held n c groups (sheet_of s).stated) (restored : Restored g g' groups groups')
    (variables : (sheet_of s).n ≡ n) where
  pub from_sheet : {q : Query} {r : Reply} → ReplyTold g'.n (Held g'.n c groups') q r → r ≡ reply_to (sheet_of s) q
  from_sheet {q} {r} told =
      let same : g'.n ≡ n = restored.same.n ∙ sizes in
      let of_n : ReplyTold n (Held n c groups') q r = subst (λ m. ReplyTold m (Held m c groups') q r) same told in
      subst (λ m. r ≡ reply_to (sheet m (sheet_of s).stated (sheet_of s).asked) q) (sym variables)
      (of_n.told (sheet_of s).stated (sheet_of s).asked (rw restored.grouped held))

-- k questions are replied to, and table and groups are as they were
pub record Going (s : List ℕ) (n : ℕ) (g g' : Growth) (groups groups' : Groups) (cursor : Cursor) (k : ℕ)
    (replies : List ℕ) : Type 0 where
  pub answers : Answers s n (length replies - k) cursor k replies
  pub restored : Restored g g' groups groups'

-- before the first question
pub going_start : (s : List ℕ) (a : Accepted) (g : Growth) (groups : Groups) (replies : List ℕ) → Asked s a replies
    → Going s a.header.variables g g groups groups a.asked 0 replies
unfolding reply_count
going_start s a g groups replies asked =
    let all : length replies - 0 ≡ a.header.questions = omega (arith, asked.room) in
    record { answers = rw all (answers_start s a replies asked); restored = restored_none g groups }

-- one question
module _ {s : List ℕ} {n : ℕ} {g g' : Growth} {groups groups' : Groups} {cursor : Cursor} {k : ℕ} {replies : List ℕ}
    (going : Going s n g g' groups groups' cursor k replies) (h : k < length replies) where
  pub question_asks : {q : Field Question} → g.n ≡ n → question_at s n cursor ≡ Ok q → Asks g'.n (query_of s q.value)
  question_asks {q} sizes read =
      subst (λ m. Asks m (query_of s q.value)) (sym (going.restored.same.n ∙ sizes))
      (question_named going.answers (omega arith) read)

  pub going_refused : {r : Refusal} → question_at s n cursor ≡ Err r → ⊥
  going_refused e = none_refused going.answers (omega arith) e

  pub going_next : {c : Closed} {g'' : Growth} {groups'' : Groups} {q : Field Question} {r : Reply} {v : ℕ} → g.n ≡ n
      → Held n c groups (sheet_of s).stated → question_at s n cursor ≡ Ok q
      → ReplyTold g'.n (Held g'.n c groups') (query_of s q.value) r → v ≡ reply_number r
      → Restored g' g'' groups' groups'' → Going s n g g'' groups groups'' q.next (k + 1) (set replies k v)
  going_next {v = v} sizes held read told number restored =
      record {
        answers =
            answers_on going.answers (omega arith) read (omega (arith, length-set replies k v))
            (from_sheet s sizes held going.restored going.answers.variables told) number;
        restored = restored_then going.restored restored;
      }
