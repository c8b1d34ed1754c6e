-- A reply of a check on buffers that serve decides whether a test may be left out: what a check promises says it all.
use Rattle.std.specs.Prelude.{Ok, Err}
use Prim.Native.Nat.{ℕ, ◌<◌, ◌≤◌}
use lib.ListN.{length, get_or, replicate, length-replicate}
use mathlib.Core.List.{List}
use mathlib.Core.Logic.{◌↔◌}
use mathlib.Core.Path.{◌≡◌, ap, ◌∙◌}
use native.Mathlib.Omega.{arith}
use Rattle.fields.specs.declared.refusals.Refusal.{Refusal}
use Rattle.sheet.specs.declared.headers.Header.{Header}
use Rattle.sheet.specs.Headers.{header_of, largest_table, reply_count, most_replies}
use Rattle.sheet.specs.Sheets.{read_sheet, sheet_of}
use Rattle.sheet.proofs.Theorems.{accepted_read, asked_replies}
use Rattle.outcomes.specs.Outcomes.{kind_in}
use Rattle.outcomes.specs.Judged.{judged}
use Rattle.outcomes.proofs.Judging.{accepted_fits}
use Rattle.outcomes.proofs.Serving.{replies_fit, buffers_serve}
use Rattle.promise.specs.Promise.{IsAccepted, Means}
use Rattle.promise.proofs.Shown.{question_there, question_below}
use Rattle.client.specs.Dropping.{MayDrop}

-- a sheet that is accepted asks as many questions as its header says
pub count_read : (s : List ℕ) {h : Header} → Ok h ≡ header_of s → IsAccepted (read_sheet s)
    → length (sheet_of s).asked ≡ reply_count h
count_read s {h} e (a, is) =
    let read = (accepted_read s a is).header_is in
    let same : a.header ≡ h = cc in
    asked_replies s a is ∙ ap reply_count same

pub header_there : (s : List ℕ) {q : Refusal} → Err q ≡ header_of s → IsAccepted (read_sheet s) → ⊥
header_there s e (a, is) =
    let read = (accepted_read s a is).header_is in
    cc

-- and of these there are no more than there may be
pub replies_few : (s : List ℕ) → IsAccepted (read_sheet s) → length (sheet_of s).asked ≤ most_replies
replies_few s (a, is) = omega (arith, asked_replies s a is, replies_fit s a is)

-- the buffers that are lent
abbrev zeros : ℕ → List ℕ
zeros k = replicate k 0

module _ {b facts' replies' : List ℕ} {r : ℕ}
    (means : Means b (zeros largest_table) (zeros largest_table) (zeros most_replies) facts' replies' r) where
  served : IsAccepted (read_sheet b)
      → IsAccepted (judged b (length (zeros largest_table)) (length (zeros largest_table)) (length (zeros most_replies)))
  served (a, e) = (a, simp length-replicate (buffers_serve b a e))

  -- a sheet for which a test may be left out is consistent
  pub only_consistent : (k : ℕ) → MayDrop b k → kind_in r ≡ 0
  only_consistent k m = means.consistent.1 (served m.accepted, m.met)

  pub read_accepted : kind_in r ≡ 0 → IsAccepted (read_sheet b)
  read_accepted kind =
      let (a, e) = (means.consistent.0 kind).0 in
      (a, (accepted_fits b _ _ _ a e).accepted)

  -- and there it may exactly where the question has the reply byte 0
  pub dropped : kind_in r ≡ 0 → (k : ℕ)
      → ((k < length (sheet_of b).asked) × (get_or replies' k 0 ≡ 0)) ↔ MayDrop b k
  dropped kind k = (
    λ h.
        let q = question_there (sheet_of b).asked k h.0 in
        record {
          accepted = read_accepted kind;
          met = (means.consistent.0 kind).1;
          question = q.0;
          asked = q.1;
          kept = (means.replies kind k q.0 q.1).always.0 h.1;
        },
    λ m. (
      question_below (sheet_of b).asked k m.question m.asked,
      (means.replies kind k m.question m.asked).always.1 m.kept,
    ),
  )
