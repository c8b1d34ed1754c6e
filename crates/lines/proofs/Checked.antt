-- The printout of a checked sheet has the lines of the sheet.
use Rattle.std.specs.Prelude.{Result, Ok, Err, take}
use Rattle.std.proofs.lemmas.List.{take_at}
use Prim.Native.Nat.{ℕ, ◌≤◌}
use lib.ListN.{length}
use mathlib.Core.List.{List, [], ◌∷◌, map}
use mathlib.Core.Option.{Option}
use mathlib.Core.Path.{◌≡◌, refl, sym, ap, ◌∙◌}
use Rattle.fields.specs.declared.refusals.Refusal.{Refusal}
use Rattle.fields.specs.Fields.{then_value}
use Rattle.fields.proofs.Chains.{told}
use Rattle.sheet.specs.declared.headers.Header.{Header}
use Rattle.sheet.specs.declared.whole.Accepted.{Accepted}
use Rattle.sheet.specs.Headers.{header_of, largest_table, reply_count, most_replies}
use Rattle.sheet.specs.Sheets.{read_sheet, sheet_of}
use Rattle.sheet.proofs.Heads.{header_spans}
use Rattle.sheet.proofs.Theorems.{accepted_read, accepted_variables, asked_replies}
use Rattle.rules.specs.declared.replies.Reply.{Reply}
use Rattle.rules.specs.declared.verdicts.Verdict.{Verdict}
use Rattle.rules.specs.Facts.{Relation}
use Rattle.rules.specs.Derived.{facts_of}
use Rattle.rules.specs.Roots.{root_label}
use Rattle.rules.specs.Replies.{replies_of, reply_number}
use Rattle.rules.specs.Verdicts.{verdict_of}
use Rattle.labels.specs.declared.roots.RootLabels.{RootLabels}
use Rattle.labels.specs.Roots.{root_at}
use Rattle.outcomes.specs.declared.outcomes.Outcome.{Outcome}
use Rattle.outcomes.specs.Closed.{outcome_by}
use Rattle.outcomes.specs.Judged.{judged}
use Rattle.outcomes.proofs.Serving.{buffers_serve}
use Rattle.promise.specs.Checks.{of_refusal, sheet_outcome, outcome_of, where_consistent, over, written, replies_after, Checked}
use Rattle.promise.specs.Roots.{label_told, LabelsTold}
use Rattle.promise.proofs.Shown.{byte_each}
use Rattle.lines.specs.Lines.{outcome_line, other_lines, lines_of, printed}
use Rattle.lines.specs.Printouts.{reply_told}
use Rattle.lines.specs.Told.{Told}
use Rattle.lines.proofs.Labels.{same_labels}

-- a header that is read asks no more questions than there may be
pub count_fits : (b : List ℕ) (h : Header) → header_of b ≡ Ok h → reply_count h ≤ most_replies
unfolding reply_count
count_fits b h e = (told (header_spans b) e).questions

-- reply bytes say the replies
pub replies_back : (rs : List Reply) → map reply_told (map reply_number rs) ≡ rs
replies_back [] = refl
replies_back (Reply.Always ∷ rs) = ap (λ x. Reply.Always ∷ x) (replies_back rs)
replies_back (Reply.Never ∷ rs) = ap (λ x. Reply.Never ∷ x) (replies_back rs)
replies_back (Reply.Open ∷ rs) = ap (λ x. Reply.Open ∷ x) (replies_back rs)

-- a refusal has one line, whatever else there is
refused_alone : (q : Refusal) (n n' : ℕ) (labels labels' : ℕ → Option ℕ) (rs rs' : List Reply)
    → lines_of n (of_refusal q) labels rs ≡ lines_of n' (of_refusal q) labels' rs'
unfolding outcome_line other_lines
refused_alone q n n' labels labels' rs rs' = refl

-- what is left in the reply buffer of a sheet has the lines of its replies, if there is one byte for each
by_verdict : (v : Verdict) (n count : ℕ) (r : Relation) (labels : ℕ → Option ℕ) (rs : List Reply) (buffer : List ℕ)
    → length (map reply_number rs) ≡ count
    → lines_of n (outcome_by n r v) labels
    (map reply_told (take count (where_consistent v (over (map reply_number rs) buffer) buffer)))
    ≡ lines_of n (outcome_by n r v) labels rs
unfolding where_consistent other_lines
by_verdict (Verdict.Clash c) n count r labels rs buffer e = refl
by_verdict Verdict.Consistent n count r labels rs buffer e =
    ap (lines_of n (outcome_by n r Verdict.Consistent) labels) (
    ap (map reply_told) (take_at (map reply_number rs) _ count e) ∙ replies_back rs)

module _ (b : List ℕ) where
  -- however the sheet is read, a printout over its header has its lines
  by_reading : (h : Header) → header_of b ≡ Ok h → (labels : ℕ → Option ℕ) (before : List ℕ)
      (r : Result Accepted Refusal) → read_sheet b ≡ r → ((i : ℕ) → labels i ≡ label_told r (sheet_of b) i)
      → lines_of h.variables (then_value r of_refusal λ a. sheet_outcome (sheet_of b)) labels
      (map reply_told (take (reply_count h) (written r (sheet_of b) replies_after before)))
      ≡ lines_of (sheet_of b).n (then_value r of_refusal λ a. sheet_outcome (sheet_of b))
      (root_label (sheet_of b)) (replies_of (sheet_of b))
  unfolding reply_count label_told
  by_reading h is labels before (Err q) e are = refused_alone q _ _ _ _ _ _
  by_reading h is labels before (Ok a) e are =
      let read = (accepted_read b a e).header_is in
      let same : a.header ≡ h = cc in
      let s = sheet_of b in
      rw (← same, ← accepted_variables b a e)
      (by_verdict (verdict_of s) s.n _ (facts_of s.stated s.n) labels (replies_of s) before
      (byte_each s ∙ asked_replies b a e)
      ∙ same_labels s.n (sheet_outcome s) labels (root_label s) (replies_of s) λ i here. are i)

  module _ {o : Outcome} {labels : RootLabels} {replies : List ℕ} (left : Told b o labels replies) where
    -- a sheet without a header that can be read
    pub no_header : (n : ℕ) (rs : List Reply) (q : Refusal) → header_of b ≡ Err q
        → lines_of n o (root_at labels) rs ≡ printed b
    unfolding read_sheet printed
    no_header n rs q e = rw (left.outcome, e) (refused_alone q n _ (root_at labels) _ rs _)

    -- and any other
    pub with_header : (h : Header) → header_of b ≡ Ok h
        → lines_of h.variables o (root_at labels) (map reply_told (take (reply_count h) replies)) ≡ printed b
    unfolding printed
    with_header h e =
        rw (left.outcome, left.replied) (by_reading h e (root_at labels) left.before (read_sheet b) refl left.labelled)

  -- buffers of the largest sizes change nothing of how a sheet is read
  buffers_unseen : judged b largest_table largest_table most_replies ≡ read_sheet b
  unfolding judged
  buffers_unseen = go (read_sheet b) refl
    where
      go : (r : Result Accepted Refusal) → read_sheet b ≡ r → judged b largest_table largest_table most_replies ≡ read_sheet b
      go (Ok a) e = buffers_serve b a e ∙ sym e
      go (Err q) e = rw e refl

  pub told_of_check : {facts work replies facts' work' replies' : List ℕ} {o : Outcome} {labels : RootLabels}
      → Checked b facts work replies facts' work' replies' o
      → LabelsTold (judged b (length facts) (length work) (length replies)) (sheet_of b) labels
      → length facts ≡ largest_table → length work ≡ largest_table → length replies ≡ most_replies
      → length replies' ≡ most_replies → Told b o labels replies'
  unfolding outcome_of
  told_of_check {replies = replies} checked labels f w r r' =
      record {
        before = replies;
        outcome = rw (f, w, r, buffers_unseen) at checked.outcome;
        labelled = rw (f, w, r, buffers_unseen) at labels.are;
        replied = rw (f, w, r, buffers_unseen) at checked.buffers.replies_are;
        room = r';
      }
