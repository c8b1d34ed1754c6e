-- What is printed of a worked sheet of the rules, by its row.
use Rattle.std.specs.Prelude.{Result, Ok, Err, Option as Found, Some, None, get_or}
use Prim.Native.Nat.{ℕ, zero, suc, ◌+◌, ◌<◌}
use mathlib.Core.List.{List, map}
use mathlib.Core.Option.{Option, none}
use mathlib.Core.Path.{◌≡◌, refl, sym, ap, ◌∙◌}
use native.Mathlib.Omega.{arith}
use Rattle.fields.specs.declared.refusals.Refusal.{Refusal}
use Rattle.fields.specs.Refusals.{number_of}
use Rattle.sheet.specs.declared.whole.Accepted.{Accepted}
use Rattle.sheet.specs.Sheets.{Sheet, read_sheet, sheet_of}
use Rattle.rules.specs.declared.clashes.Clash.{Clash}
use Rattle.rules.specs.declared.kinds.Kind.{Kind}
use Rattle.rules.specs.Tables.{count_facts}
use Rattle.rules.specs.Derived.{facts_of}
use Rattle.outcomes.specs.Closed.{outcome_by}
use Rattle.rules.specs.Clashes.{clash_of}
use Rattle.rules.specs.Roots.{root_label}
use Rattle.rules.specs.Replies.{replies_of, reply_number}
use Rattle.rules.specs.Verdicts.{verdict_by, verdict_of}
use Rattle.rules.specs.Cases.{row, consistent, clash, refused, labels_from, counts_of, of_sheet, of_accepted, of_refused, worked}
use Rattle.outcomes.specs.declared.outcomes.Outcome.{Outcome}
use Rattle.lines.specs.Lines.{lines_of, printed}
use Rattle.lines.specs.Printouts.{reply_told}
use Rattle.lines.proofs.Labels.{same_labels}
use Rattle.lines.proofs.Checked.{replies_back}

-- the labels of the first variables, and of no other
abbrev pub first : List (Option ℕ) → ℕ → Option ℕ
first labels i = get_or labels i none

-- those of a row are the labels that are told
listed : (n i : ℕ) (s : Sheet) (k : ℕ) → k < n → first (labels_from n i s) k ≡ root_label s (i + k)
unfolding labels_from
listed zero i s k h = absurd (omega arith)
listed (suc n) i s zero h = let same : i ≡ i + 0 = omega arith in ap (root_label s) same
listed (suc n) i s (suc k) h =
    let same : suc i + k ≡ i + suc k = omega arith in
    listed n (suc i) s k (omega arith) ∙ ap (root_label s) same

-- a row of a consistent sheet says its lines
module _ (b : List ℕ) (s : Sheet) (n x y : ℕ) (labels : List (Option ℕ)) (replies : List ℕ) where
  by_clash : (clash : Found Clash) → of_sheet b s clash ≡ row b n (consistent x y) labels replies
      → lines_of s.n (outcome_by s.n (facts_of s.stated s.n) (verdict_by clash)) (root_label s) (replies_of s)
      ≡ lines_of n (Outcome.Consistent x y) (first labels) (map reply_told replies)
  unfolding counts_of
  by_clash (Some pair) e =
      let other : clash pair.first.0 pair.second.0 ≡ consistent x y = ap (λ c. c.outcome) e in absurd (cc)
  by_clash None e =
      let variables : s.n ≡ n = ap (λ c. c.variables) e in
      let outcomes : counts_of s ≡ consistent x y = ap (λ c. c.outcome) e in
      let counts : count_facts s.n (facts_of s.stated s.n) Kind.Ordered ≡ x = cc outcomes in
      let counts' : count_facts s.n (facts_of s.stated s.n) Kind.Compatible ≡ y = cc outcomes in
      let labelled : labels_from s.n 0 s ≡ labels = ap (λ c. c.labels) e in
      let replied : map reply_number (replies_of s) ≡ replies = ap (λ c. c.replies) e in
      rw (counts, counts', ← labelled, ← replied, ← variables, replies_back)
      (same_labels s.n (Outcome.Consistent x y) (root_label s) (first (labels_from s.n 0 s)) (replies_of s)
      λ k h. let from : 0 + k ≡ k = omega arith in
      sym (listed s.n 0 s k h ∙ ap (root_label s) from))

pub of_row : (b : List ℕ) (n x y : ℕ) (labels : List (Option ℕ)) (replies : List ℕ)
    → worked b ≡ row b n (consistent x y) labels replies
    → printed b ≡ lines_of n (Outcome.Consistent x y) (first labels) (map reply_told replies)
unfolding worked printed verdict_of
of_row b n x y labels replies e = read (read_sheet b) refl
  where
    read : (r : Result Accepted Refusal) → read_sheet b ≡ r
        → printed b ≡ lines_of n (Outcome.Consistent x y) (first labels) (map reply_told replies)
    read (Err q) is =
        let e' : of_refused b q ≡ row b n (consistent x y) labels replies = rw is at e in
        let other : refused (number_of q.fault) q.at ≡ consistent x y = ap (λ c. c.outcome) e' in absurd (cc)
    read (Ok a) is =
        let s = sheet_of b in
        let e' : of_accepted b s ≡ row b n (consistent x y) labels replies = rw is at e in
        rw is (by_clash b s n x y labels replies (clash_of s.stated s.n) e')
