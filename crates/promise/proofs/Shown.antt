-- What is returned and left, by cases: refused, clash or consistent; and the reply byte of a question.
use Rattle.std.specs.Prelude.{Result, Ok, Err}
use Prim.Native.Nat.{ℕ, zero, suc, ◌<◌}
use lib.ListN.{length, get_or, length-map}
use mathlib.Core.List.{List, [], ◌∷◌, ◌++◌, map}
use mathlib.Core.Logic.{◌↔◌}
use mathlib.Core.Option.{some, some-injective}
use mathlib.Core.Logic.Iff.{trans}
use mathlib.Core.Path.{◌≡◌, refl, sym, ap, subst, ◌∙◌}
use native.Mathlib.Omega.{arith}
use Rattle.std.proofs.lemmas.Slice.{drop-append-drop}
use Rattle.fields.specs.declared.refusals.Fault.{Fault}
use Rattle.fields.specs.declared.refusals.Refusal.{Refusal}
use Rattle.fields.specs.Refusals.{number_of}
use Rattle.fields.specs.declared.numbers.Variable.{Variable}
use Rattle.items.specs.Questions.{Query, has_path, Asks}
use Rattle.items.specs.Statements.{All}
use Rattle.sheet.specs.declared.whole.Accepted.{Accepted}
use Rattle.sheet.specs.Numbered.{question_in}
use Rattle.sheet.specs.Sheets.{Sheet, read_sheet, sheet_of}
use Rattle.sheet.proofs.Theorems.{names_below}
use Rattle.rules.specs.declared.clashes.Clash.{Clash}
use Rattle.rules.specs.declared.replies.Reply.{Reply}
use Rattle.rules.specs.declared.verdicts.Verdict.{Verdict}
use Rattle.rules.specs.Replies.{reply_number, reply_to, replies_of}
use Rattle.rules.specs.Verdicts.{verdict_of}
use Rattle.rules.proofs.Demand.{replied}
use Rattle.trees.specs.Assignments.{Counts}
use Rattle.trees.specs.Demand.{Met, Some}
use Rattle.trees.specs.Trees.{labelled, Present, Path, Tree, IsTree, Child, Labelled}
use Rattle.trees.proofs.Demands.{sheet_possible}
use Rattle.outcomes.specs.declared.outcomes.Outcome.{Outcome}
use Rattle.outcomes.specs.Judged.{judged}
use Rattle.outcomes.specs.Outcomes.{packed, kind_in}
use Rattle.outcomes.proofs.Judging.{refused_soon}
use Rattle.outcomes.proofs.Packed.{kind_is, first_is, second_is}
use Rattle.promise.specs.Checks.{sheet_outcome, of_refusal, outcome_of, over, where_consistent, Returned}
use Rattle.promise.specs.Labels.{MustHave}
use Rattle.promise.specs.Paths.{MustHaveAsked}
use Rattle.promise.specs.Promise.{IsAccepted, IsRefused, RefusalTold, OneReplyEach, Supported}

-- an answer of one kind is not of another
pub never_accepted : {r : Refusal} → IsAccepted (Err r) → ⊥
never_accepted (a, e) = cc

pub never_refused : {a : Accepted} → IsRefused (Ok a) → ⊥
never_refused (r, e) = cc

-- what holds of every question holds of question k
pub at_question : (P : Query → Type 0) (qs : List Query) (k : ℕ) (q : Query) → All P qs → question_in qs k ≡ some q → P q
at_question P [] k q all e = absurd (cc)
at_question P (x ∷ qs) zero q all e = let same : x ≡ q = cc in subst P same all.0
at_question P (x ∷ qs) (suc k) q all e = at_question P qs k q all.1 e

-- there is a question k exactly where k is below their count
pub question_there : (qs : List Query) (k : ℕ) → k < length qs → (q : Query) × (question_in qs k ≡ some q)
question_there [] k h = absurd (omega arith)
question_there (x ∷ qs) zero h = (x, refl)
question_there (x ∷ qs) (suc k) h = question_there qs k (omega arith)

pub question_below : (qs : List Query) (k : ℕ) (q : Query) → question_in qs k ≡ some q → k < length qs
question_below [] k q e = absurd (cc)
question_below (x ∷ qs) zero q e = omega arith
question_below (x ∷ qs) (suc k) q e = let h = question_below qs k q e in omega arith

-- its reply is the byte at k
pub reply_at : (f : Query → Reply) (rest : List ℕ) (qs : List Query) (k : ℕ) (q : Query)
    → question_in qs k ≡ some q → get_or (map reply_number (map f qs) ++ rest) k 0 ≡ reply_number (f q)
reply_at f rest [] k q e = absurd (cc)
reply_at f rest (x ∷ qs) zero q e = let same : x ≡ q = cc in ap (λ y. reply_number (f y)) same
reply_at f rest (x ∷ qs) (suc k) q e = reply_at f rest qs k q e

-- each reply by its number
pub number_small : (r : Reply) → reply_number r < 3
number_small Reply.Always = omega arith
number_small Reply.Never = omega arith
number_small Reply.Open = omega arith

pub number_always : (r : Reply) → (reply_number r ≡ 0) ↔ (r ≡ Reply.Always)
number_always Reply.Always = ((λ e. refl), (λ e. refl))
number_always Reply.Never = ((λ e. absurd (omega arith)), (λ e. cc))
number_always Reply.Open = ((λ e. absurd (omega arith)), (λ e. cc))

pub number_never : (r : Reply) → (reply_number r ≡ 1) ↔ (r ≡ Reply.Never)
number_never Reply.Always = ((λ e. absurd (omega arith)), (λ e. cc))
number_never Reply.Never = ((λ e. refl), (λ e. refl))
number_never Reply.Open = ((λ e. absurd (omega arith)), (λ e. cc))

pub number_open : (r : Reply) → (reply_number r ≡ 2) ↔ (r ≡ Reply.Open)
number_open Reply.Always = ((λ e. absurd (omega arith)), (λ e. cc))
number_open Reply.Never = ((λ e. absurd (omega arith)), (λ e. cc))
number_open Reply.Open = ((λ e. refl), (λ e. refl))

pub small_number : (f : Fault) → number_of f < 65536
small_number Fault.Cut = omega arith
small_number Fault.HeaderMap = omega arith
small_number Fault.VariableCount = omega arith
small_number Fault.Count = omega arith
small_number Fault.ItemMap = omega arith
small_number Fault.VariableRange = omega arith
small_number Fault.Trailing = omega arith
small_number Fault.ShortTable = omega arith
small_number Fault.ShortReplies = omega arith
small_number Fault.PathLength = omega arith

-- a byte for each question
pub byte_each : (s : Sheet) → length (map reply_number (replies_of s)) ≡ length s.asked
unfolding replies_of
byte_each s = length-map (map (reply_to s) s.asked) reply_number ∙ length-map s.asked (reply_to s)

always_supported : (s : Sheet) (q : Query) → (reply_to s q ≡ Reply.Always) ↔ Supported s q
always_supported s q = (replied s q).always

-- the three cases of what is returned
module _ {b facts work replies facts' work' replies' : List ℕ} {r : ℕ}
    (returned : Returned b facts work replies facts' work' replies' r) where
  abbrev pub read : Result Accepted Refusal
  read = judged b (length facts) (length work) (length replies)

  pub refused_number : (q : Refusal) → read ≡ Err q → r ≡ packed (of_refusal q)
  unfolding outcome_of
  refused_number q e = rw (returned.number, e) refl

  pub accepted_number : (a : Accepted) → read ≡ Ok a
      → r ≡ packed (sheet_outcome (sheet_of b))
  unfolding outcome_of
  accepted_number a e = rw (returned.number, e) refl

  pub by_case : {C : Type 0} → ((q : Refusal) → read ≡ Err q → kind_in r ≡ 2 → C)
      → ((a : Accepted) → read ≡ Ok a
      → verdict_of (sheet_of b) ≡ Verdict.Consistent → kind_in r ≡ 0 → C)
      → ((a : Accepted) (clash : Clash) → read ≡ Ok a
      → verdict_of (sheet_of b) ≡ Verdict.Clash clash → kind_in r ≡ 1 → C)
      → C
  by_case {C} stopped fine clashing = go _ refl
    where
      told : (a : Accepted) → read ≡ Ok a
          → (v : Verdict) → verdict_of (sheet_of b) ≡ v → C
      told a e Verdict.Consistent is =
          fine a e is (rw (accepted_number a e, is) (kind_is _))
      told a e (Verdict.Clash clash) is =
          clashing a clash e is (rw (accepted_number a e, is) (kind_is (Outcome.Clash clash.first clash.second)))

      go : (x : Result Accepted Refusal) → read ≡ x → C
      go (Err q) e = stopped q e (rw (refused_number q e) (kind_is (of_refusal q)))
      go (Ok a) e = told a e _ refl

  pub place_small : (q : Refusal) → read ≡ Err q → q.at < 65536
  place_small q e = omega (arith, refused_soon b (length facts) (length work) (length replies) q e)

  -- a refusal is told by number and place, and all is left as it was
  pub refusal_told_lem : (q : Refusal) → read ≡ Err q
      → RefusalTold q facts work replies facts' work' replies' r
  refusal_told_lem q e =
      let is = refused_number q e in
      let few : number_of q.fault < 65536 = small_number q.fault in
      record {
        number = rw is (first_is (of_refusal q) few);
        place = rw is (second_is (of_refusal q) few (place_small q e));
        facts_kept = rw (returned.buffers.facts_are, e) refl;
        work_kept = rw (returned.buffers.work_is, e) refl;
        replies_kept = rw (returned.buffers.replies_are, e) refl;
      }

  -- of a consistent sheet the replies are written
  module _ (a : Accepted) (e : read ≡ Ok a)
      (is : verdict_of (sheet_of b) ≡ Verdict.Consistent) where
    pub replies_written : replies' ≡ over (map reply_number (replies_of (sheet_of b))) replies
    unfolding where_consistent
    replies_written = rw (returned.buffers.replies_are, e, is) refl

    pub reply_byte : (k : ℕ) (q : Query) → question_in (sheet_of b).asked k ≡ some q
        → get_or replies' k 0 ≡ reply_number (reply_to (sheet_of b) q)
    unfolding replies_of
    reply_byte k q at = rw replies_written (reply_at (reply_to (sheet_of b)) _ (sheet_of b).asked k q at)

    pub one_reply_each : OneReplyEach (sheet_of b) replies replies'
    one_reply_each =
        record {
          each = λ k h.
              let q = question_there (sheet_of b).asked k h in
              rw (reply_byte k q.0 q.1) (number_small (reply_to (sheet_of b) q.0));
          others = rw replies_written (drop-append-drop _ replies _ _ (omega (arith, byte_each (sheet_of b))) refl);
        }

  -- where the sheet is consistent, a reply is always exactly where what is asked is supported
  pub by_support : kind_in r ≡ 0 → (k : ℕ) (q : Query) → question_in (sheet_of b).asked k ≡ some q
      → (get_or replies' k 0 ≡ 0) ↔ Supported (sheet_of b) q
  by_support kind k q at =
      by_case (λ x e z. absurd (omega arith))
      (λ a e is z. rw (reply_byte a e is k q at)
      (trans (number_always (reply_to (sheet_of b) q)) (always_supported (sheet_of b) q)))
      (λ a clash e is z. absurd (omega arith))

  pub refused_apart : (q : Refusal) → read ≡ Err q → IsAccepted read → ⊥
  refused_apart q e a = never_accepted (rw e at a)

-- what has to be at the path that a question asks for has to be there
pub same_must : {read : Result Accepted Refusal} {s : Sheet} {k a : ℕ} {i : Variable} {p : Path}
    → question_in s.asked k ≡ some (has_path i p) → MustHaveAsked read s k a → MustHave read s i.0 p a
same_must {read} {s} {k} {a} {i} {p} e m =
    let same : has_path m.subject m.path ≡ has_path i p = some-injective _ _ (sym m.asked ∙ e) in
    let subjects : m.subject ≡ i = cc in
    let paths : m.path ≡ p = cc in
    subst (λ q. MustHave read s i.0 q a) paths (subst (λ x. MustHave read s x.0 m.path a) subjects m.must)

-- where some assignment counts, some has the path that a question asks for
pub path_possible : (b : List ℕ) {read : Result Accepted Refusal} → ((a : Accepted) → read ≡ Ok a → read_sheet b ≡ Ok a)
    → IsAccepted read → Met (Counts (sheet_of b)) → (k : ℕ) (i : Variable) (p : Path)
    → question_in (sheet_of b).asked k ≡ some (has_path i p) → Some (Counts (sheet_of b)) λ v. Present (v i.0 p)
path_possible b reads (a, e) met k i p asked =
    sheet_possible b a (reads a e) met i.0 p
    (at_question (Asks (sheet_of b).n) (sheet_of b).asked k (has_path i p) (names_below b).asked asked)

-- a tree that is its own child at every feature, with the same label everywhere
pub endless : (f a : ℕ) → (t : Tree) × (IsTree t × Child t f t × Labelled t a)
endless f a = (
  λ p. labelled a,
  (record { root = tt; beginnings = λ p g h. tt }, record { present = tt; subtree = λ p. refl }, refl),
)
