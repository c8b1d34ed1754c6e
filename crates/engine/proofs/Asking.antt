-- The label told at a path, by the sheet's table, and by what a check has left.
use Rattle.std.specs.Prelude.{Option as Found, Result, None, Some, is_some, Ok, Err}
use Prim.Native.Nat.{ℕ, ◌<◌}
use lib.ListN.{length}
use mathlib.Core.Bool.{false}
use mathlib.Core.List.{List}
use mathlib.Core.Option.{Option, none, some}
use mathlib.Core.Path.{◌≡◌, refl, sym, ap, subst, ◌∙◌}
use Rattle.fields.specs.declared.numbers.Label.{Label}
use Rattle.fields.specs.declared.numbers.Variable.{Variable}
use Rattle.fields.specs.declared.refusals.Refusal.{Refusal}
use Rattle.fields.specs.Fields.{then_value}
use Rattle.items.specs.declared.items.Question.{Question}
use Rattle.items.specs.declared.items.Statement.{Statement}
use Rattle.items.specs.declared.paths.Path.{Path}
use Rattle.items.specs.Paths.{features_in, features_at, path_at}
use Rattle.items.specs.Questions.{Query, holds, has_path, query_of, Asks}
use Rattle.items.specs.Statements.{AllName}
use Rattle.sheet.specs.declared.headers.Header.{Header}
use Rattle.sheet.specs.declared.whole.Accepted.{Accepted}
use Rattle.sheet.specs.Headers.{header_of}
use Rattle.sheet.specs.Numbered.{question_in, numbered}
use Rattle.sheet.specs.Sheets.{Sheet, accepted, read_sheet, sheet_of}
use Rattle.sheet.proofs.Theorems.{accepted_read, accepted_stated, accepted_variables}
use Rattle.rules.specs.declared.kinds.Kind.{Kind}
use Rattle.rules.specs.declared.verdicts.Verdict.{Verdict}
use Rattle.rules.specs.Facts.{Relation}
use Rattle.rules.specs.Tables.{facts}
use Rattle.rules.specs.Derived.{derived, facts_of}
use Rattle.rules.specs.Clashes.{clash_of, clashes}
use Rattle.rules.specs.Roots.{label_at, path_label}
use Rattle.rules.specs.Verdicts.{verdict_of}
use Rattle.rules.proofs.Derived.{derived_closed}
use Rattle.rules.proofs.Roots.{path_told}
use Rattle.labels.specs.Roots.{label_in}
use Rattle.outcomes.specs.declared.outcomes.Outcome.{Outcome}
use Rattle.outcomes.specs.Closed.{outcome_by}
use Rattle.outcomes.specs.Judged.{judged}
use Rattle.paths.specs.Sets.{Transitive}
use Rattle.paths.specs.Walks.{LabelTold}
use Rattle.statements.specs.declared.lists.Lists.{Lists}
use Rattle.statements.specs.Lists.{Stand}
use Rattle.promise.specs.Checks.{of_refusal, sheet_outcome, outcome_of, Checked}
use Rattle.promise.specs.Paths.{asked_label, path_label_told, PathLabelTold}
use Rattle.promise.proofs.Told.{path_label_is}
use Rattle.engine.specs.Replying.{IsRead}
use Rattle.engine.specs.Roots.{Derived, Left, label_where}
use Rattle.engine.specs.Paths.{PathLabelIs, PathLabelBy}
use Rattle.promise.proofs.Clashes.{nowhere}
use Rattle.engine.proofs.Leaving.{accepted_left, by_verdict, read, reads}
use Rattle.engine.proofs.Reading.{same_features, is_numbered, not_numbered, numbered_read, numbered_asks}

-- by a table of what follows
module _ {b : List ℕ} {h : Header} {t : List ℕ} (d : Derived b h t) where
  abbrev st : List Statement
  st = (sheet_of b).stated

  n_is : (sheet_of b).n ≡ h.variables
  n_is = accepted_variables b (accepted h d.asked) d.read

  names : AllName h.variables (sheet_of b).stated
  names = accepted_stated b (accepted h d.asked) d.read

  table_is : t ≡ derived (sheet_of b).stated h.variables
  table_is = rw (← n_is) d.is

  pub derived_transitive : Transitive (facts h.variables t)
  derived_transitive =
      subst (λ u. Transitive (facts h.variables u)) (sym table_is)
      (record { through = (derived_closed h.variables st names).through Kind.Ordered })

  pub path_label_found : (path : Path) {lists : Lists} {i : Variable} {label : Found Label}
      → Stand h.variables (sheet_of b).stated lists → IsRead b (Question.HasPath i path)
      → LabelTold h.variables t lists.selections.items lists.labels.spreads i.0
      (features_in path.count (path_at b path.first path.count)) label
      → PathLabelIs (sheet_of b) i.0 (features_at path.count b path.first) label
  path_label_found path {i = i} {label = label} stand is_read told =
      record {
        is = λ clear.
            subst (λ n. clashes st n ≡ false → label_in label ≡ label_at st (facts_of st n) i.0 handed) (sym n_is) of_n clear
            ∙ ap (label_at st (facts_of st (sheet_of b).n) i.0) (same_features b i path is_read)
            ∙ sym (path_told (sheet_of b) i.0 (features_at path.count b path.first) clear);
      }
    where
      handed : List ℕ
      handed = features_in path.count (path_at b path.first path.count)

      of_n : clashes st h.variables ≡ false → label_in label ≡ label_at st (facts_of st h.variables) i.0 handed
      of_n clear =
          told.told st stand.selections_stand stand.labelled names table_is clear
          ∙ ap (λ u. label_at st (facts h.variables u) i.0 handed) table_is

-- an accepted sheet's header is read first
pub header_read : (b : List ℕ) {a : Accepted} → read_sheet b ≡ Ok a → header_of b ≡ Ok a.header
header_read b {a} e = (accepted_read b a e).header_is

-- where the outcome is not consistent, and where no path is asked for, none is told
where_none : (o : Outcome) → label_where o none ≡ none
where_none (Outcome.Consistent c d) = refl
where_none (Outcome.Clash i j) = refl
where_none (Outcome.Refused fault at) = refl

pub none_by : {o : Outcome} {s : Sheet} {k : ℕ} → ((c d : ℕ) → o ≡ Outcome.Consistent c d → ⊥) → PathLabelBy o s k None
none_by {o = Outcome.Consistent c d} other = absurd (other c d refl)
none_by {o = Outcome.Clash i j} other = record { is = refl }
none_by {o = Outcome.Refused fault at} other = record { is = refl }

asked_none : {o : Outcome} {s : Sheet} {k : ℕ} → asked_label s (question_in s.asked k) ≡ none → PathLabelBy o s k None
asked_none {o} e = record { is = sym (ap (label_where o) e ∙ where_none o) }

-- by what a check leaves of a sheet that it tells to be consistent
module _ {b : List ℕ} {o : Outcome} {t : List ℕ} (left : Left b o t) {c d : ℕ} (is : o ≡ Outcome.Consistent c d) where
  pub sheet_left : {C : Type 0} (q : Refusal) → read_sheet b ≡ Err q → C
  sheet_left q e = accepted_left left is λ a read facts_are. absurd (cc)

  -- its labels do not clash
  clear_left : clashes (sheet_of b).stated (sheet_of b).n ≡ false
  unfolding clashes
  clear_left = go left.judged refl
    where
      by_clash : (v : Verdict) → verdict_of (sheet_of b) ≡ v → o ≡ sheet_outcome (sheet_of b)
          → is_some (clash_of (sheet_of b).stated (sheet_of b).n) ≡ false
      by_clash Verdict.Consistent e outcome = rw (nowhere (sheet_of b) e) refl
      by_clash (Verdict.Clash clash) e outcome =
          let clashing : o ≡ Outcome.Clash clash.first clash.second = rw e at outcome in
          let never : Outcome.Clash clash.first clash.second ≡ Outcome.Consistent c d = sym clashing ∙ is in absurd (cc)

      go : (r : Result Accepted Refusal) → left.judged ≡ r → is_some (clash_of (sheet_of b).stated (sheet_of b).n) ≡ false
      go (Err q) e =
          let other : o ≡ of_refusal q = rw e at left.outcome in
          let never : of_refusal q ≡ Outcome.Consistent c d = sym other ∙ is in absurd (cc)
      go (Ok a) e = by_clash (verdict_of (sheet_of b)) refl (rw e at left.outcome)

  module _ {a : Accepted} (read : read_sheet b ≡ Ok a) (k : ℕ) where
    pub beyond_left : numbered b a k ≡ None → PathLabelBy o (sheet_of b) k None
    beyond_left e =
        asked_none (ap (asked_label (sheet_of b)) (not_numbered b a read k e))

    pub other_left : {q : Question} → numbered b a k ≡ Some q
        → ((i : Variable) (path : Path) → q ≡ Question.HasPath i path → ⊥) → PathLabelBy o (sheet_of b) k None
    other_left {q = Question.Holds x} e other =
        asked_none (ap (asked_label (sheet_of b)) (is_numbered b a read k e).asked)
    other_left {q = Question.HasPath i path} e other = absurd (other i path refl)

    module _ {q : Question} {i : Variable} {path : Path} (e : numbered b a k ≡ Some q) (has : q ≡ Question.HasPath i path)
      where
        pub path_left : IsRead b (Question.HasPath i path)
        path_left = subst (IsRead b) has (numbered_read b a read k (is_numbered b a read k e))

        pub subject_left : i.0 < a.header.variables
        subject_left =
            subst (λ x. Asks a.header.variables (query_of b x)) has (numbered_asks b a read k (is_numbered b a read k e))

        pub label_by : {label : Found Label}
            → PathLabelIs (sheet_of b) i.0 (features_at path.count b path.first) label
            → PathLabelBy o (sheet_of b) k label
        label_by found =
            let asked : question_in (sheet_of b).asked k ≡ some (query_of b (Question.HasPath i path)) =
            subst (λ x. question_in (sheet_of b).asked k ≡ some (query_of b x)) has (is_numbered b a read k e).asked in
            record {
              is =
                  found.is clear_left
                  ∙ sym (ap (λ u. label_where u (asked_label (sheet_of b) (question_in (sheet_of b).asked k))) is
                  ∙ ap (asked_label (sheet_of b)) asked);
            }

-- a label told by the outcome is the one that is told of the bytes
module _ (b : List ℕ) (k : ℕ) where
  asked_where : (v : Verdict) (n : ℕ) (r : Relation) (q : Option Query) → verdict_of (sheet_of b) ≡ v
      → label_where (outcome_by n r v) (asked_label (sheet_of b) q) ≡ asked_label (sheet_of b) q
  unfolding path_label
  asked_where v n r none e = where_none (outcome_by n r v)
  asked_where v n r (some (holds x)) e = where_none (outcome_by n r v)
  asked_where v n r (some (has_path i p)) e = rw e (by_verdict v n r _)

  told_where : (read : Result Accepted Refusal)
      → label_where (then_value read of_refusal λ a. sheet_outcome (sheet_of b))
      (asked_label (sheet_of b) (question_in (sheet_of b).asked k))
      ≡ path_label_told read (sheet_of b) k
  unfolding path_label_told
  told_where (Err q) = refl
  told_where (Ok a) = asked_where (verdict_of (sheet_of b)) _ _ _ refl

-- what a check leaves, and tells
pub path_label_left : {b facts work replies facts' work' replies' : List ℕ} {o : Outcome}
    → (checked : Checked b facts work replies facts' work' replies' o) (k : ℕ) {label : Found Label}
    → PathLabelBy o (sheet_of b) k label
    → PathLabelTold (judged b (length facts) (length work) (length replies)) (sheet_of b) k (label_in label)
unfolding outcome_of
path_label_left {b} checked k by =
    path_label_is b (reads checked) k
    (by.is ∙ ap (λ o. label_where o (asked_label (sheet_of b) (question_in (sheet_of b).asked k))) checked.outcome
    ∙ told_where b k (read checked))
