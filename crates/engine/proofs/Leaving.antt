-- The labels told of a sheet, by its table, and by what a check has left.
use Rattle.std.specs.Prelude.{Result, Ok, Err}
use Prim.Native.Nat.{ℕ, ◌*◌, ◌≤◌}
use lib.ListN.{length, take, drop, length-append}
use lib.Seq.{take_at}
use mathlib.Core.List.{List}
use mathlib.Core.Option.{Option}
use mathlib.Core.Path.{◌≡◌, refl, sym, ap, subst, ◌∙◌}
use native.Mathlib.Omega.{arith}
use Rattle.fields.specs.declared.refusals.Refusal.{Refusal}
use Rattle.fields.specs.Fields.{then_value}
use Rattle.fields.specs.Limits.{most_variables}
use Rattle.sheet.specs.declared.headers.Header.{Header}
use Rattle.sheet.specs.declared.whole.Accepted.{Accepted}
use Rattle.sheet.specs.Headers.{header_of, size_for, table_size}
use Rattle.sheet.specs.Sheets.{Sheet, sheet, accepted, read_sheet, sheet_of}
use Rattle.sheet.proofs.Theorems.{accepted_read, accepted_few, accepted_stated, accepted_variables}
use Rattle.rules.specs.declared.verdicts.Verdict.{Verdict}
use Rattle.rules.specs.Facts.{Relation}
use Rattle.rules.specs.Derived.{facts_of}
use Rattle.rules.specs.Tables.{table_bytes}
use Rattle.rules.specs.Verdicts.{verdict_of}
use Rattle.rules.specs.Roots.{told_by, path_label, root_label}
use Rattle.rules.proofs.Derived.{derived_bytes, derived_shape}
use Rattle.rules.proofs.Tables.{table_length}
use Rattle.labels.specs.declared.roots.RootLabels.{RootLabels}
use Rattle.labels.specs.Roots.{Unlabelled, root_at}
use Rattle.labels.specs.declared.spread.Spread.{Spread}
use Rattle.labels.specs.Labels.{LabelsStand}
use Rattle.labels.proofs.Told.{none_told}
use Rattle.answers.specs.Roots.{RootsTold}
use Rattle.statements.specs.Lists.{Gathering}
use Rattle.outcomes.specs.declared.outcomes.Outcome.{Outcome}
use Rattle.outcomes.specs.Closed.{outcome_by}
use Rattle.outcomes.specs.Judged.{judged}
use Rattle.outcomes.proofs.Judging.{accepted_fits}
use Rattle.promise.specs.Checks.{of_refusal, sheet_outcome, outcome_of, over, facts_after, Checked}
use Rattle.promise.specs.Roots.{label_told, LabelsTold}
use Rattle.promise.proofs.Told.{labels_told}
use Rattle.engine.specs.Roots.{Derived, Left, RootsAre, RootsBy, label_where}

-- a table of what follows has its size
pub derived_few : {b : List ℕ} {h : Header} {facts : List ℕ} → Derived b h facts → h.variables ≤ most_variables
derived_few {b} {h} d =
    let x = accepted h d.asked in omega (arith, accepted_few b x d.read, accepted_variables b x d.read)

pub derived_square : {b : List ℕ} {h : Header} {facts : List ℕ} → Derived b h facts
    → length facts ≡ h.variables * h.variables
derived_square {b} {h} d =
    rw (d.is, ← accepted_variables b (accepted h d.asked) d.read) (derived_shape (sheet_of b).n (sheet_of b).stated).size

-- by a table of what follows, and the labels that are stated
pub roots_are : {b : List ℕ} {h : Header} {facts : List ℕ} {spreads : List Spread} {labels : RootLabels}
    → Derived b h facts → LabelsStand h.variables (sheet_of b).stated spreads
    → RootsTold h.variables facts spreads labels → RootsAre (sheet_of b) labels
roots_are {b} {h} {labels = labels} d stand told =
    let x = accepted h d.asked in
    let n_is : (sheet_of b).n ≡ h.variables = accepted_variables b x d.read in
    record {
      are = λ i.
          subst (λ n. root_at labels i ≡ root_label (sheet n (sheet_of b).stated (sheet_of b).asked) i) (sym n_is)
          (told.told (sheet_of b).stated (sheet_of b).asked stand (accepted_stated b x d.read) (rw (← n_is) d.is) i);
    }

-- by what a check leaves of a sheet that it tells to be consistent
module _ {b : List ℕ} {o : Outcome} {facts : List ℕ} (left : Left b o facts) {c d : ℕ} (is : o ≡ Outcome.Consistent c d)
  where
    pub accepted_left : {C : Type 0}
        → ((a : Accepted) → read_sheet b ≡ Ok a → facts ≡ facts_after (sheet_of b) left.before → C) → C
    accepted_left {C} next = go left.judged refl
      where
        go : (r : Result Accepted Refusal) → left.judged ≡ r → C
        go (Err q) e =
            let other : o ≡ of_refusal q = rw e at left.outcome in
            let never : of_refusal q ≡ Outcome.Consistent c d = sym other ∙ is in absurd (cc)
        go (Ok a) e = next a (left.reads a e) (rw e at left.facts_are)

    pub header_left : {C : Type 0} (q : Refusal) → header_of b ≡ Err q → C
    header_left q e =
        accepted_left λ a read facts_are.
        let header_is = (accepted_read b a read).header_is in absurd (cc)

    module _ {h : Header} (header : header_of b ≡ Ok h) {size : ℕ} (size_is : size ≡ table_size h) where
      abbrev bytes : List ℕ
      bytes = table_bytes (sheet_of b).n (facts_of (sheet_of b).stated (sheet_of b).n)

      -- the table of its size is there, and holds what follows
      table_left : {C : Type 0} → ((a : Accepted) → read_sheet b ≡ Ok a → a.header ≡ h → length bytes ≡ size
          → facts ≡ over bytes left.before → C) → C
      table_left next =
          accepted_left λ a read facts_are.
          let header_is = (accepted_read b a read).header_is in
          let same : a.header ≡ h = cc in
          let n_is = accepted_variables b a read in
          next a read same
          (table_length (sheet_of b).n _ ∙ ap size_for (n_is ∙ ap (λ (x : Header). x.variables) same) ∙ sym size_is) facts_are

      pub size_left : size ≤ length facts
      size_left =
          table_left λ a read same long facts_are.
          rw facts_are (omega (arith, long, length-append bytes (drop (length bytes) left.before)))

      pub derived_left : Derived b h (take size facts)
      derived_left =
          table_left λ a read same long facts_are.
          record {
            asked = a.asked;
            read = read ∙ ap (λ x. Ok (accepted x a.asked)) same;
            is =
                rw facts_are (take_at bytes _ size long)
                ∙ derived_bytes (sheet_of b).n (sheet_of b).stated;
          }

    pub gathering_left : {h : Header} → header_of b ≡ Ok h → Gathering b h
    gathering_left {h} header =
        let d = derived_left {h = h} header {size = table_size h} refl in record { asked = d.asked; accepted = d.read }

-- where the outcome is not consistent none is told
pub none_where : {o : Outcome} {s : Sheet} {labels : RootLabels} → ((c d : ℕ) → o ≡ Outcome.Consistent c d → ⊥)
    → Unlabelled labels → RootsBy o s labels
none_where {o = Outcome.Consistent c d} other e = absurd (other c d refl)
none_where {o = Outcome.Clash i j} other e = record { are = λ i. none_told e i }
none_where {o = Outcome.Refused fault at} other e = record { are = λ i. none_told e i }

pub all_where : {o : Outcome} {s : Sheet} {labels : RootLabels} {c d : ℕ} → o ≡ Outcome.Consistent c d
    → RootsAre s labels → RootsBy o s labels
all_where is roots = rw is record { are = roots.are }

pub by_verdict : (v : Verdict) (n : ℕ) (r : Relation) (below : Option ℕ)
    → label_where (outcome_by n r v) (told_by v below) ≡ told_by v below
by_verdict Verdict.Consistent n r below = refl
by_verdict (Verdict.Clash clash) n r below = refl

-- labels told by the outcome are those that are told of the bytes
module _ (b : List ℕ) where
  told_where : (read : Result Accepted Refusal) (i : ℕ)
      → label_where (then_value read of_refusal λ a. sheet_outcome (sheet_of b)) (root_label (sheet_of b) i)
      ≡ label_told read (sheet_of b) i
  unfolding label_told path_label
  told_where (Err q) i = refl
  told_where (Ok a) i = by_verdict (verdict_of (sheet_of b)) _ _ _

-- what a check leaves, and tells
module _ {b facts work replies facts' work' replies' : List ℕ} {o : Outcome}
    (checked : Checked b facts work replies facts' work' replies' o) where
  abbrev pub read : Result Accepted Refusal
  read = judged b (length facts) (length work) (length replies)

  pub reads : (a : Accepted) → read ≡ Ok a → read_sheet b ≡ Ok a
  reads a e = (accepted_fits b (length facts) (length work) (length replies) a e).accepted

  pub left_by : Left b o facts'
  unfolding outcome_of
  left_by =
      record {
        judged = read;
        reads = reads;
        before = facts;
        outcome = checked.outcome;
        facts_are = checked.buffers.facts_are;
      }

  pub labels_left : {labels : RootLabels} → RootsBy o (sheet_of b) labels
      → LabelsTold (judged b (length facts) (length work) (length replies)) (sheet_of b) labels
  unfolding outcome_of
  labels_left by =
      labels_told b reads λ i.
      by.are i ∙ ap (λ o. label_where o (root_label (sheet_of b) i)) checked.outcome ∙ told_where b read i

-- of a sheet alone
module _ (b : List ℕ) {labels : RootLabels} where
  pub labels_refused : {q : Refusal} → read_sheet b ≡ Err q → Unlabelled labels
      → LabelsTold (read_sheet b) (sheet_of b) labels
  unfolding label_told
  labels_refused e empty = labels_told b (λ a read. read) λ i. none_told empty i ∙ rw e refl

  pub labels_accepted : {a : Accepted} → read_sheet b ≡ Ok a → RootsAre (sheet_of b) labels
      → LabelsTold (read_sheet b) (sheet_of b) labels
  unfolding label_told
  labels_accepted e roots = labels_told b (λ a read. read) λ i. roots.are i ∙ rw e refl
