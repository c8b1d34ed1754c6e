-- What shows support, sought in the list of selections and among the variables.
use Prim.Native.Nat.{ℕ, ◌<◌}
use lib.ListN.{length, get_or}
use mathlib.Core.Bool.{Bool, true, false, ◌&&◌, false≢true}
use mathlib.Core.List.{List}
use mathlib.Core.Path.{◌≡◌, refl, sym, ap, ◌∙◌}
use Rattle.std.specs.Prelude.{Option, None, Some}
use Rattle.std.specs.Cmp.Derive.{both_true}
use Rattle.std.specs.Iterator.{CallableAtEachTurn}
use Rattle.std.specs.List.{list_any, range_with_len}
use Rattle.std.proofs.lemmas.Bool.{and_parts}
use Rattle.std.proofs.lemmas.Iterator.{YieldsList}
use Rattle.std.proofs.lemmas.Iterator.Adapters.{serves_from_places}
use Rattle.std.proofs.lemmas.List.{get_or_default}
use Rattle.std.proofs.lemmas.List.Folds.{list_any_at}
use Rattle.fields.specs.declared.numbers.Feature.{Feature}
use Rattle.fields.specs.declared.numbers.Label.{Label}
use Rattle.fields.specs.declared.numbers.Variable.{Variable}
use Rattle.fields.specs.Fields.{label}
use Rattle.fields.specs.Tests.{same}
use Rattle.fields.proofs.Choice.{is_same, same_true}
use Rattle.items.specs.declared.items.Statement.{Statement}
use Rattle.rules.specs.Stated.{selection, Stated}
use Rattle.rules.specs.declared.kinds.Kind.{Kind}
use Rattle.rules.specs.Facts.{Relation}
use Rattle.rules.specs.Tables.{facts}
use Rattle.rules.specs.Support.{under_child, over_child, under_label, supported}
use Rattle.rules.proofs.Logic.{same_tests}
use Rattle.rules.proofs.Some.{below_by, below_one}
use Rattle.rules.proofs.Tables.{fact_row}
use Rattle.rules.proofs.Supported.{under_by, over_by, under_of, over_of, label_by, label_under}
use Rattle.selections.specs.declared.listed.Selection.{Selection}
use Rattle.selections.specs.Listed.{selection_of, selection_at, Selections, Listed}
use Rattle.selections.specs.Stands.{SelectionsStand}
use Rattle.labels.specs.declared.spread.Spread.{Spread}
use Rattle.labels.specs.Spreads.{spread_at, only_label}
use Rattle.labels.specs.Labels.{LabelsStand}
use Rattle.labels.proofs.Kept.{only_stated, stated_only}
use Rattle.answers.specs.Supports.{SingleLabels, IsSelection, is_under, is_label, LabelTold, SupportTold}
use Rattle.answers.proofs.Logic.{fails_first, second_decides}
use Rattle.answers.proofs.Ranges.{passing_at, any_in_range}

-- each of the list is lawful
lawful_at : {n : ℕ} {list : List Selection} → Selections n list → (s : Selection) (k : ℕ) → k < length list
    → s ≡ get_or list k s → IsSelection n s
lawful_at {n} {list} lawful s k h e =
    let here = e ∙ get_or_default list k s (selection_of 0 0 0) h in
    rw here (record { subject = lawful.subject_below k h; child = lawful.child_below k h })

-- a search of the list may ask of each that it is lawful
pub lawful_turns : {n : ℕ} {list : List Selection} → Selections n list → {S A F : Type 0}
    → {steps : S → Option A → S → Type 0} {v : A → Selection} {s : S} → YieldsList steps v s list
    → {R : F → A → F → Type 0} {Q : F → A → Type 0} {f : F} → ((x : A) (q : F) → R f x q → q ≡ f)
    → ((x : A) → IsSelection n (v x) → Q f x) → CallableAtEachTurn steps R Q s f
lawful_turns lawful {v = v} road stays asks =
    serves_from_places road stays λ x k h e. asks x (lawful_at lawful (v x) k h e)

module _ {n : ℕ} {st : List Statement} {list : List Selection} (lawful : Selections n list)
    (stand : SelectionsStand n st (Listed list)) (r : Relation) (asked : Selection) where
  -- the selection at a place is stated, and where one is stated there is a place
  stated_at : (k : ℕ) → k < length list → (selection_at list k).feature.0 ≡ asked.feature.0
      → Stated st (selection (selection_at list k).subject.0 asked.feature.0 (selection_at list k).child.0)
  stated_at k h e =
      stand.stated _ _ _ (lawful.subject_below k h)
      (record { at = k; in_list = h; subject = refl; feature = e; child = refl })

  pub under_sought : list_any (λ s. is_under r s asked) list
      ≡ under_child st r asked.subject.0 asked.feature.0 asked.child.0
  under_sought =
      same_tests _ _
      (λ p. passing_at (λ s. is_under r s asked) list (selection_of 0 0 0) p λ k h q.
      let s = selection_at list k in
      let parts = and_parts (same s.feature.0 asked.feature.0) _ q in
      let rest = and_parts (r Kind.Ordered s.subject.0 asked.subject.0) _ parts.1 in
      under_by r (stated_at k h (same_true _ _ parts.0)) rest.0 rest.1)
      (λ p. under_of st r asked.subject.0 asked.feature.0 asked.child.0 p λ k m s a b.
      let l = stand.listed k asked.feature.0 m s in
      list_any_at (λ s. is_under r s asked) list l.at (selection_of 0 0 0) l.in_list
      (both_true (is_same _ _ l.feature)
      (both_true (ap (λ x. r Kind.Ordered x asked.subject.0) l.subject ∙ a)
      (ap (λ x. r Kind.Ordered asked.child.0 x) l.child ∙ b))))

  pub over_sought : list_any (is_under r asked) list ≡ over_child st r asked.subject.0 asked.feature.0 asked.child.0
  over_sought =
      same_tests _ _
      (λ p. passing_at (is_under r asked) list (selection_of 0 0 0) p λ k h q.
      let s = selection_at list k in
      let parts = and_parts (same asked.feature.0 s.feature.0) _ q in
      let rest = and_parts (r Kind.Ordered asked.subject.0 s.subject.0) _ parts.1 in
      over_by r (stated_at k h (sym (same_true _ _ parts.0))) rest.0 rest.1)
      (λ p. over_of st r asked.subject.0 asked.feature.0 asked.child.0 p λ k m s a b.
      let l = stand.listed k asked.feature.0 m s in
      list_any_at (is_under r asked) list l.at (selection_of 0 0 0) l.in_list
      (both_true (is_same _ _ (sym l.feature))
      (both_true (ap (λ x. r Kind.Ordered asked.subject.0 x) l.subject ∙ a)
      (ap (λ x. r Kind.Ordered x asked.child.0) l.child ∙ b))))

is_label_true : (x : Option Label) {a : ℕ} → is_label x a ≡ true → x ≡ Some (label a)
is_label_true None e = absurd (false≢true e)
is_label_true (Some b) {a} e = ap (λ c. Some (label c)) (same_true b.0 a e)

-- k has the label a alone and is below i
abbrev pub label_at : Relation → List Spread → ℕ → ℕ → ℕ → Bool
label_at r spreads i a k = is_label (only_label (spread_at spreads k)) a && r Kind.Ordered k i

pub label_sought : (n : ℕ) (t : List ℕ) {st : List Statement} {spreads : List Spread} → LabelsStand n st spreads
    → SingleLabels n spreads → (i a : ℕ)
    → list_any (label_at (facts n t) spreads i a) (range_with_len 0 n) ≡ under_label st (facts n t) i a
label_sought n t {st} {spreads} stand one i a =
    any_in_range (label_at (facts n t) spreads i a) n
    ∙ same_tests _ _
    (λ p. below_one n (label_at (facts n t) spreads i a) p λ k h q.
    let only = only_label (spread_at spreads k) in
    let parts = and_parts (is_label only a) _ q in
    label_by (facts n t) (only_stated (stand.at k h) (is_label_true only parts.0)) parts.1)
    (λ p. label_under st (facts n t) i a p λ k s o.
    let h = fact_row n t Kind.Ordered k i o in
    let only = stated_only (stand.at k h) (one.single k h) s in
    below_by _ n k h (both_true (ap (λ x. is_label x a) only ∙ is_same a a refl) o))

-- the selection that is asked
abbrev asked : Variable → Feature → Variable → Selection
asked i f j = record { subject = i; feature = f; child = j }

-- what is told of a question, by its kind
module _ {n : ℕ} {t : List ℕ} {list : List Selection} {spreads : List Spread} {q : Statement} where
  module _ {i j : Variable} {x y : ℕ} {r : Bool} (first : x ≡ i.0) (second : y ≡ j.0) where
    pub by_ordering : q ≡ Statement.Ordering i j → r ≡ facts n t Kind.Ordered x y → SupportTold n t list spreads q r
    unfolding supported
    by_ordering is p = record { told = λ st selections labels. rw (is, ← first, ← second) p }

    pub by_compatibility : q ≡ Statement.Compatibility i j → r ≡ facts n t Kind.Compatible x y
        → SupportTold n t list spreads q r
    unfolding supported
    by_compatibility is p = record { told = λ st selections labels. rw (is, ← first, ← second) p }

  module _ {i j : Variable} {f : Feature} {u : Bool} (lawful : Selections n list) (is : q ≡ Statement.Selection i f j)
      (under : u ≡ list_any (λ s. is_under (facts n t) s (asked i f j)) list) where
    pub by_both : {r : Bool} → u ≡ true → r ≡ list_any (is_under (facts n t) (asked i f j)) list
        → SupportTold n t list spreads q r
    unfolding supported
    by_both p e =
        record {
          told = λ st selections labels.
              rw is
              (second_decides (sym (under_sought lawful selections (facts n t) (asked i f j)) ∙ sym under ∙ p)
              (e ∙ over_sought lawful selections (facts n t) (asked i f j)));
        }

    pub by_none_under : u ≡ false → SupportTold n t list spreads q u
    unfolding supported
    by_none_under p =
        record {
          told = λ st selections labels.
              rw is
              (p
              ∙ sym (fails_first _ (sym (under_sought lawful selections (facts n t) (asked i f j)) ∙ sym under ∙ p)));
        }

  pub by_label : {i : Variable} {a : Label} {x : ℕ} {r : Bool} → x ≡ i.0 → q ≡ Statement.Labelling i a
      → LabelTold n t spreads x a.0 r → SupportTold n t list spreads q r
  unfolding supported
  by_label first is p = record { told = λ st selections labels. rw (is, ← first) (p.told st labels) }
