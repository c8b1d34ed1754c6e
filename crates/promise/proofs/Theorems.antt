-- What users rest on: the sentences of demands 1, 2 and 3, each a theorem, of any bytes, buffers and number of which
-- `Returned` and `Means` are ensured; and those on labels, of what `LabelMeans` is ensured.
use Rattle.std.specs.Prelude.{Result, Err}
use Prim.Native.Nat.{ℕ, zero, suc, ◌+◌, ◌/◌, ◌%◌, ◌<◌, ◌≤◌}
use mathlib.Core.List.{List, []}
use mathlib.Core.Logic.{◌↔◌, ◌⊎◌, inl, inr}
use mathlib.Core.Logic.Iff.{trans}
use mathlib.Core.Option.{Option, none, some, some-injective}
use mathlib.Core.Path.{◌≡◌, refl, ap}
use native.Mathlib.Omega.{arith}
use lib.ListN.{length, get_or, take}
use Rattle.fields.specs.declared.refusals.Refusal.{Refusal}
use Rattle.sheet.specs.Headers.{size_for}
use Rattle.fields.specs.declared.numbers.Variable.{Variable}
use Rattle.items.specs.Questions.{Query, has_path}
use Rattle.sheet.specs.declared.whole.Accepted.{Accepted}
use Rattle.sheet.specs.Numbered.{question_in}
use Rattle.sheet.specs.Sheets.{Sheet, sheet_of}
use Rattle.rules.specs.Demand.{Derives}
use Rattle.rules.specs.Derived.{facts_of}
use Rattle.rules.specs.Tables.{table_bytes}
use Rattle.trees.specs.Assignments.{Keeps, Breaks, Meets, Counts}
use Rattle.trees.specs.Demand.{Met, Unmet, Some, Every, LabelIs, RootIs}
use Rattle.trees.specs.Trees.{Present, Path, Tree, IsTree, Child, Labelled}
use Rattle.labels.specs.declared.roots.RootLabels.{RootLabels}
use Rattle.labels.specs.Roots.{root_at}
use Rattle.outcomes.specs.Outcomes.{kind_in, first_in, second_in}
use Rattle.outcomes.specs.Judged.{judged}
use Rattle.outcomes.proofs.Judging.{accepted_fits}
use Rattle.promise.specs.Checks.{Returned}
use Rattle.promise.specs.Promise.{IsAccepted, IsRefused, Means}
use Rattle.promise.specs.Promise.{FactsTold, RefusalTold, OneReplyEach, F5Applies, Supported}
use Rattle.promise.specs.Labels.{label_of_number, MustHave, LabelMeans}
use Rattle.promise.specs.Roots.{LabelsTold, LabelReturned}
use Rattle.promise.specs.Paths.{MustHaveAsked, PathLabelTold, PathReturned}
use Rattle.promise.proofs.Above.{low_returned, low_means}
use Rattle.promise.proofs.Shown as Shown
use Rattle.promise.proofs.Shown.{never_accepted, same_must, path_possible}
use Rattle.promise.proofs.Clashes.{none_applies}

module _ {b facts work replies facts' work' replies' : List ℕ} {r : ℕ}
    (returned : Returned b facts work replies facts' work' replies' r)
    (means : Means b facts work replies facts' replies' r) where
  abbrev read : Result Accepted Refusal
  read = Shown.read returned

  -- Demand 1. Refused are malformed sheets and lent buffers too short for the sheet, by number and place, with every
  -- lent byte left unchanged.
  pub refused : (kind_in r ≡ 2)
      ↔ ((q : Refusal) × ((read ≡ Err q) × RefusalTold q facts work replies facts' work' replies' r))
  refused = (
    λ k. let q = means.refused.0 k in (q.0, (q.1, Shown.refusal_told_lem returned q.0 q.1)),
    λ q. means.refused.1 (q.0, q.1.0),
  )

  -- Accepted is every other input: the engine then ends with consistent or clash, a filled fact table and, where
  -- consistent, one reply a question.
  pub accepted : (IsRefused read → ⊥)
      → ((kind_in r ≡ 0) ⊎ (kind_in r ≡ 1)) × FactsTold (sheet_of b) facts'
      × (kind_in r ≡ 0 → OneReplyEach (sheet_of b) replies replies')
  accepted other =
      Shown.by_case returned (λ q e k. absurd (other (q, e)))
      (λ a e is k. (inl k, means.derived (a, e), λ z. Shown.one_reply_each returned a e is))
      (λ a clash e is k. (inr k, means.derived (a, e), λ z. absurd (omega arith)))

  -- Nothing need be checked beforehand.
  pub every_input : (kind_in r ≡ 0) ⊎ ((kind_in r ≡ 1) ⊎ (kind_in r ≡ 2))
  every_input =
      Shown.by_case returned (λ q e k. inr (inr k)) (λ a e is k. inl k) (λ a clash e is k. inr (inl k))

  -- Demand 2. The fact table holds exactly the facts that rules F1 to F4 of the calculus derive from the sheet,
  pub facts_derived : IsAccepted read
      → Derives (sheet_of b).n (sheet_of b).stated (facts_of (sheet_of b).stated (sheet_of b).n)
      × (take (size_for (sheet_of b).n) facts' ≡ table_bytes (sheet_of b).n (facts_of (sheet_of b).stated (sheet_of b).n))
  facts_derived is = ((means.derived is).derives, (means.derived is).bytes)

  -- clash is given exactly where F5 applies,
  pub clash_by_f5 : IsAccepted read → (kind_in r ≡ 1) ↔ F5Applies (sheet_of b)
  clash_by_f5 is_accepted = (
    λ k. let least = means.least k in (first_in r, (second_in r, (least.row, least.column, least.applies))),
    λ found. Shown.by_case returned (λ q e k. absurd (Shown.refused_apart returned q e is_accepted))
        (λ a e is k. absurd (none_applies (sheet_of b) is found)) (λ a clash e is k. k),
  )

  -- and replies agree with its test of support.
  pub replies_by_support : kind_in r ≡ 0 → (k : ℕ) (q : Query) → question_in (sheet_of b).asked k ≡ some q
      → (get_or replies' k 0 ≡ 0) ↔ Supported (sheet_of b) q
  replies_by_support = Shown.by_support returned

  -- Demand 3. Whatever accepted sheet the engine gets, it says consistent exactly when some assignment of trees meets
  -- the sheet,
  pub consistent_exactly : IsAccepted read → (kind_in r ≡ 0) ↔ Met (Counts (sheet_of b))
  consistent_exactly is = (λ k. (means.consistent.0 k).1, λ met. means.consistent.1 (is, met))

  -- and clash exactly when none does;
  pub clash_exactly : IsAccepted read → (kind_in r ≡ 1) ↔ Unmet (Meets (sheet_of b))
  clash_exactly is = (λ k. (means.clash.0 k).1, λ none. means.clash.1 (is, none))

  -- and on a consistent sheet, whatever the question, it answers
  module _ (consistent : kind_in r ≡ 0) (k : ℕ) (q : Query) (asked : question_in (sheet_of b).asked k ≡ some q) where
    -- always exactly when every assignment meeting the sheet keeps the question,
    pub always_exactly : (get_or replies' k 0 ≡ 0) ↔ Every (Counts (sheet_of b)) λ v. Keeps v q
    always_exactly = (means.replies consistent k q asked).always

    -- never exactly when every such assignment breaks it,
    pub never_exactly : (get_or replies' k 0 ≡ 1) ↔ Every (Counts (sheet_of b)) λ v. Breaks v q
    never_exactly = (means.replies consistent k q asked).never

    -- and open exactly when there are two such assignments, one keeping it and one breaking it.
    pub open_exactly : (get_or replies' k 0 ≡ 2)
        ↔ ((Some (Counts (sheet_of b)) λ v. Keeps v q) × (Some (Counts (sheet_of b)) λ v. Breaks v q))
    open_exactly = (means.replies consistent k q asked).undecided

-- Paths. Whether a variable has a path is answered always exactly when every assignment meeting the sheet has it, else open:
module _ {b facts work replies facts' work' replies' : List ℕ} {r : ℕ}
    (returned : Returned b facts work replies facts' work' replies' r)
    (means : Means b facts work replies facts' replies' r) (consistent : kind_in r ≡ 0) (k : ℕ) (i : Variable) (p : Path)
    (asked : question_in (sheet_of b).asked k ≡ some (has_path i p)) where
  possible : Some (Counts (sheet_of b)) λ v. Present (v i.0 p)
  possible =
      let (accepted, met) = means.consistent.0 consistent in
      path_possible b (λ a e. (accepted_fits b (length facts) (length work) (length replies) a e).accepted) accepted met k i p
      asked

  pub path_always_exactly : (get_or replies' k 0 ≡ 0) ↔ Every (Counts (sheet_of b)) λ v. Present (v i.0 p)
  path_always_exactly = always_exactly returned means consistent k (has_path i p) asked

  -- open exactly when some lacks it,
  pub path_open_exactly : (get_or replies' k 0 ≡ 2) ↔ Some (Counts (sheet_of b)) λ v. Present (v i.0 p) → ⊥
  path_open_exactly = (
    λ e. ((open_exactly returned means consistent k (has_path i p) asked).0 e).1,
    λ lacks. (open_exactly returned means consistent k (has_path i p) asked).1 (possible, lacks),
  )

  -- and never is no answer to it.
  pub path_not_never : get_or replies' k 0 ≡ 1 → ⊥
  path_not_never e =
      (never_exactly returned means consistent k (has_path i p) asked).0 e possible.0 possible.1.0 possible.1.1

-- Labels. What is told of a variable's root or at a path, of whatever bytes and by whatever call:
module _ {read : Result Accepted Refusal} {s : Sheet} (accepted : IsAccepted read) (met : Met (Counts s)) (i : ℕ) (p : Path)
    (variable : i < s.n) where
  must : (a : ℕ) → LabelIs (Counts s) i p a → MustHave read s i p a
  must a every = record { accepted = accepted; variable = omega (arith, variable); met = met; everywhere = every }

  module _ {told : Option ℕ} (means : LabelMeans (MustHave read s i p) told) where
    -- on a consistent sheet a label is told exactly when every assignment meeting the sheet has it there,
    pub label_exactly : (a : ℕ) → (told ≡ some a) ↔ LabelIs (Counts s) i p a
    label_exactly a = (λ e. ((means.label a).0 e).everywhere, λ every. (means.label a).1 (must a every))

    -- none exactly when no label is common to them all,
    pub dash_exactly : (told ≡ none) ↔ ((a : ℕ) → LabelIs (Counts s) i p a → ⊥)
    dash_exactly = (λ e a every. means.dash.0 e a (must a every), λ no. means.dash.1 λ a m. no a m.everywhere)

    -- and never two.
    pub never_two : (a c : ℕ) → LabelIs (Counts s) i p a → LabelIs (Counts s) i p c → a ≡ c
    never_two a c every every' = means.one a c (must a every) (must c every')

-- None is told of bytes that are refused, of a sheet that clashes, and of a number that is no variable.
pub else_no_label : {read : Result Accepted Refusal} {s : Sheet} {i : ℕ} {p : Path} {told : Option ℕ}
    → LabelMeans (MustHave read s i p) told → IsRefused read ⊎ (Unmet (Meets s) ⊎ (s.n ≤ i)) → told ≡ none
else_no_label means (inl refused) = means.dash.1 λ a m. never_accepted (rw refused.1 at m.accepted)
else_no_label means (inr (inl unmet)) = means.dash.1 λ a m. unmet m.met.0 m.met.1
else_no_label means (inr (inr beyond)) = means.dash.1 λ a m. absurd (omega (arith, beyond, m.variable))

-- The number that C gets is 0 for no label, else 1 + the label.
pub number_of_none : (r : ℕ) → (r ≡ 0) ↔ (label_of_number r ≡ none)
number_of_none zero = (λ e. refl, λ e. refl)
number_of_none (suc a) = (λ e. absurd (omega (arith, e)), λ e. cc)

pub number_of_label : (r a : ℕ) → (r ≡ 1 + a) ↔ (label_of_number r ≡ some a)
number_of_label zero a = (λ e. absurd (omega (arith, e)), λ e. cc)
number_of_label (suc c) a = (λ e. ap some (omega (arith, e)), λ e. let same = some-injective c a e in omega (arith, same))

-- So it is with the number that C gets of one variable,
module _ {read : Result Accepted Refusal} {s : Sheet} {i r : ℕ} (returned : LabelReturned read s i r)
    (accepted : IsAccepted read) (met : Met (Counts s)) (variable : i < s.n) where
  pub number_exactly : (a : ℕ) → (r ≡ 1 + a) ↔ RootIs (Counts s) i a
  number_exactly a = trans (number_of_label r a) (label_exactly accepted met i [] variable returned.means a)

  pub zero_exactly : (r ≡ 0) ↔ ((a : ℕ) → RootIs (Counts s) i a → ⊥)
  zero_exactly = trans (number_of_none r) (dash_exactly accepted met i [] variable returned.means)

-- with the labels of all variables at once,
pub each_exactly : {read : Result Accepted Refusal} {s : Sheet} {labels : RootLabels} → LabelsTold read s labels
    → IsAccepted read → Met (Counts s) → (i a : ℕ) → i < s.n → (root_at labels i ≡ some a) ↔ RootIs (Counts s) i a
each_exactly told accepted met i a variable = label_exactly accepted met i [] variable (told.mean i) a

-- and with the label told at the path that question k asks for:
module _ {read : Result Accepted Refusal} {s : Sheet} {k : ℕ} {label : Option ℕ} (told : PathLabelTold read s k label) where
  module _ (accepted : IsAccepted read) (met : Met (Counts s)) (i : Variable) (p : Path)
      (asked : question_in s.asked k ≡ some (has_path i p)) (variable : i.0 < s.n) where
    must_asked : (a : ℕ) → LabelIs (Counts s) i.0 p a → MustHaveAsked read s k a
    must_asked a every =
        record { subject = i; path = p; asked = asked; must = must accepted met i.0 p variable a every }

    pub path_label_exactly : (a : ℕ) → (label ≡ some a) ↔ LabelIs (Counts s) i.0 p a
    path_label_exactly a = (
      λ e. (same_must asked ((told.means.label a).0 e)).everywhere,
      λ every. (told.means.label a).1 (must_asked a every),
    )

    pub path_dash_exactly : (label ≡ none) ↔ ((a : ℕ) → LabelIs (Counts s) i.0 p a → ⊥)
    path_dash_exactly = (
      λ e a every. told.means.dash.0 e a (must_asked a every),
      λ nowhere. told.means.dash.1 λ a m. nowhere a (same_must asked m).everywhere,
    )

  -- none of bytes that are refused, of a sheet that clashes, and of a number that is no path question's.
  pub else_no_path_label : IsRefused read ⊎ (Unmet (Meets s) ⊎ ((i : Variable) (p : Path)
      → question_in s.asked k ≡ some (has_path i p) → ⊥)) → label ≡ none
  else_no_path_label (inl refused) = told.means.dash.1 λ a m. never_accepted (rw refused.1 at m.must.accepted)
  else_no_path_label (inr (inl unmet)) = told.means.dash.1 λ a m. unmet m.must.met.0 m.must.met.1
  else_no_path_label (inr (inr other)) = told.means.dash.1 λ a m. other m.subject m.path m.asked

-- So it is with the number that C gets with a question's number,
module _ {b facts work replies facts' work' replies' : List ℕ} {k r : ℕ}
    (returned : PathReturned b facts work replies facts' work' replies' k r)
    (accepted : IsAccepted (judged b (length facts) (length work) (length replies))) (met : Met (Counts (sheet_of b)))
    (i : Variable) (p : Path) (asked : question_in (sheet_of b).asked k ≡ some (has_path i p)) (variable : i.0 < (sheet_of b).n)
  where
    pub path_number_exactly : (a : ℕ) → (r / 1099511627776 ≡ 1 + a) ↔ LabelIs (Counts (sheet_of b)) i.0 p a
    path_number_exactly a =
        trans (number_of_label (r / 1099511627776) a) (path_label_exactly returned.label accepted met i p asked variable a)

    pub path_zero_exactly : (r / 1099511627776 ≡ 0) ↔ ((a : ℕ) → LabelIs (Counts (sheet_of b)) i.0 p a → ⊥)
    path_zero_exactly =
        trans (number_of_none (r / 1099511627776)) (path_dash_exactly returned.label accepted met i p asked variable)

-- which below its label is the number of the check, and says all that this says.
pub number_below : {b facts work replies facts' work' replies' : List ℕ} {k r : ℕ}
    → PathReturned b facts work replies facts' work' replies' k r → Means b facts work replies facts' replies' r
    → Returned b facts work replies facts' work' replies' (r % 1099511627776)
    × Means b facts work replies facts' replies' (r % 1099511627776)
number_below returned means = (low_returned returned, low_means means)

-- Trees may be endless and may use any whole number as feature or label: there is one that is its own child.
pub endless : (f a : ℕ) → (t : Tree) × (IsTree t × Child t f t × Labelled t a)
endless = Shown.endless
