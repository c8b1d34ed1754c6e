-- The labels told are true of trees.
use Prim.Native.Nat.{ℕ, suc, ◌+◌}
use mathlib.Core.Bool.{true, false}
use mathlib.Core.Logic.{◌↔◌, ⊎_elim}
use mathlib.Core.List.{List, []}
use mathlib.Core.Option.{Option, none, some, none-ne-some, some-injective}
use mathlib.Core.Path.{◌≡◌, refl, sym, ap, ◌∙◌}
use native.Mathlib.Omega.{arith}
use Rattle.std.specs.Prelude.{Result, Ok, Err}
use Rattle.std.proofs.lemmas.Bool.{both_ways, cases_lt}
use Rattle.fields.specs.declared.refusals.Refusal.{Refusal}
use Rattle.items.specs.Questions.{Query, holds, has_path}
use Rattle.sheet.specs.declared.whole.Accepted.{Accepted}
use Rattle.sheet.specs.Numbered.{question_in}
use Rattle.sheet.specs.Sheets.{Sheet, read_sheet, sheet_of}
use Rattle.rules.specs.Clashes.{clashes}
use Rattle.rules.specs.Roots.{path_label}
use Rattle.rules.proofs.Logic.{decided}
use Rattle.rules.proofs.Roots.{path_on_clash, label_beyond}
use Rattle.trees.specs.Demand.{Demand3}
use Rattle.trees.specs.Trees.{Path}
use Rattle.trees.proofs.Demands.{sheet_3}
use Rattle.labels.specs.declared.roots.RootLabels.{RootLabels}
use Rattle.labels.specs.Roots.{root_at}
use Rattle.promise.specs.Promise.{IsAccepted}
use Rattle.promise.specs.Labels.{label_number, label_of_number, MustHave, LabelMeans}
use Rattle.promise.specs.Roots.{label_told, LabelsTold, LabelReturned}
use Rattle.promise.specs.Paths.{asked_label, path_label_told, MustHaveAsked, PathLabelTold}
use Rattle.promise.proofs.Shown.{never_accepted, same_must}

-- the first of three clauses gives the others
module _ {Must : ℕ → Type 0} where
  means_by : {told : Option ℕ} → ((a : ℕ) → (told ≡ some a) ↔ Must a) → LabelMeans Must told
  means_by {told} label =
      record {
        label = label;
        dash = (λ e a m. none-ne-some a (sym e ∙ (label a).1 m), none_told told refl);
        one = λ a c m m'. some-injective a c (sym ((label a).1 m) ∙ (label c).1 m');
      }
    where
      none_told : (t : Option ℕ) → told ≡ t → ((a : ℕ) → Must a → ⊥) → told ≡ none
      none_told none e none_has = e
      none_told (some a) e none_has = absurd (none_has a ((label a).0 e))

  -- where none has to be
  none_means : ((a : ℕ) → Must a → ⊥) → LabelMeans Must none
  none_means none_has = means_by λ a. (λ e. absurd (none-ne-some a e), λ m. absurd (none_has a m))

-- a sheet of which demand 3 holds, at a path of one of its variables, or of what is none
module _ {read : Result Accepted Refusal} {s : Sheet} (is : IsAccepted read) (three : Demand3 s) (i : ℕ) (p : Path) where
  where_clashing : clashes s.stated s.n ≡ true → LabelMeans (MustHave read s i p) (path_label s i p)
  where_clashing e =
      rw (path_on_clash s i p e) (none_means λ a m. both_ways _ (three.consistent.1 m.met) e)

  where_clear : clashes s.stated s.n ≡ false → LabelMeans (MustHave read s i p) (path_label s i p)
  where_clear e =
      means_by λ a. (
        λ q.
            ⊎_elim (λ h. record {
              accepted = is;
              variable = h;
              met = three.consistent.0 e;
              everywhere = (three.labels e i p a h).0 q;
            })
            (λ h. absurd (none-ne-some a (sym (label_beyond s i p h) ∙ q))) (cases_lt i s.n),
        λ m. (three.labels e i p a m.variable).1 m.everywhere,
      )

  pub accepted_means : LabelMeans (MustHave read s i p) (path_label s i p)
  accepted_means = decided (clashes s.stated s.n) where_clashing where_clear

-- the same of a question
module _ {read : Result Accepted Refusal} {s : Sheet} (is : IsAccepted read) (three : Demand3 s) (k : ℕ) where
  asked_means : LabelMeans (MustHaveAsked read s k) (asked_label s (question_in s.asked k))
  asked_means = go (question_in s.asked k) refl
    where
      go : (q : Option Query) → question_in s.asked k ≡ q → LabelMeans (MustHaveAsked read s k) (asked_label s q)
      go none e = none_means λ a m. none-ne-some _ (sym e ∙ m.asked)
      go (some (holds x)) e =
          none_means λ a m. let other = some-injective _ _ (sym e ∙ m.asked) in absurd (cc)
      go (some (has_path i p)) e =
          means_by λ a. (
            λ q. record { subject = i; path = p; asked = e; must = ((accepted_means is three i.0 p).label a).0 q },
            λ m. ((accepted_means is three i.0 p).label a).1 (same_must e m),
          )

-- the number of a label tells the label
pub numbered : (told : Option ℕ) → label_of_number (label_number told) ≡ told
numbered none = refl
numbered (some a) = let e : 1 + a ≡ suc a = omega arith in ap label_of_number e

-- bytes b, read with or without more that may refuse them
module _ (b : List ℕ) {read : Result Accepted Refusal} (reads : (a : Accepted) → read ≡ Ok a → read_sheet b ≡ Ok a)
  where
    -- by cases: refused, or accepted
    by_read : (Must : Result Accepted Refusal → ℕ → Type 0) (told : Result Accepted Refusal → Option ℕ)
        → ((q : Refusal) → LabelMeans (Must (Err q)) (told (Err q)))
        → ((a : Accepted) → Demand3 (sheet_of b) → LabelMeans (Must (Ok a)) (told (Ok a)))
        → LabelMeans (Must read) (told read)
    by_read Must told refused fine = go read refl
      where
        go : (r : Result Accepted Refusal) → read ≡ r → LabelMeans (Must read) (told read)
        go (Err q) e = rw e (refused q)
        go (Ok a) e = rw e (fine a (sheet_3 b a (reads a e)))

    told_means : (i : ℕ) → LabelMeans (MustHave read (sheet_of b) i []) (label_told read (sheet_of b) i)
    unfolding label_told
    told_means i =
        by_read (λ r. MustHave r (sheet_of b) i []) (λ r. label_told r (sheet_of b) i)
        (λ q. none_means λ a m. never_accepted m.accepted) λ a three. accepted_means (a, refl) three i []

    pub labels_told : {labels : RootLabels} → ((i : ℕ) → root_at labels i ≡ label_told read (sheet_of b) i)
        → LabelsTold read (sheet_of b) labels
    labels_told are = record { are = are; mean = λ i. rw (are i) (told_means i) }

    pub label_returned : {i r : ℕ} → r ≡ label_number (label_told read (sheet_of b) i)
        → LabelReturned read (sheet_of b) i r
    label_returned {i} e =
        record { number = e; means = rw (e, numbered (label_told read (sheet_of b) i)) (told_means i) }

    pub path_label_is : (k : ℕ) {label : Option ℕ} → label ≡ path_label_told read (sheet_of b) k
        → PathLabelTold read (sheet_of b) k label
    unfolding path_label_told
    path_label_is k e =
        record {
          is = e;
          means =
              rw e
              (by_read (λ r. MustHaveAsked r (sheet_of b) k) (λ r. path_label_told r (sheet_of b) k)
              (λ q. none_means λ a m. never_accepted m.must.accepted) λ a three. asked_means (a, refl) three k);
        }
