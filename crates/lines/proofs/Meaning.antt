-- What the line of a variable means of trees.
use Rattle.std.specs.Prelude.{Ok, get_or, codes}
use Rattle.std.proofs.Common.{rules}
use Prim.Native.Nat.{ℕ, ◌+◌, ◌-◌, ◌<◌}
use mathlib.Core.Bool.{true}
use mathlib.Core.List.{List, [], ◌∷◌, ◌++◌}
use mathlib.Core.Logic.{◌↔◌}
use mathlib.Core.Logic.Iff.{trans}
use mathlib.Core.Option.{Option, none, some}
use mathlib.Core.Path.{◌≡◌, refl, sym, ap, ◌∙◌}
use native.Mathlib.Omega.{arith}
use Rattle.numerals.specs.Numerals.{numeral}
use Rattle.sheet.specs.declared.whole.Accepted.{Accepted}
use Rattle.sheet.specs.Sheets.{Sheet, read_sheet, sheet_of}
use Rattle.rules.specs.declared.verdicts.Verdict.{Verdict}
use Rattle.rules.specs.declared.kinds.Kind.{Kind}
use Rattle.rules.specs.Derived.{facts_of}
use Rattle.rules.specs.Tables.{count_facts}
use Rattle.rules.specs.Clashes.{clashes}
use Rattle.outcomes.specs.declared.outcomes.Outcome.{Outcome}
use Rattle.rules.specs.Replies.{replies_of}
use Rattle.rules.specs.Roots.{root_label}
use Rattle.rules.specs.Verdicts.{verdict_of}
use Rattle.trees.specs.Assignments.{Counts}
use Rattle.trees.specs.Demand.{Met, RootIs}
use Rattle.trees.proofs.Demands.{sheet_3}
use Rattle.promise.specs.Labels.{MustHave, LabelMeans}
use Rattle.promise.proofs.Clashes.{between}
use Rattle.promise.proofs.Told.{accepted_means}
use Rattle.promise.proofs.Theorems.{label_exactly, dash_exactly}
use Rattle.lines.specs.Lines.{line, label_word, var_line, printed}
use Rattle.lines.proofs.Numbering.{lines_count, at_variable}
use Rattle.lines.proofs.Spelling.{number_fits, label_fits, same_label}
use Rattle.lines.proofs.Words.{Words, same_line}

-- the words of the line
abbrev words : ℕ → Option ℕ → List (List ℕ)
words i told = codes "var" ∷ numeral i ∷ label_word told ∷ []

words_fit : (i : ℕ) (told : Option ℕ) → Words (words i told)
words_fit i told = search (rules, number_fits, label_fits)

same_told : (i : ℕ) (a c : Option ℕ) → line (words i a) ≡ line (words i c) → a ≡ c
same_told i a c e =
    let same = same_line (words i a) (words i c) [] [] (words_fit i a) (words_fit i c) (ap (λ l. l ++ []) e) in
    same_label a c (cc same.0)

-- of a sheet that some assignment meets
module _ (b : List ℕ) {a : Accepted} (read : read_sheet b ≡ Ok a) (met : Met (Counts (sheet_of b))) (i : ℕ)
    (variable : i < (sheet_of b).n) where
  abbrev s : Sheet
  s = sheet_of b

  line_of_variable : get_or (printed b) (1 + i) [] ≡ line (words i (root_label (sheet_of b) i))
  unfolding printed var_line clashes
  line_of_variable = go (verdict_of s) refl
    where
      go : (v : Verdict) → verdict_of s ≡ v → get_or (printed b) (1 + i) [] ≡ line (words i (root_label s i))
      go (Verdict.Clash clash) e =
          let clashing : clashes s.stated s.n ≡ true = rw (between s clash e) refl in
          absurd ((sheet_3 b a read).clash.0 clashing met.0 met.1)
      go Verdict.Consistent e =
          let one : 1 + i - 1 ≡ i = omega arith in
          let le = count_facts s.n (facts_of s.stated s.n) Kind.Ordered in
          let alike = count_facts s.n (facts_of s.stated s.n) Kind.Compatible in
          let long = lines_count s.n (root_label s) (replies_of s) le alike in
          rw (read, e)
          (at_variable s.n (root_label s) (replies_of s) (Outcome.Consistent le alike) (1 + i)
          (omega (arith, long, variable)) (omega arith) (omega (arith, variable)))
          ∙ ap (var_line (root_label s)) one

  means : LabelMeans (MustHave (read_sheet b) s i []) (root_label s i)
  means = accepted_means (a, read) (sheet_3 b a read) i []

  told_exactly : (told : Option ℕ) → (get_or (printed b) (1 + i) [] ≡ line (words i told)) ↔ (root_label (sheet_of b) i ≡ told)
  told_exactly told = (
    λ e. same_told i (root_label s i) told (sym line_of_variable ∙ e),
    λ e. line_of_variable ∙ ap (λ x. line (words i x)) e,
  )

  -- a label is printed exactly when every assignment meeting the sheet has it at the root of that variable,
  pub label_printed_exactly : (c : ℕ) → (get_or (printed b) (1 + i) [] ≡ line (codes "var" ∷ numeral i ∷ numeral c ∷ []))
      ↔ RootIs (Counts (sheet_of b)) i c
  label_printed_exactly c = trans (told_exactly (some c)) (label_exactly (a, read) met i [] variable means c)

  -- and a dash exactly when no label is common to them all
  pub dash_printed_exactly : (get_or (printed b) (1 + i) [] ≡ line (codes "var" ∷ numeral i ∷ codes "-" ∷ []))
      ↔ ((c : ℕ) → RootIs (Counts (sheet_of b)) i c → ⊥)
  dash_printed_exactly = trans (told_exactly none) (dash_exactly (a, read) met i [] variable means)
