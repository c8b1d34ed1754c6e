-- The labels told at roots: a search finds that of each variable, and they are told where nothing clashes.
use Prim.Native.Nat.{ℕ, ◌+◌, ◌<◌, ◌≤◌}
use lib.ListN.{length, set, length-set, length-replicate}
use lib.Seq.{get_or-set_same, get_or-set_other}
use mathlib.Core.Bool.{true, false}
use mathlib.Core.List.{List, []}
use mathlib.Core.Logic.{⊎_elim}
use mathlib.Core.Path.{◌≡◌, refl, sym, ap, ◌∙◌}
use native.Mathlib.Omega.{arith}
use Rattle.std.specs.Prelude.{Option, None, Some, is_some}
use Rattle.std.proofs.lemmas.Bool.{cases_eq, cases_lt}
use Rattle.fields.specs.declared.numbers.Label.{Label}
use Rattle.fields.specs.Limits.{most_variables}
use Rattle.fields.proofs.Choice.{passed}
use Rattle.sheet.specs.Sheets.{sheet}
use Rattle.rules.specs.declared.clashes.Clash.{Clash}
use Rattle.rules.specs.declared.verdicts.Verdict.{Verdict}
use Rattle.rules.specs.Verdicts.{verdict_by}
use Rattle.rules.specs.declared.kinds.Kind.{Kind}
use Rattle.rules.specs.Tables.{facts}
use Rattle.rules.specs.Clashes.{clash_of, clashes}
use Rattle.rules.specs.Paths.{at_path}
use Rattle.rules.proofs.Logic.{decided}
use Rattle.rules.proofs.Tables.{fact_column}
use Rattle.rules.proofs.Roots.{path_told, path_on_clash}
use Rattle.labels.specs.declared.spread.Spread.{Spread}
use Rattle.labels.specs.declared.roots.RootLabels.{RootLabels}
use Rattle.labels.specs.Roots.{Unlabelled, label_in}
use Rattle.labels.proofs.Told.{none_filled, none_told}
use Rattle.answers.specs.Clashes.{ClashTold}
use Rattle.answers.specs.Roots.{label_from, BelowTold, Filling, RootsTold}
use Rattle.answers.proofs.LabelThere.{Searched, label_there}

-- what is no variable has none
beyond : (n : ℕ) (t : List ℕ) (spreads : List Spread) (i : ℕ) → n ≤ i → (k : ℕ) → k < n
    → None ≡ label_from (λ x. facts n t Kind.Ordered x i) spreads k
beyond n t spreads i h k g =
    decided (facts n t Kind.Ordered k i) (λ p. absurd (omega (arith, fact_column n t Kind.Ordered k i p)))
    (λ p. passed _ _ _ p refl)

module _ {n : ℕ} {t : List ℕ} {spreads : List Spread} where
  -- what the search tells
  pub below_told : {i : ℕ} (c : Option Label)
      → Searched n (label_from (λ x. facts n t Kind.Ordered x i) spreads) c → BelowTold n t spreads i c
  unfolding at_path
  below_told {i} c found = record { told = λ st stand names is clear. label_there stand names is clear i [] c found }

  -- before the first variable, with one more, and behind the last
  pub filling_start : {r : RootLabels} → Unlabelled r → Filling n t spreads 0 r.at
  filling_start u =
      record {
        size = ap length u.is ∙ length-replicate {A = Option Label} most_variables None;
        told = λ i h. absurd (omega arith);
        others = λ i h. none_filled u i;
      }

  pub filling_on : {i : ℕ} {at : List (Option Label)} {a : Option Label} → Filling n t spreads i at → i < most_variables
      → BelowTold n t spreads i a → Filling n t spreads (i + 1) (set at i a)
  filling_on {i} {at} {a} f few told =
      record {
        size = length-set at i a ∙ f.size;
        told = λ k h.
            ⊎_elim (λ e. rw (e, get_or-set_same at i a None (omega (arith, f.size))) told)
            (λ d. rw (get_or-set_other at i k a None d) (f.told k (omega (arith, d)))) (cases_eq k i);
        others = λ k h.
            let d : k ≡ i → ⊥ = λ e. omega (arith, e, h) in
            get_or-set_other at i k a None d ∙ f.others k (omega arith);
      }

  -- what is told where it is known which pair clashes first, if one does
  module _ {r : RootLabels} where
    pub told_consistent : {clash : Option Clash} → ClashTold n t spreads clash → verdict_by clash ≡ Verdict.Consistent
        → Filling n t spreads n r.at → RootsTold n t spreads r
    unfolding clashes clash_of
    told_consistent {clash = Some pair} first v f = cc
    told_consistent {clash = None} first v f =
        record {
          told = λ st asked stand names is i.
              let clear : clashes st n ≡ false = ap is_some (sym (rw is at (first.told st stand))) in
              ⊎_elim (λ h. (f.told i h).told st stand names is clear)
              (λ h. ap label_in (f.others i h)
              ∙ (below_told {i = i} None (beyond n t spreads i h)).told st stand names is clear) (cases_lt i n)
              ∙ sym (rw is (path_told (sheet n st asked) i [] clear));
        }

    pub told_clash : {clash : Option Clash} {pair : Clash} → ClashTold n t spreads clash
        → verdict_by clash ≡ Verdict.Clash pair → Unlabelled r → RootsTold n t spreads r
    unfolding clashes clash_of
    told_clash {clash = None} first v u = cc
    told_clash {clash = Some found} first v u =
        record {
          told = λ st asked stand names is i.
              let clash : clashes st n ≡ true = ap is_some (sym (rw is at (first.told st stand))) in
              none_told u i ∙ sym (path_on_clash (sheet n st asked) i [] clash);
        }
