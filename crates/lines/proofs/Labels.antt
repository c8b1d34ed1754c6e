-- The same labels of all variables make the same lines.
use Rattle.std.specs.Prelude.{codes}
use Rattle.std.specs.List.{range_with_len, enumerate_from}
use Prim.Native.Nat.{ℕ, zero, suc, ◌+◌, ◌<◌}
use mathlib.Core.List.{List, [], ◌∷◌, ◌++◌, map}
use mathlib.Core.Option.{Option}
use mathlib.Core.Path.{◌≡◌, refl, ap, ap₂, subst}
use native.Mathlib.Omega.{arith}
use Rattle.numerals.specs.Numerals.{numeral}
use Rattle.rules.specs.declared.replies.Reply.{Reply}
use Rattle.outcomes.specs.declared.outcomes.Outcome.{Outcome}
use Rattle.lines.specs.Lines.{line, label_word, outcome_line, var_line, ask_line, other_lines, lines_of}

same_below : (f g : ℕ → List ℕ) (i n : ℕ) → ((k : ℕ) → k < n → f (i + k) ≡ g (i + k))
    → map f (range_with_len i n) ≡ map g (range_with_len i n)
same_below f g i zero same = refl
same_below f g i (suc n) same =
    let here : i + 0 ≡ i = omega arith in
    ap₂ ◌∷◌ (subst (λ x. f x ≡ g x) here (same 0 (omega arith))) (same_below f g (i + 1) n λ k h.
    let next : i + suc k ≡ i + 1 + k = omega arith in
    subst (λ x. f x ≡ g x) next (same (suc k) (omega arith)))

pub same_labels : (n : ℕ) (o : Outcome) (labels labels' : ℕ → Option ℕ) (rs : List Reply)
    → ((k : ℕ) → k < n → labels k ≡ labels' k) → lines_of n o labels rs ≡ lines_of n o labels' rs
unfolding other_lines var_line
same_labels n (Outcome.Clash i j) labels labels' rs same = refl
same_labels n (Outcome.Refused fault at) labels labels' rs same = refl
same_labels n (Outcome.Consistent c d) labels labels' rs same =
    ap (λ x. outcome_line n (Outcome.Consistent c d) ∷ (x ++ map (λ asked. ask_line asked.0 asked.1) (enumerate_from 0 rs)))
    (same_below (var_line labels) (var_line labels') 0 n λ k h.
    let from : 0 + k ≡ k = omega arith in
    rw from (ap (λ a. line (codes "var" ∷ numeral k ∷ label_word a ∷ [])) (same k h)))
