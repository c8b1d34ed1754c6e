-- Worked texts: what is printed of a sheet's bytes, and of a clash and a refusal.
use Rattle.std.specs.Prelude.{codes}
use Rattle.std.specs.List.{concat}
use Prim.Native.Nat.{ℕ, zero, suc, ◌<◌}
use lib.ListN.{length, get_or}
use mathlib.Core.List.{List, [], ◌∷◌}
use mathlib.Core.Option.{some, none}
use mathlib.Core.Path.{◌≡◌, refl}
use native.Mathlib.Omega.{arith}
use Rattle.numerals.specs.Numerals.{numeral, digits_within}
use Rattle.fields.specs.declared.refusals.Fault.{Fault}
use Rattle.fields.specs.Fields.{variable}
use Rattle.rules.specs.Cases.{Case, row, consistent, table, worked, AllWorked, ◌next◌}
use Rattle.rules.proofs.Cases.{table_holds}
use Rattle.outcomes.specs.declared.outcomes.Outcome.{Outcome}
use Rattle.lines.specs.Lines.{outcome_line, var_line, ask_line, other_lines, lines_of, printed}
use Rattle.lines.proofs.Rows.{first, of_row}

-- rows of the rules' worked cases. C2: 2 ≤ 0, 2[1]3, 5(0), 6(1); asked 2 ≤ 0, 2 ≤ 1, 0 ~ 1
abbrev pub c2 : List ℕ
c2 =
    7 ∷ 4 ∷ 0 ∷ 3 ∷ 0 ∷ 3
    ∷ 5 ∷ 2 ∷ 0 ∷ 0 ∷ 1 ∷ 3 ∷ 8 ∷ 0 ∷ 0 ∷ 5 ∷ 8 ∷ 1 ∷ 0 ∷ 6 ∷ 1 ∷ 2 ∷ 0
    ∷ 1 ∷ 2 ∷ 1 ∷ 2 ∷ 0 ∷ 1 ∷ []

-- C8: 5(0), 0 ≤ 1; asked 5(1), 6(1)
abbrev pub c8 : List ℕ
c8 =
    7 ∷ 2 ∷ 0 ∷ 2 ∷ 0 ∷ 2
    ∷ 8 ∷ 0 ∷ 0 ∷ 5 ∷ 1 ∷ 0 ∷ 1 ∷ 8 ∷ 1 ∷ 0 ∷ 5 ∷ 8 ∷ 1 ∷ 0 ∷ 6 ∷ []

abbrev nothing : Case
nothing = row [] 0 (consistent 0 0) [] []

-- row k is given from its bytes
at_row : (k : ℕ) (cases : List Case) (d : Case) → k < length cases → AllWorked cases
    → worked (get_or cases k d).bytes ≡ get_or cases k d
at_row k [] d h all = absurd (omega arith)
at_row zero (c ∷ cases) d h (p next all) = p
at_row (suc k) (c ∷ cases) d h (p next all) = at_row k cases d (omega arith) all

pub consistent_text : concat (printed c2)
    ≡ codes "consistent 4 5 6\nvar 0 5\nvar 1 6\nvar 2 -\nvar 3 -\nask 0 always\nask 1 open\nask 2 never\n"
unfolding table outcome_line var_line ask_line other_lines numeral digits_within
consistent_text =
    rw (of_row c2 4 5 6 (some 5 ∷ some 6 ∷ none ∷ none ∷ []) (0 ∷ 2 ∷ 1 ∷ []) (at_row 1 table nothing (omega arith) table_holds)) refl

-- the label comes up to variable 1
pub label_text : concat (printed c8) ≡ codes "consistent 2 3 4\nvar 0 5\nvar 1 5\nask 0 always\nask 1 never\n"
unfolding table outcome_line var_line ask_line other_lines numeral digits_within
label_text =
    rw (of_row c8 2 3 4 (some 5 ∷ some 5 ∷ []) (0 ∷ 1 ∷ []) (at_row 7 table nothing (omega arith) table_holds)) refl

-- variable 0 clashes with variable 1
pub clash_text : concat (lines_of 3 (Outcome.Clash (variable 0) (variable 1)) (first []) []) ≡ codes "clash 0 1\n"
unfolding outcome_line other_lines numeral digits_within
clash_text = refl

-- a byte behind the longest sheet
pub refused_text : concat (lines_of 0 (Outcome.Refused Fault.Trailing 28678) (first []) []) ≡ codes "refused 7 28678\n"
unfolding outcome_line other_lines numeral digits_within
refused_text = refl
