-- The label that a variable must have at a path, and at its root.
use Rattle.std.specs.Prelude.{ℕ, List, []}
use Rattle.std.proofs.Math.Option.{Option, none}
use Rattle.items.specs.declared.items.Statement.{Statement}
use Rattle.sheet.specs.Sheets.{Sheet}
use Rattle.rules.specs.declared.verdicts.Verdict.{Verdict}
use Rattle.rules.specs.Facts.{Relation}
use Rattle.rules.specs.Stated.{first_label}
use Rattle.rules.specs.Paths.{at_path}
use Rattle.rules.specs.Derived.{facts_of}
use Rattle.rules.specs.Verdicts.{verdict_of}

-- the label a of some k to which the path leads with a(k) stated: the first stated, where there are more
unfoldable pub label_at : List Statement → Relation → ℕ → List ℕ → Option ℕ
label_at st r i p = first_label st (at_path st r i p)

-- at the root of i: of some k ≤ i
abbrev pub label_below : List Statement → Relation → ℕ → Option ℕ
label_below st r i = label_at st r i []

-- a label is told where the verdict is consistent
abbrev pub told_by : Verdict → Option ℕ → Option ℕ
told_by Verdict.Consistent label = label
told_by (Verdict.Clash clash) label = none

-- the label told of variable i of a sheet at a path
unfoldable pub path_label : Sheet → ℕ → List ℕ → Option ℕ
path_label s i p = told_by (verdict_of s) (label_at s.stated (facts_of s.stated s.n) i p)

-- and at its root
abbrev pub root_label : Sheet → ℕ → Option ℕ
root_label s i = path_label s i []
