-- The verdict on an accepted sheet: one case for each thing that can be told of it.
use Rattle.std.specs.Prelude.{Option, None, Some}
use Rattle.sheet.specs.Sheets.{Sheet}
use Rattle.rules.specs.declared.clashes.Clash.{Clash}
use Rattle.rules.specs.declared.verdicts.Verdict.{Verdict}
use Rattle.rules.specs.Clashes.{clash_of}

-- a clash by F5, else consistent
abbrev pub verdict_by : Option Clash → Verdict
verdict_by None = Verdict.Consistent
verdict_by (Some clash) = Verdict.Clash clash

unfoldable pub verdict_of : Sheet → Verdict
verdict_of s = verdict_by (clash_of s.stated s.n)
