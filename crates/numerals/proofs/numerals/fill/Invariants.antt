-- The first i digits are still to be written, and those behind them stand.
use Rattle.std.proofs.Common.{◌≡◌, ◌++◌, drop}
use Rattle.numerals.specs.Numerals.{numeral}
use Rattle.numerals.proofs.Filling.{last_digits}
use Rattle.numerals.proofs.numerals.fill.Given as goal

abbrev pub invariant-loop-i : goal.invariant-loop-i
invariant-loop-i l = last_digits l.i l.rest ++ drop l.i l.part ≡ numeral l.n
