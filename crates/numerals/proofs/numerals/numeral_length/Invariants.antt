-- The digits counted and those in front are one more than all, since the last in front is counted too.
use Rattle.std.proofs.Common.{◌≡◌, ◌+◌, length}
use Rattle.numerals.specs.Numerals.{numeral}
use Rattle.numerals.proofs.numerals.numeral_length.Given as goal

abbrev pub invariant-loop-front : goal.invariant-loop-front
invariant-loop-front l = l.count + length (numeral l.front) ≡ length (numeral l.n) + 1

abbrev pub decreases-loop-front : goal.decreases-loop-front
decreases-loop-front l = l.front
