-- The records read so far stand in the lists, and the others are left to read.
use Rattle.std.proofs.Common.{◌-◌}
use Rattle.statements.proofs.Records.{Gathers}
use Rattle.statements.proofs.gathering.gather.Given as goal

abbrev pub invariant-loop : goal.invariant-loop
invariant-loop l =
    Gathers l.sheet l.fn.header.variables (l.fn.header.records - l.counter) l.cursor l.lists
