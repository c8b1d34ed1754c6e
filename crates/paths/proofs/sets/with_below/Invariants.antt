-- With each turn one variable more was asked.
use Rattle.paths.proofs.Children.{Lowered}
use Rattle.paths.proofs.sets.with_below.Given as goal

abbrev pub invariant-loop-k : goal.invariant-loop-k
invariant-loop-k l = Lowered l.table.n l.table.cells.now l.fn.set l.j l.k l.row
