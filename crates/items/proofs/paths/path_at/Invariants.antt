-- With each turn one feature more stands in its place.
use Rattle.items.proofs.Places.{Placed}
use Rattle.items.proofs.paths.path_at.Given as goal

abbrev pub invariant-loop-k : goal.invariant-loop-k
invariant-loop-k l = Placed l.sheet l.fn.from l.count l.k l.path l.at
