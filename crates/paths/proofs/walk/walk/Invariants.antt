-- With each turn one feature less is left.
use Rattle.rules.specs.Tables.{facts}
use Rattle.paths.proofs.Walks.{Walking}
use Rattle.paths.proofs.walk.walk.Given as goal

abbrev pub invariant-loop-k : goal.invariant-loop-k
invariant-loop-k l =
    Walking l.table.n (facts l.table.n l.table.cells.now) l.list l.i l.path l.count l.k l.set
