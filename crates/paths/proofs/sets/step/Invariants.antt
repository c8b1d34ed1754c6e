-- With each turn one selection more was asked.
use Rattle.rules.specs.Tables.{facts}
use Rattle.paths.specs.Sets.{Adding}
use Rattle.paths.proofs.sets.step.Given as goal

abbrev pub invariant-loop-selection : goal.invariant-loop-selection
invariant-loop-selection l =
    Adding (facts l.table.n l.table.cells.now) l.list l.feature.0 l.set l.selection-index l.next
