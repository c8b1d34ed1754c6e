-- The labels below each variable, by a table of the size that it has to have.
use Rattle.engine.proofs.Leaving.{derived_few, derived_square, roots_are}
use Rattle.engine.proofs.roots.labels_in.Goals as goal

pub invariant_of-table-clause-few : goal.invariant_of-table-clause-few
invariant_of-table-clause-few c = rw c.from.ensures (derived_few c.requires.derived)

pub invariant_of-table-clause-square : goal.invariant_of-table-clause-square
invariant_of-table-clause-square c = rw c.from.ensures (derived_square c.requires.derived)

pub returns : goal.returns
returns c = roots_are c.requires.derived c.requires.stand (rw c.from.ensures at c.root_labels.ensures)
