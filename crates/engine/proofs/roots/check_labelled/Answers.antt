-- What the check leaves tells the labels, and they are true of trees.
use Rattle.engine.proofs.Leaving.{left_by, labels_left}
use Rattle.engine.proofs.roots.check_labelled.Goals as goal

pub labels_left-requires : goal.labels_left-requires
labels_left-requires c = left_by c.check-outcome.ensures.checked

pub returns-clause-labels : goal.returns-clause-labels
returns-clause-labels c = labels_left c.check-outcome.ensures.checked c.labels_left.ensures
