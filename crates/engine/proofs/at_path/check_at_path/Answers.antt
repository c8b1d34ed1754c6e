-- What the check leaves tells the label, and it is true of trees.
use Rattle.engine.proofs.Leaving.{left_by}
use Rattle.engine.proofs.Asking.{path_label_left}
use Rattle.engine.proofs.at_path.check_at_path.Goals as goal

pub label_left-requires : goal.label_left-requires
label_left-requires c = left_by c.check-outcome.ensures.checked

pub returns-clause-label : goal.returns-clause-label
returns-clause-label c = path_label_left c.check-outcome.ensures.checked c.args.question c.label_left.ensures
