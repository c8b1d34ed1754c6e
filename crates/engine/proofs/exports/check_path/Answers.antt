-- The number is that of the outcome, and above it that of the label.
use Rattle.promise.proofs.Above.{number_small}
use Rattle.promise.proofs.WithLabel.{path_returned, means_above}
use Rattle.engine.proofs.Meaning.{returned_so}
use Rattle.engine.proofs.exports.check_path.Goals as goal

pub with_label-requires : goal.with_label-requires
with_label-requires c = number_small (returned_so c.check_at_path-at.ensures.checked c.packed.ensures)

pub returns-clause-returned : goal.returns-clause-returned
returns-clause-returned c =
    path_returned (returned_so c.check_at_path-at.ensures.checked c.packed.ensures) c.check_at_path-at.ensures.label
    c.with_label.ensures

pub returns-clause-means : goal.returns-clause-means
returns-clause-means c =
    means_above _ c.with_label.ensures (rw c.packed.ensures c.check_at_path-at.ensures.means)
