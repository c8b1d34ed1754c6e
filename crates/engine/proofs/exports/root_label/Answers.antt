-- The number of the label, true of trees.
use Rattle.std.proofs.Common.{ap, ◌∙◌}
use Rattle.labels.specs.Roots.{label_in}
use Rattle.promise.specs.Labels.{label_number}
use Rattle.promise.proofs.Told.{label_returned}
use Rattle.engine.proofs.exports.root_label.Goals as goal

pub returns : goal.returns
returns c =
    label_returned _ (λ a read. read)
    (c.label_number.ensures ∙ ap (λ x. label_number (label_in x)) c.of.ensures
    ∙ ap label_number (c.root_labels.ensures.are c.args.variable))
