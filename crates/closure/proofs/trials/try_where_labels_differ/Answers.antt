-- Where no two labels differ, nothing clashes.
use Rattle.closure.proofs.Questions.{skip_where}
use Rattle.closure.proofs.trials.try_where_labels_differ.Goals as goal

pub returns-else-can_clash-clause-tried : goal.returns-else-can_clash-clause-tried
returns-else-can_clash-clause-tried c =
    rw c.if-can_clash.false
    (skip_where _ c.requires.asking.copy.sizes c.args.closed.now.told.all c.requires.asking.names c.can_clash.ensures
    c.if-can_clash.false)
