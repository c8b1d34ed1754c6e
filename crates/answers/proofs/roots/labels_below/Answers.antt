-- Before the first variable none is told.
use Rattle.answers.proofs.Below.{filling_start}
use Rattle.answers.proofs.roots.labels_below.Goals as goal

pub loop-i-init : goal.loop-i-init
loop-i-init c = filling_start c.none-roots.ensures
