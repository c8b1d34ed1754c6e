-- One feature after another.
use Rattle.paths.proofs.Walks.{walking_start, walking_on, walking_whole}
use Rattle.paths.proofs.walk.walk.Goals as goal

pub loop-k-init : goal.loop-k-init
loop-k-init c = walking_start c.none.ensures c.with_below-set.ensures

pub loop-k-preserved : goal.loop-k-preserved
loop-k-preserved c = walking_on c.loop-k.invariant c.loop-k-test.true c.step-next.ensures

pub returns : goal.returns
returns c = walking_whole c.loop-k.invariant c.loop-k-test.false
