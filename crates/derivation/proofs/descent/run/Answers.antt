-- One entry more is visited, and no more are queued than there is room for.
use Rattle.std.proofs.Common.{◌<◌, length, arith}
use Rattle.facts.proofs.Growing.{same_none, same_then}
use Rattle.derivation.proofs.Runs.{tail_bound, halfway_start, halfway_next, halfway_ready}
use Rattle.derivation.proofs.descent.run.Goals as goal

pub loop-head-init : goal.loop-head-init
loop-head-init c =
    record {
      half = halfway_start c.requires;
      same = same_none _;
      room = tail_bound c.requires.running.ready;
    }

pub loop-head-preserved : goal.loop-head-preserved
loop-head-preserved c =
    let so_far = c.loop-head.invariant in
    let h : c.loop-head.head < length c.loop-head.growth.queue.now.items = omega arith in
    let half = halfway_next c.requires so_far.half _ so_far.same.n (cc) h c.visit.ensures.steps in
    record {
      half = half;
      same = same_then so_far.same c.visit.ensures.same;
      room = tail_bound (halfway_ready c.requires half);
    }
