-- One pair more, those with i as first variable before the others.
use Rattle.std.proofs.Common.{◌≡◌, refl, ◌<◌, arith, rules}
use Rattle.closure.proofs.Trying.{Ones, ones_start, ones_room, left_next, right_next, ones_all}
use Rattle.closure.proofs.trials.queue_subject.Goals as goal

pub push-requires-clause-room : goal.push-requires-clause-room
push-requires-clause-room c =
    ones_room c.requires.few c.requires.subject c.loop-x.invariant.queued (omega (arith, c.loop-x-test.true))

pub loop-x-init : goal.loop-x-init
loop-x-init c =
    record {
      queued = ones_start c.args.growth.now.n c.args.i c.requires.empty;
      table = refl;
      same = search rules;
    }

pub loop-x-preserved : goal.loop-x-preserved
loop-x-preserved c =
    let so_far = c.loop-x.invariant in
    record {
      queued = left_next c.requires.few c.requires.subject so_far.queued c.loop-x-test.true _ c.push.ensures;
      table = so_far.table;
      same = record { n = so_far.same.n; cells = so_far.same.cells; queue = so_far.same.queue };
    }

pub loop-y-init : goal.loop-y-init
loop-y-init c =
    let so_far = c.loop-x.invariant in
    let n = c.args.growth.now.n in
    let last : c.loop-x.x ≡ n = omega (arith, c.loop-x-test.false, c.loop-x.auto.x-end) in
    let all : Ones n c.args.i n 0 c.loop-x.growth.queue.now.items = rw last at so_far.queued in
    record { queued = all; table = so_far.table; same = so_far.same }

pub push-requires-in-loop-y-clause-room : goal.push-requires-in-loop-y-clause-room
push-requires-in-loop-y-clause-room c =
    ones_room c.requires.few c.requires.subject c.loop-y.invariant.queued
    (omega (arith, c.loop-y-test.true, c.loop-x.invariant.same.n))

pub push-requires-in-loop-y-clause-first : goal.push-requires-in-loop-y-clause-first
push-requires-in-loop-y-clause-first c =
    omega (arith, c.loop-y-test.true, c.loop-x.invariant.same.n, c.requires.few)

pub loop-y-preserved : goal.loop-y-preserved
loop-y-preserved c =
    let so_far = c.loop-y.invariant in
    let h : c.loop-y.y < c.args.growth.now.n = omega (arith, c.loop-y-test.true, c.loop-x.invariant.same.n) in
    record {
      queued = right_next c.requires.few c.requires.subject so_far.queued h _ c.push-in-loop-y.ensures;
      table = so_far.table;
      same = record { n = so_far.same.n; cells = so_far.same.cells; queue = so_far.same.queue };
    }

pub returns-clause-queued : goal.returns-clause-queued
returns-clause-queued c =
    ones_all (omega (arith, c.loop-y-test.false, c.loop-y.auto.y-end, c.loop-x.invariant.same.n)) c.loop-y.invariant.queued
