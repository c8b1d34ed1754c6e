-- With each turn one entry more is queued.
use Rattle.std.proofs.Common.{◌≡◌}
use Rattle.facts.specs.Growth.{IsSame}
use Rattle.closure.proofs.Trying.{Ones}
use Rattle.closure.proofs.trials.queue_subject.Given as goal

abbrev pub invariant-loop-x : goal.invariant-loop-x
invariant-loop-x l =
    record {
      queued : Ones l.fn.growth.n l.i l.x 0 l.growth.queue.now.items;
      table : l.growth.cells.now ≡ l.fn.growth.cells.now;
      same : IsSame l.fn.growth l.growth;
    }

abbrev pub invariant-loop-y : goal.invariant-loop-y
invariant-loop-y l =
    record {
      queued : Ones l.fn.growth.n l.i l.fn.growth.n l.y l.growth.queue.now.items;
      table : l.growth.cells.now ≡ l.fn.growth.cells.now;
      same : IsSame l.fn.growth l.growth;
    }
