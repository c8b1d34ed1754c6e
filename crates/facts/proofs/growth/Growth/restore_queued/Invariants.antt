-- With each turn one entry less is in the way, in the same bytes.
use Rattle.std.proofs.Common.{◌≡◌, ◌+◌}
use Rattle.table.specs.Queue.{state}
use Rattle.facts.specs.Restoring.{Restoring}
use Rattle.facts.proofs.growth.Growth.restore_queued.Given as goal

abbrev pub invariant-loop-entry : goal.invariant-loop-entry
invariant-loop-entry l =
    let cells = l.self.1.0 in
    record {
      ahead : Restoring l.fn.self.n l.other.cells.now (state cells.now l.fn.self.queue.now.items) (l.from + l.entry-index);
      same : cells.ghost_name ≡ l.fn.self.cells.ghost_name;
    }
