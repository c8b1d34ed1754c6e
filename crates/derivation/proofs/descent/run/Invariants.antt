use Rattle.std.proofs.Common.{◌-◌, ◌≤◌, length}
use Rattle.table.specs.Queue.{queue_room}
use Rattle.facts.specs.Growth.{state_of, IsSame}
use Rattle.selections.specs.Groups.{Grouped}
use Rattle.derivation.proofs.Runs.{Halfway}
use Rattle.derivation.proofs.descent.run.Given as goal

-- the entries before head are visited, and the queue is within its room
abbrev pub invariant-loop-head : goal.invariant-loop-head
invariant-loop-head l =
    record {
      half : Halfway l.fn.growth.n (Grouped l.groups) (state_of l.fn.growth) (state_of l.growth) l.head;
      same : IsSame l.fn.growth l.growth;
      room : length l.growth.queue.now.items ≤ queue_room;
    }

abbrev pub decreases-loop-head : goal.decreases-loop-head
decreases-loop-head l = queue_room - l.head
