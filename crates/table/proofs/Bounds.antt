-- The queue has no more room than the definition says; that it has no less, pushing needs.
use Prim.Native.Nat.{◌≤◌}
use native.Mathlib.Omega.{arith}
use Rattle.table.specs.declared.queue.TheConstants.{ROOM}
use Rattle.table.specs.Queue.{queue_room}

pub room_at_most : ROOM ≤ queue_room
room_at_most = omega arith
