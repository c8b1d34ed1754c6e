-- The lists have no more room than the definitions say; that they have no less, putting needs.
use Prim.Native.Nat.{◌≤◌}
use native.Mathlib.Omega.{arith}
use Rattle.fields.specs.Limits.{most_items}
use Rattle.statements.specs.declared.lists.TheConstants.{PAIRS, SELECTIONS}
use Rattle.statements.specs.Lists.{pairs_room}

pub rooms_at_most : (PAIRS ≤ pairs_room) × (SELECTIONS ≤ most_items)
rooms_at_most = (omega arith, omega arith)
