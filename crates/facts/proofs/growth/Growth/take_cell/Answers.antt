-- A cell that changes is stored and queued.
use Rattle.facts.proofs.Takes.{take_room, take_one}
use Rattle.facts.proofs.growth.Growth.take_cell.Goals as goal

pub push-requires-clause-room : goal.push-requires-clause-room
push-requires-clause-room c = take_room _ _ _ _ _ _ c.requires c.look-old.ensures c.lacks.ensures c.if-lacks.true

pub returns-then-lacks-clause-added : goal.returns-then-lacks-clause-added
returns-then-lacks-clause-added c =
    take_one _ _ _ _ _ _ c.requires c.look-old.ensures c.lacks.ensures c.if-lacks.true _ _ c.with.ensures
    c.store.ensures c.push.ensures
