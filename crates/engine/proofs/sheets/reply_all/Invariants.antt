-- The questions read so far have their replies, and table, queue and groups are as they were.
use Rattle.engine.proofs.Going.{Going}
use Rattle.engine.proofs.sheets.reply_all.Given as goal

abbrev pub invariant-loop-place : goal.invariant-loop-place
invariant-loop-place l =
    Going l.sheet l.accepted.header.variables l.fn.growth l.growth l.fn.groups l.groups l.cursor l.place-index l.replies
