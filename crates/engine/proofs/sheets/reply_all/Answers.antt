-- One question after another has its reply.
use Rattle.std.proofs.Common.{sym, arith}
use Rattle.engine.proofs.Answered.{answers_end}
use Rattle.engine.proofs.Reading.{question_read}
use Rattle.engine.proofs.Going.{going_start, question_asks, going_refused, going_next}
use Rattle.engine.proofs.sheets.reply_all.Goals as goal

pub loop-place-init : goal.loop-place-init
loop-place-init c = going_start _ _ _ _ _ c.requires.asked

pub reply-requires-clause-names : goal.reply-requires-clause-names
reply-requires-clause-names c =
    question_asks c.loop-place.invariant (omega arith) c.requires.sizes (sym c.in-Ok.ensures)

pub reply-requires-clause-read : goal.reply-requires-clause-read
reply-requires-clause-read c = question_read _ _ _ (sym c.in-Ok.ensures)

pub loop-place-preserved : goal.loop-place-preserved
loop-place-preserved c =
    going_next c.loop-place.invariant (omega arith) c.requires.sizes c.requires.held (sym c.in-Ok.ensures)
    c.reply.ensures.told c.from.ensures c.reply.ensures.restored

pub returns-in_default-clause-written : goal.returns-in_default-clause-written
returns-in_default-clause-written c =
    absurd (going_refused c.loop-place.invariant (omega arith) (sym c.in_default.ensures))

pub returns-clause-written : goal.returns-clause-written
returns-clause-written c = answers_end c.loop-place.invariant.answers (omega arith)
