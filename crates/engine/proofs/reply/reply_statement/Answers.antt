-- Support is told first, then the trial.
use Rattle.engine.proofs.Told.{always_told, never_told, open_told}
use Rattle.engine.proofs.reply.reply_statement.Goals as goal

pub returns-then-supports-clause-told : goal.returns-then-supports-clause-told
returns-then-supports-clause-told c =
    always_told c.requires.replying.copy.sizes _ _ c.supports.ensures c.if-supports.true

pub returns-then-trial-clause-told : goal.returns-then-trial-clause-told
returns-then-trial-clause-told c =
    never_told c.requires.replying.copy.sizes _ _ c.supports.ensures c.if-supports.false c.trial.ensures.tried
    c.if-trial.true

pub returns-else-trial-clause-told : goal.returns-else-trial-clause-told
returns-else-trial-clause-told c =
    open_told c.requires.replying.copy.sizes _ _ c.supports.ensures c.if-supports.false c.trial.ensures.tried
    c.if-trial.false
