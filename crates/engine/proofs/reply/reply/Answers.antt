-- A path that was read is followed, and the reply is that to the question.
use Rattle.engine.proofs.Told.{path_replied}
use Rattle.engine.proofs.reply.reply.Goals as goal

pub returns-in-HasPath-clause-told : goal.returns-in-HasPath-clause-told
returns-in-HasPath-clause-told c =
    path_replied _ c.requires.replying.copy.sizes c.in-HasPath.is c.requires.read
    (rw c.path_at.ensures at c.reply_path.ensures)
