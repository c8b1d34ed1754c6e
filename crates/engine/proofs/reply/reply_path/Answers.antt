-- Support decides.
use Rattle.engine.proofs.Told.{path_always, path_open}
use Rattle.engine.proofs.reply.reply_path.Goals as goal

pub returns-then-not-has_path : goal.returns-then-not-has_path
returns-then-not-has_path c = path_open _ c.has_path.ensures c.if-not-has_path.true

pub returns : goal.returns
returns c = path_always _ c.has_path.ensures c.if-not-has_path.false
