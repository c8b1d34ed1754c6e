-- Both rows, joined word by word.
use Rattle.rows.proofs.Words.{joined}
use Rattle.rows.proofs.rows.either.Goals as goal

pub returns : goal.returns
returns c = joined c.args.r c.args.s
