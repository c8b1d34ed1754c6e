-- What follows of trees.
use Rattle.std.proofs.Common.{refl}
use Rattle.engine.proofs.Meaning.{returned_so, means}
use Rattle.engine.proofs.checking.check.Goals as goal

pub returns-clause-means : goal.returns-clause-means
returns-clause-means c = means (returned_so c.check_judged.ensures refl)
