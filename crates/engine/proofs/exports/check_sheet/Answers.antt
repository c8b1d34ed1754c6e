-- The number is that of the outcome.
use Rattle.engine.proofs.Meaning.{returned_so}
use Rattle.engine.proofs.exports.check_sheet.Goals as goal

pub returns-clause-returned : goal.returns-clause-returned
returns-clause-returned c = returned_so c.check.ensures.checked c.packed.ensures

pub returns-clause-means : goal.returns-clause-means
returns-clause-means c = rw c.packed.ensures c.check.ensures.means
