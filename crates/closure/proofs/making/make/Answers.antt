-- The groups that were made may be derived by.
use Rattle.closure.proofs.Theorems.{may_derive}
use Rattle.closure.proofs.making.make.Goals as goal

pub derive-requires-clause-lawful : goal.derive-requires-clause-lawful
derive-requires-clause-lawful c = may_derive c.requires.lawful_selections c.fill.ensures c.requires.lawful_pairs
