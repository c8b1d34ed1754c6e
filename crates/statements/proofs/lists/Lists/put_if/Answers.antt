-- There is a statement, or there is none.
use Rattle.statements.proofs.lists.Lists.put_if.Goals as goal

pub returns-in-Some : goal.returns-in-Some
returns-in-Some c = rw c.in-Some.is c.put.ensures
