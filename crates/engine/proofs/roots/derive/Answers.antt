-- What is stated, and the table that is derived from it.
use Rattle.engine.proofs.Steps.{table_is}
use Rattle.engine.proofs.roots.derive.Goals as goal

pub gather-requires-clause-gathering : goal.gather-requires-clause-gathering
gather-requires-clause-gathering c = record { asked = c.requires.sized.asked; accepted = c.requires.sized.read }

pub returns-clause-derived : goal.returns-clause-derived
returns-clause-derived c =
    let given = c.requires.sized in
    record {
      asked = given.asked;
      read = given.read;
      is = table_is _ given.read c.gather.ensures (rw c.from.ensures at c.close.ensures.made);
    }
