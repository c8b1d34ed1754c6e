-- The rows taken are all that F1 and F3 give from the new fact.
use Rattle.facts.proofs.Inserting.{inserted}
use Rattle.facts.proofs.growth.Growth.insert_new.Goals as goal

pub returns-clause-steps : goal.returns-clause-steps
returns-clause-steps c =
    let inserting = c.requires.inserting in
    let taking = inserting.taking in
    inserted _ _ _ _ _ taking.ready.shape inserting.framed c.requires.some taking.cell taking.first taking.second
    _ _ _ _ c.read_column-column.ensures c.read_row-row.ensures c.take_rows.ensures.added
