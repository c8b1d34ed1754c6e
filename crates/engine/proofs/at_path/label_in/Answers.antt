-- The label at a path, by a table of the size that it has to have.
use Rattle.engine.proofs.Leaving.{derived_few, derived_square}
use Rattle.engine.proofs.Asking.{derived_transitive, path_label_found}
use Rattle.engine.proofs.at_path.label_in.Goals as goal

pub invariant_of-table-clause-few : goal.invariant_of-table-clause-few
invariant_of-table-clause-few c = rw c.from.ensures (derived_few c.requires.derived)

pub invariant_of-table-clause-square : goal.invariant_of-table-clause-square
invariant_of-table-clause-square c = rw c.from.ensures (derived_square c.requires.derived)

pub path_label-requires-clause-transitive : goal.path_label-requires-clause-transitive
path_label-requires-clause-transitive c = rw c.from.ensures (derived_transitive c.requires.derived)

pub returns : goal.returns
returns c =
    path_label_found c.requires.derived c.args.path c.gather.ensures c.requires.read
    (rw (c.from.ensures, c.as_slice.ensures.value, c.path_at.ensures) at c.path_label.ensures)
