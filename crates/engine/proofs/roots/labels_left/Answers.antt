-- None where the sheet is not consistent; else by its table, which is there.
use Rattle.std.proofs.Common.{sym}
use lib.Seq.{length-take-le}
use Rattle.engine.proofs.Leaving.{none_where, all_where, header_left, gathering_left, size_left, derived_left}
use Rattle.engine.proofs.roots.labels_left.Goals as goal

pub returns-in_default : goal.returns-in_default
returns-in_default c = none_where c.in_default.not-Consistent c.none.ensures

pub returns-in_default-read_header : goal.returns-in_default-read_header
returns-in_default-read_header c = header_left c.requires c.in-Consistent.is _ (sym c.in_default-read_header.ensures)

pub gather-requires-clause-gathering : goal.gather-requires-clause-gathering
gather-requires-clause-gathering c = gathering_left c.requires c.in-Consistent.is (sym c.in-Ok.ensures)

pub slice_bounds-labels_in-end : goal.slice_bounds-labels_in-end
slice_bounds-labels_in-end c =
    sym (length-take-le _ _ (size_left c.requires c.in-Consistent.is (sym c.in-Ok.ensures) c.table_size.ensures))

pub labels_in-requires-clause-derived : goal.labels_in-requires-clause-derived
labels_in-requires-clause-derived c =
    derived_left c.requires c.in-Consistent.is (sym c.in-Ok.ensures) c.table_size.ensures

pub returns : goal.returns
returns c = all_where c.in-Consistent.is c.labels_in.ensures
