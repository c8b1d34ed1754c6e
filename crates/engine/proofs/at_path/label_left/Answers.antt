-- None where the sheet is not consistent, or no path is asked for; else by its table, which is there.
use Rattle.std.proofs.Common.{sym}
use lib.Seq.{length-take-le}
use Rattle.engine.proofs.Leaving.{size_left, derived_left}
use Rattle.engine.proofs.Asking.{header_read, beyond_left, other_left, path_left, subject_left, label_by}
use Rattle.engine.proofs.at_path.label_left.Goals as goal

pub returns-in_default-question_numbered : goal.returns-in_default-question_numbered
returns-in_default-question_numbered c =
    beyond_left c.requires c.in-Consistent.is (sym c.in-Ok.ensures) c.args.question
    (sym c.in_default-question_numbered.ensures)

pub returns-in_default-asked : goal.returns-in_default-asked
returns-in_default-asked c =
    other_left c.requires c.in-Consistent.is (sym c.in-Ok.ensures) c.args.question (sym c.in-Some.ensures)
    c.in_default-asked.not-HasPath

pub slice_bounds-label_in-end : goal.slice_bounds-label_in-end
slice_bounds-label_in-end c =
    sym (length-take-le _ _ (size_left c.requires c.in-Consistent.is (header_read _ (sym c.in-Ok.ensures)) c.table_size.ensures))

pub label_in-requires-clause-derived : goal.label_in-requires-clause-derived
label_in-requires-clause-derived c =
    derived_left c.requires c.in-Consistent.is (header_read _ (sym c.in-Ok.ensures)) c.table_size.ensures

pub label_in-requires-clause-variable : goal.label_in-requires-clause-variable
label_in-requires-clause-variable c =
    subject_left c.requires c.in-Consistent.is (sym c.in-Ok.ensures) c.args.question (sym c.in-Some.ensures) c.in-HasPath.is

pub label_in-requires-clause-read : goal.label_in-requires-clause-read
label_in-requires-clause-read c =
    path_left c.requires c.in-Consistent.is (sym c.in-Ok.ensures) c.args.question (sym c.in-Some.ensures) c.in-HasPath.is

pub returns : goal.returns
returns c =
    label_by c.requires c.in-Consistent.is (sym c.in-Ok.ensures) c.args.question (sym c.in-Some.ensures) c.in-HasPath.is
    c.label_in.ensures
