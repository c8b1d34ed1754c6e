-- Each kind in turn.
use Rattle.std.proofs.Common.{arith}
use Rattle.fields.specs.Limits.{most_variables}
use Rattle.statements.proofs.Putting.{each_named, record_put, putting_if, put_as}
use Rattle.statements.proofs.Putting.{ordering_takes, compatibility_takes, selection_takes, labelling_takes}
use Rattle.statements.proofs.lists.Lists.put_record.Goals as goal

pub put_if-requires : goal.put_if-requires
put_if-requires c =
    putting_if c.ordering.ensures (ordering_takes c.args.x) (each_named _ most_variables c.requires.named).ordering
    (omega arith) (omega arith)

pub put_if-requires-2 : goal.put_if-requires-2
put_if-requires-2 c =
    let first = put_as c.ordering.ensures (ordering_takes c.args.x) c.put_if.ensures in
    putting_if c.compatibility.ensures (compatibility_takes c.args.x)
    (each_named _ most_variables c.requires.named).compatibility
    (omega (arith, first.more_pairs)) (omega (arith, first.more_selections))

pub put_if-requires-3 : goal.put_if-requires-3
put_if-requires-3 c =
    let first = put_as c.ordering.ensures (ordering_takes c.args.x) c.put_if.ensures in
    let second = put_as c.compatibility.ensures (compatibility_takes c.args.x) c.put_if-2.ensures in
    putting_if c.selection.ensures (selection_takes c.args.x) (each_named _ most_variables c.requires.named).selection
    (omega (arith, first.more_pairs, second.more_pairs))
    (omega (arith, first.more_selections, second.more_selections))

pub put_if-requires-4 : goal.put_if-requires-4
put_if-requires-4 c =
    let first = put_as c.ordering.ensures (ordering_takes c.args.x) c.put_if.ensures in
    let second = put_as c.compatibility.ensures (compatibility_takes c.args.x) c.put_if-2.ensures in
    let third = put_as c.selection.ensures (selection_takes c.args.x) c.put_if-3.ensures in
    putting_if c.labelling.ensures (labelling_takes c.args.x) (each_named _ most_variables c.requires.named).labelling
    (omega (arith, first.more_pairs, second.more_pairs, third.more_pairs))
    (omega (arith, first.more_selections, second.more_selections, third.more_selections))

pub returns : goal.returns
returns c =
    record_put c.args.x
    (put_as c.ordering.ensures (ordering_takes c.args.x) c.put_if.ensures)
    (put_as c.compatibility.ensures (compatibility_takes c.args.x) c.put_if-2.ensures)
    (put_as c.selection.ensures (selection_takes c.args.x) c.put_if-3.ensures)
    (put_as c.labelling.ensures (labelling_takes c.args.x) c.put_if-4.ensures)
