-- One selection after another.
use Rattle.std.proofs.Common.{◌≡◌, length, arith}
use Rattle.paths.proofs.Children.{adding_none, adding_more, adding_downward, adding_all}
use Rattle.paths.proofs.sets.step.Goals as goal

pub loop-selection-init : goal.loop-selection-init
loop-selection-init c = adding_none c.none-next.ensures

pub with_child-more-requires-clause-downward : goal.with_child-more-requires-clause-downward
with_child-more-requires-clause-downward c = adding_downward c.requires.transitive c.loop-selection.invariant

pub loop-selection-preserved : goal.loop-selection-preserved
loop-selection-preserved c = adding_more c.loop-selection.invariant c.with_child-more.ensures

pub returns : goal.returns
returns c =
    let all : c.loop-selection.selection-index ≡ length c.args.list.now =
    omega (arith, c.loop-selection-test.false, c.loop-selection.auto.selection-index-end) in
    adding_all c.requires.selections (rw all at c.loop-selection.invariant)
