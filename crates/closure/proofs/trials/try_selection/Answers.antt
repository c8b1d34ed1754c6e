-- From the closed table to the least one that is closed with the selection, which is taken out again.
use Rattle.std.proofs.Common.{◌∙◌, refl}
use Rattle.selections.proofs.Theorems.{taken_groups}
use Rattle.closure.proofs.TryingSelection.{selection_may_run, selection_is_tried}
use Rattle.closure.proofs.trials.try_selection.Goals as goal

pub run-requires : goal.run-requires
run-requires c =
    let queued = c.queue_subject.ensures in
    selection_may_run c.requires _ _ _ c.put-kept.ensures queued.queued queued.same.n queued.table refl

pub returns-clause-tries : goal.returns-clause-tries
returns-clause-tries c =
    let queued = c.queue_subject.ensures in
    selection_is_tried c.requires _ _ _ c.put-kept.ensures queued.queued queued.same.n queued.table refl
    c.run.ensures.settled

pub returns-clause-grouped : goal.returns-clause-grouped
returns-clause-grouped c = c.take_out.ensures ∙ taken_groups c.put-kept.ensures
