-- What is stated, the table, what is known of it, then the replies.
use Rattle.std.proofs.Common.{ap, ◌∙◌, arith}
use Rattle.table.specs.declared.table.Table.{Table}
use Rattle.labels.specs.declared.labels.Labels.{Labels}
use Rattle.engine.proofs.Steps.{lists_answering, lists_filled}
use Rattle.engine.proofs.checking.check_accepted.Goals as goal

pub gather-requires-clause-gathering : goal.gather-requires-clause-gathering
gather-requires-clause-gathering c = record { asked = c.args.accepted.asked; accepted = c.requires.questions.accepted }

pub answer-requires : goal.answer-requires
answer-requires c =
    let known = c.new-closed.ensures in
    lists_answering _ c.requires.questions.accepted c.gather.ensures (rw c.from-n.ensures at c.close.ensures.made)
    c.new-closed.result (ap (λ (t : Table). t.n) known.table ∙ c.from-n.ensures)
    (ap (λ (t : Table). t.cells.now) known.table) (known.selections ∙ c.as_slice.ensures.value)
    (ap (λ (x : Labels). x.spreads) known.labels) c.requires (omega arith)

pub returns : goal.returns
returns c =
    let known = c.new-closed.ensures in
    lists_filled _ c.requires.questions.accepted c.gather.ensures (rw c.from-n.ensures at c.close.ensures.made)
    c.new-closed.result (ap (λ (t : Table). t.n) known.table ∙ c.from-n.ensures)
    (ap (λ (t : Table). t.cells.now) known.table) (known.selections ∙ c.as_slice.ensures.value)
    (ap (λ (x : Labels). x.spreads) known.labels) c.requires c.from.ensures (rw c.from-n.ensures at c.outcome_of.ensures)
    c.answer.ensures.cleared c.answer.ensures.replied
