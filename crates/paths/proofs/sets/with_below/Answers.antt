-- Variable after variable is asked, and taken where it is ≤ j.
use Rattle.std.proofs.Common.{sym, ◌∙◌}
use Rattle.paths.proofs.Children.{lowered_start, lowered_with, lowered_without, lowered_whole}
use Rattle.paths.proofs.sets.with_below.Goals as goal
use Rattle.paths.proofs.sets.with_below.Goals.{then-has_fact, else-has_fact}

pub loop-k-init : goal.loop-k-init
loop-k-init c = lowered_start _

pub loop-k-preserved : goal.loop-k-preserved
loop-k-preserved c =
    elim c.if-has_fact.branch [
      | then-has_fact w ↦
          rw w.row-is (lowered_with c.loop-k.invariant (sym c.has_fact.ensures ∙ w.if-has_fact.true) w.with-more.ensures)
      | else-has_fact w ↦ rw w.row-is (lowered_without c.loop-k.invariant (sym c.has_fact.ensures ∙ w.if-has_fact.false))
    ]

pub returns : goal.returns
returns c = lowered_whole c.loop-k.invariant c.loop-k-test.false
