-- One row more is handed down, and rows that have nothing to tell are passed.
use Rattle.facts.proofs.Growing.{same_then}
use Rattle.derivation.proofs.Descending.{handed_next, handed_all}
use Rattle.derivation.proofs.descent.hand_down.Goals as goal

pub loop-at-preserved : goal.loop-at-preserved
loop-at-preserved c =
    let so_far = c.loop-at.invariant in
    record {
      handed =
          handed_next c.requires so_far.handed _ so_far.same.n c.in-Some.ensures c.tell_all.ensures.steps;
      same = same_then so_far.same c.tell_all.ensures.same;
    }

pub returns-clause-steps : goal.returns-clause-steps
returns-clause-steps c = handed_all c.requires c.loop-at.invariant.handed c.loop-at.invariant.same.n c.in_default.ensures
