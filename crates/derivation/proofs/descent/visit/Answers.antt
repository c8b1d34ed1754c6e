-- What the cell says, if anything, is handed down.
use Rattle.std.proofs.Common.{rules, tests}
use Rattle.derivation.proofs.Descending.{visit_none, visit_steps}
use Rattle.derivation.proofs.descent.visit.Goals as goal

pub returns-then-ne-clause-steps : goal.returns-then-ne-clause-steps
returns-then-ne-clause-steps c =
    visit_steps c.requires _ _ c.index-u.ensures c.index-v.ensures _ c.look-w.ensures c.hand_down.ensures.steps

pub returns-else-ne-clause-steps : goal.returns-else-ne-clause-steps
returns-else-ne-clause-steps c =
    visit_none c.requires _ _ c.index-u.ensures c.index-v.ensures _ c.look-w.ensures (search (rules, tests))
