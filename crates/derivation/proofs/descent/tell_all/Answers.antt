-- One child more is told of, and places that are not new are passed.
use Rattle.facts.proofs.Growing.{same_then}
use Rattle.derivation.proofs.Descending.{told_next, told_all}
use Rattle.derivation.proofs.descent.tell_all.Goals as goal

pub loop-at-preserved : goal.loop-at-preserved
loop-at-preserved c =
    let so_far = c.loop-at.invariant in
    record {
      told =
          told_next c.requires _ so_far.told _ _ _ so_far.same.n c.in-Some.ensures c.index.ensures
          c.index-in-Some.ensures c.insert.ensures.steps;
      same = same_then so_far.same c.insert.ensures.same;
    }

pub returns-clause-steps : goal.returns-clause-steps
returns-clause-steps c =
    told_all c.requires _ c.loop-at.invariant.told c.loop-at.invariant.same.n c.in_default.ensures
