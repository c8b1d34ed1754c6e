-- The way back, one entry at a time.
use Rattle.facts.proofs.Restores.{restore_end, restore_more}
use Rattle.facts.proofs.growth.Growth.restore_queued.Goals as goal

pub loop-entry-preserved : goal.loop-entry-preserved
loop-entry-preserved c =
    record {
      ahead =
          restore_more _ c.deref.ensures.0 c.loop-entry.invariant.ahead c.loop-entry-test.true c.index-x.ensures
          c.index-y.ensures c.requires.sizes c.look.ensures c.store.ensures;
      same = c.loop-entry.invariant.same;
    }

pub returns-clause-table : goal.returns-clause-table
returns-clause-table c = restore_end _ c.deref.ensures.0 c.loop-entry.invariant.ahead c.loop-entry-test.false
