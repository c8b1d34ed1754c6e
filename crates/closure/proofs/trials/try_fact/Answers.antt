-- From the closed table to the least closed one that has the fact.
use Rattle.closure.proofs.Trying.{fact_run, fact_tried, starting_at, settled_to}
use Rattle.closure.proofs.trials.try_fact.Goals as goal

pub run-requires : goal.run-requires
run-requires c = starting_at c.insert.ensures.same.n (fact_run c.requires c.clear.ensures c.insert.ensures.steps)

pub returns-clause-tries : goal.returns-clause-tries
returns-clause-tries c =
    fact_tried c.requires c.clear.ensures (rw c.from.ensures at c.insert.ensures.steps)
    (settled_to c.insert.ensures.same.n c.run.ensures.settled)
