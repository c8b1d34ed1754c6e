-- Compatible variables clash by their labels, and others do not.
use Rattle.closure.proofs.Searches.{entry_open, entry_clear}
use Rattle.closure.proofs.trials.clashes_at.Goals as goal

pub returns-then-says : goal.returns-then-says
returns-then-says c =
    entry_open c.requires _ _ c.index-i.ensures c.index-j.ensures _ _ c.look.ensures c.says.ensures c.if-says.true
    c.differ.ensures.told

pub returns-else-says : goal.returns-else-says
returns-else-says c =
    rw c.if-says.false
    (entry_clear c.requires _ _ c.index-i.ensures c.index-j.ensures _ _ c.look.ensures c.says.ensures c.if-says.false)
