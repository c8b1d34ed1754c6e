-- One entry after another is asked, from the last on.
use Rattle.std.proofs.Common.{rules, tests}
use Rattle.std.proofs.lemmas.Iterator.Adapters.{YieldsList-from_rev_slice, serves_from_places}
use Rattle.std.proofs.lemmas.Iterator.Search.{any_from_yields_List}
use Rattle.table.proofs.Entries.{entries_from}
use Rattle.closure.specs.Trials.{entry_clashes}
use Rattle.closure.proofs.Searches.{may_search, searched}
use Rattle.closure.proofs.trials.clash_queued.Goals as goal

pub any-requires-clause-callable : goal.any-requires-clause-callable
any-requires-clause-callable c =
    serves_from_places (YieldsList-from_rev_slice (entries_from c.args.from c.deref.result.now) (cc)) (λ x q k. search rules)
    λ x k h e.
    let searching = may_search c.args.from c.deref.ensures.0 c.requires x.now k h e in
    search rules

pub returns : goal.returns
returns c =
    let growth = c.args.growth.now in
    record {
      told = λ st stand.
          searched growth.n growth.cells.now st c.args.from c.deref.ensures.0
          (any_from_yields_List (entry_clashes growth.n growth.cells.now st) _ _ _ c.any.ensures.ran
          (YieldsList-from_rev_slice (entries_from c.args.from c.deref.result.now) (cc)) (λ x b q k. search (rules, tests)));
    }
