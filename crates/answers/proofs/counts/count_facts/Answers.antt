-- The counts of the rows are summed, and are few.
use Rattle.std.proofs.Common.{◌∙◌, arith, rules}
use native.Mathlib.Nat.{mul-le-mul}
use Rattle.std.proofs.lemmas.Iterator.{YieldsList-from_range, YieldsList-from_map}
use Rattle.std.proofs.lemmas.Iterator.Consumers.{sum_by_from_yields_List, fits_by_from_yields_list}
use Rattle.rules.specs.Tables.{facts, count_row, count_facts}
use Rattle.rules.proofs.Counts.{count_bound}
use Rattle.answers.proofs.Ranges.{rows_counted}
use Rattle.answers.proofs.counts.count_facts.Goals as goal

pub sum-requires-clause-fits : goal.sum-requires-clause-fits
unfolding count_facts
sum-requires-clause-fits c =
    let t = c.args.table.now in
    let r = facts t.n t.cells.now in
    fits_by_from_yields_list (count_row t.n r c.args.kind) _ _ _
    (YieldsList-from_map _ _ (YieldsList-from_range 0 t.n t.n (cc) (omega arith)) c.map.ensures.closure
    (λ x b q k. search rules))
    (omega (
      arith,
      rows_counted t.n t.n r c.args.kind,
      count_bound t.n r c.args.kind,
      mul-le-mul t.few t.few,
    ))

pub returns : goal.returns
unfolding count_facts
returns c =
    let t = c.args.table.now in
    let r = facts t.n t.cells.now in
    sum_by_from_yields_List (count_row t.n r c.args.kind) _ _ _ c.sum.ensures.ran
    (YieldsList-from_map _ _ (YieldsList-from_range 0 t.n t.n (cc) (omega arith)) c.map.ensures.closure
    (λ x b q k. search rules))
    ∙ rows_counted t.n t.n r c.args.kind
