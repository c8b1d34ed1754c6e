-- A column that has the fact counts as 1, and all columns are summed.
use Rattle.std.proofs.Common.{◌≡◌, ℕ, Bool, ◌∙◌, cond, count_by, arith, rules, tests}
use Rattle.std.specs.List.{range_with_len}
use Rattle.std.proofs.lemmas.Iterator.{YieldsList-from_range, YieldsList-from_map}
use Rattle.std.proofs.lemmas.Iterator.Adapters.{at_most_from_yields_List, fits_from_length}
use Rattle.std.proofs.lemmas.Iterator.Consumers.{sum_by_from_yields_List}
use Rattle.std.proofs.lemmas.List.FromFn.{length-range_with_len}
use Rattle.std.proofs.lemmas.List.Sums.{count_by-le-length}
use Rattle.fields.specs.Limits.{most_variables}
use Rattle.rules.specs.Tables.{facts, count_row}
use Rattle.answers.proofs.Ranges.{counted}
use Rattle.answers.proofs.counts.count_row.Goals as goal

-- each column adds 1 at most, whatever is asked of it
pub sum-requires-clause-fits : goal.sum-requires-clause-fits
sum-requires-clause-fits c =
    let t = c.args.table.now in
    fits_from_length _ _ most_variables _
    (at_most_from_yields_List (YieldsList-from_range 0 t.n t.n (cc) (omega arith))
    (omega (arith, t.few, length-range_with_len 0 t.n)))
    c.map.ensures.closure (omega arith) (λ x r q k. search (rules, tests))

pub returns : goal.returns
unfolding count_row
returns c =
    let t = c.args.table.now in
    let test : ℕ → Bool = λ j. facts t.n t.cells.now c.args.kind c.args.i j in
    let e : c.sum.result ≡ count_by test (range_with_len 0 t.n) =
    sum_by_from_yields_List (λ j. cond (test j) 1 0) _ _ _ c.sum.ensures.ran
    (YieldsList-from_map _ _ (YieldsList-from_range 0 t.n t.n (cc) (omega arith)) c.map.ensures.closure
    (λ x b q k. search (rules, tests))) in
    record {
      count = e ∙ counted test t.n;
      most = omega (arith, e, count_by-le-length test (range_with_len 0 t.n), length-range_with_len 0 t.n);
    }
