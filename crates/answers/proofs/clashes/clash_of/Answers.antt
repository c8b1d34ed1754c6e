-- Row after row is told to have no clash, or one is the first that has.
use Rattle.std.proofs.Common.{refl, arith, rules}
use Rattle.std.proofs.lemmas.Iterator.{YieldsList-from_range}
use Rattle.answers.specs.Clashes.{RowTold}
use Rattle.answers.proofs.Clashed.{rows_told}
use Rattle.answers.proofs.Firsts.{first_told}
use Rattle.answers.proofs.clashes.clash_of.Goals as goal

pub returns : goal.returns
returns c =
    let t = c.args.table.now in
    rows_told c.find_map.result
    (first_told _ _ _ (RowTold t.n t.cells.now c.args.labels.now.spreads) (λ x b q k. search rules) t.n c.find_map.result
    (YieldsList-from_range 0 t.n t.n refl (omega arith)) c.find_map.ensures.ran c.find_map.ensures.runs)
