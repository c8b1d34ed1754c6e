-- The label of the first variable of the set that has one.
use Rattle.std.proofs.Common.{◌≡◌, refl, arith, rules}
use Rattle.std.proofs.lemmas.Iterator.{YieldsList-from_range}
use Rattle.rows.specs.Rows.{in_row}
use Rattle.answers.specs.Roots.{label_from}
use Rattle.answers.proofs.Firsts.{first_told}
use Rattle.paths.proofs.Walks.{label_told}
use Rattle.paths.proofs.walk.path_label.Goals as goal

pub returns : goal.returns
returns c =
    let n = c.args.table.now.n in
    label_told (rw (c.index.ensures, c.from.ensures) at c.walk-set.ensures) c.find_map.result
    (first_told _ _ _ (λ k r. r ≡ label_from (in_row c.walk-set.result) c.args.labels.now.spreads k)
    (λ x b q k. search rules) n c.find_map.result
    (YieldsList-from_range 0 n n refl (omega arith)) c.find_map.ensures.ran c.find_map.ensures.runs)
