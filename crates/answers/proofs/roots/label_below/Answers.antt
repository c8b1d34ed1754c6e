-- Variable after variable has no such label, or one is the first that has.
use Rattle.std.proofs.Common.{◌≡◌, refl, arith, rules}
use Rattle.std.proofs.lemmas.Iterator.{YieldsList-from_range}
use Rattle.rules.specs.declared.kinds.Kind.{Kind}
use Rattle.rules.specs.Tables.{facts}
use Rattle.answers.specs.Roots.{label_from}
use Rattle.answers.proofs.Below.{below_told}
use Rattle.answers.proofs.Firsts.{first_told}
use Rattle.answers.proofs.roots.label_below.Goals as goal

pub returns : goal.returns
returns c =
    let t = c.args.table.now in
    below_told c.find_map.result
    (first_told _ _ _ (λ k r. r ≡ label_from (λ x. facts t.n t.cells.now Kind.Ordered x c.args.i) c.args.labels.now.spreads k)
    (λ x b q k. search rules) t.n c.find_map.result
    (YieldsList-from_range 0 t.n t.n refl (omega arith)) c.find_map.ensures.ran c.find_map.ensures.runs)
