-- The first column that clashes is sought, and the pair made of it.
use Rattle.std.proofs.Common.{◌≡◌, refl, ap, ◌∙◌, arith, rules, tests}
use Rattle.std.specs.Option.{option_map}
use Rattle.std.proofs.lemmas.Iterator.{YieldsList-from_range}
use Rattle.std.proofs.lemmas.Iterator.Search.{find_from_yields_List}
use Rattle.rules.specs.Clashes.{clash_between}
use Rattle.rules.specs.Tables.{facts}
use Rattle.answers.proofs.Clashed.{differs_at, row_told}
use Rattle.answers.proofs.clashes.clash_in_row.Goals as goal

pub returns : goal.returns
returns c =
    let t = c.args.table.now in
    let test = differs_at (facts t.n t.cells.now) c.args.labels.now.spreads c.args.i in
    let found =
    find_from_yields_List test _ _ c.find.result c.find.ensures.ran (YieldsList-from_range 0 t.n t.n refl (omega arith))
    (λ x b q k. search (rules, tests)) in
    let mapped : c.map.result ≡ option_map (clash_between c.args.i) (option_map (λ j. j) c.find.result) = search rules in
    row_told c.requires (mapped ∙ ap (option_map (clash_between c.args.i)) found)
