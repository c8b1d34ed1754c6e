-- Whether some variable has the label alone and is below i.
use Rattle.std.proofs.Common.{refl, ◌∙◌, arith, rules, tests}
use Rattle.std.proofs.lemmas.Iterator.{YieldsList-from_range}
use Rattle.std.proofs.lemmas.Iterator.Search.{any_from_yields_List}
use Rattle.rules.specs.Tables.{facts}
use Rattle.answers.proofs.Shown.{label_at, label_sought}
use Rattle.answers.proofs.support.has_label.Goals as goal

pub returns : goal.returns
returns c =
    let t = c.args.table.now in
    record {
      told = λ st stand.
          any_from_yields_List (label_at (facts t.n t.cells.now) c.args.labels.now.spreads c.args.i c.args.a.0) _ _ _
          c.any.ensures.ran (YieldsList-from_range 0 t.n t.n refl (omega arith)) (λ x b q k. search (rules, tests))
          ∙ label_sought t.n t.cells.now stand c.requires.single_labels c.args.i c.args.a.0;
    }
