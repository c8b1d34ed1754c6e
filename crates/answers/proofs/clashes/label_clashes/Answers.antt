-- Some variable alike to i has such a label.
use Rattle.std.proofs.Common.{refl, ◌∙◌, arith, rules, tests}
use Rattle.std.proofs.lemmas.Iterator.{YieldsList-from_range}
use Rattle.std.proofs.lemmas.Iterator.Search.{any_from_yields_List}
use Rattle.rules.specs.Tables.{facts}
use Rattle.answers.proofs.OneLabel.{met_at, met_sought, label_clash}
use Rattle.answers.proofs.clashes.label_clashes.Goals as goal

pub returns : goal.returns
returns c =
    let t = c.args.table.now in
    record {
      told = λ st stand names e clear.
          any_from_yields_List (met_at (facts t.n t.cells.now) c.args.labels.now.spreads c.args.i c.args.a.0) _ _ _
          c.any.ensures.ran (YieldsList-from_range 0 t.n t.n refl (omega arith)) (λ x b q k. search (rules, tests))
          ∙ met_sought (facts t.n t.cells.now) stand c.args.i c.args.a.0
          ∙ label_clash _ st names _ _ c.requires _ e clear;
    }
