-- The spreads of the variables below n are gathered one after another.
use Rattle.std.proofs.Common.{◌∙◌, arith, rules, take}
use Rattle.std.proofs.lemmas.Iterator.{YieldsList-from_slice}
use Rattle.std.proofs.lemmas.Iterator.Consumers.{fold_from_yields_List}
use Rattle.labels.specs.declared.spread.Spread.{Spread}
use Rattle.labels.specs.Spreads.{with_labels}
use Rattle.labels.proofs.Skip.{all_below}
use Rattle.labels.proofs.labels.Labels.spread.Goals as goal

pub returns : goal.returns
returns c =
    let spreads = c.args.self.now.spreads in
    fold_from_yields_List _ with_labels Spread.Nothing _ c.fold.ensures.ran
    (YieldsList-from_slice (take c.args.n spreads) (cc)) (λ a x b q k. search rules)
    ∙ all_below spreads c.args.n (omega arith)
