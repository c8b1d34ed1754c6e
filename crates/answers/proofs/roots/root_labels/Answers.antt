-- None is told where the labels clash.
use Rattle.std.proofs.Common.{sym, ◌∙◌}
use Rattle.answers.proofs.Below.{told_clash}
use Rattle.answers.proofs.roots.root_labels.Goals as goal

pub returns-in-Clash : goal.returns-in-Clash
returns-in-Clash c = told_clash c.clash_of.ensures (sym c.from.ensures ∙ c.in-Clash.is) c.none.ensures
