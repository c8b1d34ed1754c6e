-- None of what is refused; else by a table of its own.
use Rattle.std.proofs.Common.{sym, ◌∙◌}
use Rattle.outcomes.proofs.Serving.{table_fits}
use Rattle.engine.proofs.Leaving.{labels_refused, labels_accepted}
use Rattle.engine.proofs.roots.root_labels.Goals as goal

pub returns-in_default : goal.returns-in_default
returns-in_default c = labels_refused _ (sym c.read_sheet.ensures ∙ c.in_default.is) c.none.ensures

pub labels_derived-requires : goal.labels_derived-requires
labels_derived-requires c =
    let read = sym c.read_sheet.ensures ∙ c.in-Ok.is in
    record { asked = c.in-Ok.accepted.asked; read = read; room = table_fits _ _ read }

pub returns : goal.returns
returns c = labels_accepted _ (sym c.read_sheet.ensures ∙ c.in-Ok.is) c.labels_derived.ensures
