-- Kind by kind.
use Rattle.std.proofs.Common.{ap, ◌∙◌}
use Rattle.labels.specs.Labels.{spreads_with}
use Rattle.statements.proofs.Putting.{ordering_put, compatibility_put, selection_put, labelling_put}
use Rattle.statements.proofs.lists.Lists.put.Goals as goal

pub returns-in-Ordering : goal.returns-in-Ordering
returns-in-Ordering c = ordering_put c.requires _ _ c.in-Ordering.is c.put_pair.ensures

pub returns-in-Compatibility : goal.returns-in-Compatibility
returns-in-Compatibility c =
    compatibility_put c.requires _ _ c.in-Compatibility.is c.put_pair-in-Compatibility.ensures

pub returns-in-Selection : goal.returns-in-Selection
returns-in-Selection c = selection_put c.requires _ _ _ c.in-Selection.is c.put_selection.ensures

pub returns-in-Labelling : goal.returns-in-Labelling
returns-in-Labelling c = labelling_put c.requires _ _ c.in-Labelling.is
    (ap (λ s. record c.args.self.now { labels = record { spreads = s } })
    (c.note.ensures ∙ ap (λ k. spreads_with c.args.self.now.labels.spreads k c.in-Labelling.a.0) c.index.ensures))
