-- Each kind of question by its own trial.
use Rattle.rules.specs.declared.kinds.Kind.{Kind}
use Rattle.closure.proofs.Questions.{fact_told, selection_told, label_told}
use Rattle.closure.proofs.trials.try_statement.Goals as goal

pub returns-in-Ordering-clause-tried : goal.returns-in-Ordering-clause-tried
returns-in-Ordering-clause-tried c =
    fact_told Kind.Ordered _ _ _ c.in-Ordering.is c.requires.asking.names c.fact_clashes.ensures.searched

pub returns-in-Compatibility-clause-tried : goal.returns-in-Compatibility-clause-tried
returns-in-Compatibility-clause-tried c =
    fact_told Kind.Compatible _ _ _ c.in-Compatibility.is c.requires.asking.names
    c.fact_clashes-in-Compatibility.ensures.searched

pub returns-in-Selection-clause-tried : goal.returns-in-Selection-clause-tried
returns-in-Selection-clause-tried c =
    selection_told _ _ _ _ c.in-Selection.is c.requires.asking.names c.selection_clashes.ensures.searched

pub returns-in-Labelling-clause-tried : goal.returns-in-Labelling-clause-tried
returns-in-Labelling-clause-tried c =
    label_told _ _ c.requires.asking.copy.sizes c.in-Labelling.is c.index.ensures c.label_clashes.ensures
