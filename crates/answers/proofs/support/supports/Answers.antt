-- Each kind of question by its own search.
use Rattle.std.proofs.Common.{refl, rules, tests}
use Rattle.std.proofs.lemmas.Iterator.{YieldsList-from_slice}
use Rattle.std.proofs.lemmas.Iterator.Search.{any_from_yields_List}
use Rattle.answers.proofs.Shown.{lawful_turns, by_ordering, by_compatibility, by_both, by_none_under, by_label}
use Rattle.answers.proofs.support.supports.Goals as goal

pub returns-in-Ordering : goal.returns-in-Ordering
returns-in-Ordering c = by_ordering refl refl c.in-Ordering.is c.is_below.ensures

pub returns-in-Compatibility : goal.returns-in-Compatibility
returns-in-Compatibility c =
    by_compatibility c.index.ensures c.index-in-Compatibility.ensures c.in-Compatibility.is c.has_fact.ensures

pub any-requires-clause-callable : goal.any-requires-clause-callable
any-requires-clause-callable c =
    lawful_turns c.requires.selections (YieldsList-from_slice _ (cc)) (λ x q k. search rules) λ x lawful. search rules

pub any-requires-then-any-clause-callable : goal.any-requires-then-any-clause-callable
any-requires-then-any-clause-callable c =
    lawful_turns c.requires.selections (YieldsList-from_slice _ (cc)) (λ x q k. search rules) λ x lawful. search rules

pub returns-then-any : goal.returns-then-any
returns-then-any c =
    by_both c.requires.selections c.in-Selection.is
    (any_from_yields_List _ _ _ _ c.any.ensures.ran (YieldsList-from_slice c.args.list.now (cc))
    (λ x b q k. search (rules, tests)))
    c.if-any.true
    (any_from_yields_List _ _ _ _ c.any-then-any.ensures.ran (YieldsList-from_slice c.args.list.now (cc))
    (λ x b q k. search (rules, tests)))

pub returns-else-any : goal.returns-else-any
returns-else-any c =
    by_none_under c.requires.selections c.in-Selection.is
    (any_from_yields_List _ _ _ _ c.any.ensures.ran (YieldsList-from_slice c.args.list.now (cc))
    (λ x b q k. search (rules, tests)))
    c.if-any.false

pub returns-in-Labelling : goal.returns-in-Labelling
returns-in-Labelling c = by_label c.index-in-Labelling.ensures c.in-Labelling.is c.has_label.ensures
