-- Where the statements clash, they clash with the question.
use Rattle.std.proofs.Common.{subst}
use Rattle.answers.specs.Clashes.{ClashTold}
use Rattle.closure.specs.Making.{table_of, spreads_of}
use Rattle.closure.proofs.Questions.{clash_stays, all_told}
use Rattle.closure.proofs.trials.trial.Goals as goal

pub returns-then-is_some-clause-tried : goal.returns-then-is_some-clause-tried
returns-then-is_some-clause-tried c =
    let closed = c.args.closed.now in
    rw c.if-is_some.true
    (clash_stays
    (subst (λ n. ClashTold n (table_of closed) (spreads_of closed) closed.clash) c.requires.asking.copy.sizes closed.told.first)
    _ c.requires.asking.names (cc))

pub returns-else-is_some-clause-tried : goal.returns-else-is_some-clause-tried
returns-else-is_some-clause-tried c =
    let closed = c.args.closed.now in
    all_told
    (subst (λ n. ClashTold n (table_of closed) (spreads_of closed) closed.clash) c.requires.asking.copy.sizes closed.told.first)
    _ c.requires.asking.names (cc) c.try_where_labels_differ.ensures.tried
