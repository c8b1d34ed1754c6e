-- The reply byte of a question that there is, compared with that of always.
use Rattle.std.proofs.Common.{◌≡◌, nat_eq, get_or, arith, sym, rules, ◌∙◌}
use Rattle.client.proofs.Dropped.{count_read, header_there, replies_few}
use Rattle.client.proofs.dropping.is_answered_always.Goals as goal
use borrow.Author.Tests.{eqb-true, eq-eqb}

pub returns-then-k-reply_count : goal.returns-then-k-reply_count
returns-then-k-reply_count c = λ a.
    let size = count_read c.args.sheet.now c.in-Ok.ensures a in
    let few = replies_few c.args.sheet.now a in
    let is : c.eq.result ≡ nat_eq (get_or c.args.replies.now c.args.question 0) 0 = search rules in
    ((λ t. (omega (arith, size), eqb-true _ _ (sym is ∙ t))), (λ p. is ∙ eq-eqb _ _ p.1))

pub returns-else-k-reply_count : goal.returns-else-k-reply_count
returns-else-k-reply_count c = λ a.
    let size = count_read c.args.sheet.now c.in-Ok.ensures a in
    ((λ t. search rules), (λ p. absurd (omega (arith, size, p.0))))

pub returns-in_default : goal.returns-in_default
returns-in_default c = λ a. absurd (header_there c.args.sheet.now c.in_default.ensures a)
