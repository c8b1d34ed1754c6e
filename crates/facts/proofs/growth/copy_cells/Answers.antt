-- One cell more is the other table's, and at the end all are.
use Rattle.std.proofs.Common.{◌∙◌, sym, get_or-set_same, get_or-set_other, ext_get_or, arith}
use Rattle.rules.proofs.Logic.{last_or_before}
use Rattle.facts.proofs.growth.copy_cells.Goals as goal

pub loop-at-init : goal.loop-at-init
loop-at-init c = λ k h. absurd (omega arith)

pub loop-at-preserved : goal.loop-at-preserved
loop-at-preserved c = λ k h.
    let at = c.loop-at.at in
    let to = c.loop-at.to in
    last_or_before k at (omega arith)
    (λ e. rw e (get_or-set_same to at _ 0 (omega (arith, c.loop-at.auto.to, c.loop-at-test.true))))
    (λ b. get_or-set_other to at k _ 0 (λ e. omega (arith, e, b)) ∙ c.loop-at.invariant k b)

pub returns : goal.returns
returns c =
    ext_get_or 0 c.loop-at.to c.args.from.now (c.loop-at.auto.to ∙ sym c.requires)
    (λ k h. c.loop-at.invariant k (omega (arith, c.loop-at.auto.to, c.loop-at-test.false)))
