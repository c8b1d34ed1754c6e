-- The first place that is new.
use Rattle.std.proofs.Common.{sym, ◌∙◌, arith}
use Rattle.rules.proofs.Logic.{last_or_before}
use Rattle.derivation.proofs.descent.seek.Goals as goal

pub loop-at-init : goal.loop-at-init
loop-at-init c = λ k h b. absurd (omega arith)

pub returns-then-is_new : goal.returns-then-is_new
returns-then-is_new c =
    record {
      behind = c.loop-at.auto.at;
      ahead = c.loop-at-test.true;
      passed = c.loop-at.invariant;
      found = sym c.is_new.ensures ∙ c.if-is_new.true;
    }

pub loop-at-preserved : goal.loop-at-preserved
loop-at-preserved c = λ k h b.
    last_or_before k c.loop-at.at (omega (arith, b)) (λ e. rw e (sym c.is_new.ensures ∙ c.if-is_new.false))
    (λ g. c.loop-at.invariant k h g)

pub returns : goal.returns
returns c = λ k h b. c.loop-at.invariant k h (omega (arith, b, c.loop-at-test.false))
