use Rattle.std.proofs.Common.{◌≡◌, arith}
use Rattle.outcomes.specs.declared.outcomes.Outcome.{Outcome}
use Rattle.outcomes.specs.Outcomes.{kind_in, packed}
use Rattle.outcomes.proofs.Packed.{kind_is}
use Rattle.client.proofs.Dropped.{only_consistent, read_accepted, dropped}
use Rattle.client.proofs.dropping.may_drop.Goals as goal

pub returns-in-Consistent : goal.returns-in-Consistent
returns-in-Consistent c =
    let kind : kind_in (packed c.check.result) ≡ 0 = rw c.in-Consistent.is (kind_is _) in
    let exactly = dropped c.check.ensures.means kind c.args.question in
    let answered = c.is_answered_always.ensures (read_accepted c.check.ensures.means kind) in
    ((λ t. exactly.0 (answered.0 t)), (λ m. answered.1 (exactly.1 m)))

pub returns-in-Clash : goal.returns-in-Clash
returns-in-Clash c =
    let kind : kind_in (packed c.check.result) ≡ 1 =
    rw c.in-Clash.is (kind_is (Outcome.Clash c.in-Clash.field-0 c.in-Clash.field-1)) in
    ((λ t. cc), (λ m. let e = only_consistent c.check.ensures.means _ m in absurd (omega arith)))

pub returns-in-Refused : goal.returns-in-Refused
returns-in-Refused c =
    let kind : kind_in (packed c.check.result) ≡ 2 =
    rw c.in-Refused.is (kind_is (Outcome.Refused c.in-Refused.field-0 c.in-Refused.field-1)) in
    ((λ t. cc), (λ m. let e = only_consistent c.check.ensures.means _ m in absurd (omega arith)))
