-- One record after another is put into the lists.
use Rattle.std.proofs.Common.{◌-◌, ◌≡◌, sym, arith}
use native.Mathlib.Nat.{sub-add-eq}
use Rattle.statements.proofs.Records.{gathers_start, gathers_put, gathers_next, none_refused, gathers_end}
use Rattle.statements.proofs.gathering.gather.Goals as goal

pub loop-init : goal.loop-init
loop-init c =
    let none_read : c.args.header.records - 0 ≡ c.args.header.records = omega arith in
    rw none_read (gathers_start _ _ _ c.requires.empty c.requires.gathering)

pub put_record-requires : goal.put_record-requires
put_record-requires c =
    gathers_put c.loop.invariant (omega (arith, c.loop-test.true)) (sym c.in-Ok.ensures)

pub loop-preserved : goal.loop-preserved
loop-preserved c =
    rw (sub-add-eq c.args.header.records c.loop.counter 1)
    (gathers_next c.loop.invariant (omega (arith, c.loop-test.true)) (sym c.in-Ok.ensures) c.put_record.ensures)

pub returns-in_default : goal.returns-in_default
returns-in_default c =
    absurd (none_refused c.loop.invariant (omega (arith, c.loop-test.true)) (sym c.in_default.ensures))

pub returns : goal.returns
returns c = gathers_end c.loop.invariant (omega (arith, c.loop-test.false))
