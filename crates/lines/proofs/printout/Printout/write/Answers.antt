-- A line is written, there is no room for it, or there is none.
use Rattle.std.proofs.Common.{sym, ◌∙◌, arith}
use Rattle.lines.proofs.Fitting.{line_written, no_room, all_written}
use Rattle.lines.proofs.printout.Printout.write.Goals as goal

pub returns-then-out-length : goal.returns-then-out-length
returns-then-out-length c =
    let is = sym (c.as_slice-text.ensures.value ∙ c.line-line.ensures) in
    no_room _ _ _ c.loop-next.invariant _ (omega arith) is (omega arith) c.as_slice-text.ensures.fits

pub loop-next-preserved : goal.loop-next-preserved
loop-next-preserved c =
    let is = sym (c.as_slice-text.ensures.value ∙ c.line-line.ensures) in
    rw c.copy_from_slice.ensures.after (line_written _ _ _ c.loop-next.invariant _ (omega arith) is (omega arith))

pub returns : goal.returns
returns c = all_written _ _ _ c.loop-next.invariant (omega arith)
