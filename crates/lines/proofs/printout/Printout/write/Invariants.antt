-- With each turn one more line is written, or there is no room for it.
use Rattle.std.proofs.Common.{◌-◌, length}
use Rattle.lines.specs.Printouts.{lines_in}
use Rattle.lines.proofs.Fitting.{Writing}
use Rattle.lines.proofs.printout.Printout.write.Given as goal

abbrev pub invariant-loop-next : goal.invariant-loop-next
invariant-loop-next l = Writing (lines_in l.fn.self) l.fn.k l.fn.out l.out l.length l.next

abbrev pub decreases-loop-next : goal.decreases-loop-next
decreases-loop-next l = length (lines_in l.fn.self) - l.next
