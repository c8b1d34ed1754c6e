-- What was written is all lines before the next.
use Rattle.std.specs.Prelude.{◌-◌, length, take}
use Rattle.std.specs.List.{concat}
use Rattle.std.specs.Io.KnownBytes.{Appends}
use Rattle.lines.specs.Printouts.{lines_in}
use Rattle.treecheck.proofs.printing.print_lines.Given as goal

abbrev pub invariant-loop-next : goal.invariant-loop-next
invariant-loop-next g l =
    Appends (g.W.Write.contents l.fn.out) (g.W.Write.contents l.out) (concat (take l.next (lines_in l.fn.printout)))

abbrev pub decreases-loop-next : goal.decreases-loop-next
decreases-loop-next g l = length (lines_in l.fn.printout) - l.next
