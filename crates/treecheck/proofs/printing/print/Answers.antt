-- What the check tells and leaves is printed.
use Rattle.std.proofs.Common.{arith}
use Rattle.lines.proofs.Checked.{told_of_check}
use Rattle.treecheck.proofs.printing.print.Goals as goal

pub printout-requires : goal.printout-requires
printout-requires g c =
    let told = c.check_labelled-told.ensures in
    told_of_check _ told.checked told.labels (omega arith) (omega arith) (omega arith) (omega arith)
