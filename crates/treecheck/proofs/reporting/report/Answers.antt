-- What is written of the bytes that are read is what is written of the input.
use Rattle.std.specs.Io.KnownBytes.{Appends}
use Rattle.treecheck.specs.Writing.{Begins}
use Rattle.treecheck.proofs.Streams.{of_input}
use Rattle.treecheck.proofs.reporting.report.Goals as goal

pub returns-in-Ok-print : goal.returns-in-Ok-print
returns-in-Ok-print g c =
    of_input (Appends _ _) _ _ c.in-Ok.ensures (rw c.as_slice.ensures.value at c.in-Ok-print.ensures)

pub returns : goal.returns
returns g c = of_input (Begins _ _) _ _ c.in-Ok.ensures (rw c.as_slice.ensures.value at c.in-Err-print.ensures)
