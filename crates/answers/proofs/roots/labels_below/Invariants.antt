-- With each turn the label of one more variable is told.
use Rattle.answers.specs.Roots.{Filling}
use Rattle.answers.proofs.roots.labels_below.Given as goal

abbrev pub invariant-loop-i : goal.invariant-loop-i
invariant-loop-i l =
    let t = l.fn.table in
    Filling t.n t.cells.now l.fn.labels.spreads l.i l.roots.at
