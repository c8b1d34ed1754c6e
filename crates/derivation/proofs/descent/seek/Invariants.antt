-- No place so far is new.
use Rattle.derivation.specs.Descent.{NoneNew}
use Rattle.derivation.proofs.descent.seek.Given as goal

abbrev pub invariant-loop-at : goal.invariant-loop-at
invariant-loop-at l =
    NoneNew l.fn.growth.n l.fn.growth.cells.now l.groups l.w.0 l.child.feature.0 l.child.variable.0 l.fn.places.start l.at
