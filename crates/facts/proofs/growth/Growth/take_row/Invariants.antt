-- With each turn the cell of one more column is taken.
use Rattle.facts.specs.Additions.{Among, Added}
use Rattle.facts.specs.Growth.{state_of, IsSame}
use Rattle.facts.specs.Insertion.{kinds_at, Sides}
use Rattle.facts.proofs.growth.Growth.take_row.Given as goal

abbrev pub invariant-loop-y : goal.invariant-loop-y
invariant-loop-y l =
    record {
      added :
          Added l.fn.self.n (Among 0 l.y (λ k. Sides (kinds_at l.row k).0 l.x k)) (state_of l.fn.self)
          (state_of l.growth);
      same : IsSame l.initial.growth l.growth;
    }
