-- With each turn one more variable takes the row if it is marked.
use Rattle.std.proofs.Common.{get_or, false}
use Rattle.facts.specs.Additions.{Among, Added}
use Rattle.facts.specs.Growth.{state_of, IsSame}
use Rattle.facts.specs.Insertion.{Marked}
use Rattle.facts.proofs.growth.Growth.take_rows.Given as goal

abbrev pub invariant-loop-x : goal.invariant-loop-x
invariant-loop-x l =
    record {
      added :
          Added l.fn.self.n (Among 0 l.x (λ k. Marked (get_or l.column k false) l.fn.self.n l.row k))
          (state_of l.fn.self) (state_of l.self);
      same : IsSame l.fn.self l.self;
    }
