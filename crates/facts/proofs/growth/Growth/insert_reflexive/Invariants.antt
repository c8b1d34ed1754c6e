-- With each turn one more variable has its two facts.
use Rattle.facts.specs.Additions.{Said, Among, Added}
use Rattle.facts.specs.Growth.{state_of, IsSame}
use Rattle.facts.proofs.growth.Growth.insert_reflexive.Given as goal

abbrev pub invariant-loop-i : goal.invariant-loop-i
invariant-loop-i l =
    record {
      added :
          Added l.fn.self.n (Among 0 l.i (λ k. Said 3 k k)) (state_of l.fn.self) (state_of l.self);
      same : IsSame l.fn.self l.self;
    }
