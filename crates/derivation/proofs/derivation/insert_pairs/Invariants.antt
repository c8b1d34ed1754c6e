-- With each turn one more pair is inserted.
use Rattle.facts.specs.Additions.{Among, Steps}
use Rattle.facts.specs.Growth.{state_of, IsSame}
use Rattle.derivation.specs.Stands.{SaidBy, pair_at}
use Rattle.derivation.proofs.derivation.insert_pairs.Given as goal

abbrev pub invariant-loop-pair : goal.invariant-loop-pair
invariant-loop-pair l =
    record {
      steps : Steps l.fn.growth.n (Among 0 l.pair-index (λ k. SaidBy (pair_at l.pairs k))) (state_of l.fn.growth)
          (state_of l.growth);
      same : IsSame l.fn.growth l.growth;
    }
