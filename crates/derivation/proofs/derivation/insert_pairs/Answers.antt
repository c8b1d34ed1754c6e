-- One pair more.
use Rattle.std.proofs.Common.{arith}
use Rattle.facts.proofs.Growing.{same_then}
use Rattle.facts.proofs.Stepping.{steps_next}
use Rattle.derivation.proofs.Derivations.{pair_steps}
use Rattle.derivation.proofs.derivation.insert_pairs.Goals as goal

pub loop-pair-preserved : goal.loop-pair-preserved
loop-pair-preserved c =
    let so_far = c.loop-pair.invariant in
    record {
      steps =
          steps_next _ 0 _ (omega arith) so_far.steps
          (pair_steps _ _ _ so_far.same.n c.index.ensures c.index-in-loop-pair.ensures c.insert.ensures.steps);
      same = same_then so_far.same c.insert.ensures.same;
    }
