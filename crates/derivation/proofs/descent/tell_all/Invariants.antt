use Rattle.std.proofs.Common.{◌-◌}
use Rattle.facts.specs.Growth.{state_of, IsSame}
use Rattle.derivation.proofs.Descending.{ToldUpto}
use Rattle.derivation.proofs.descent.tell_all.Given as goal

-- the children at the feature before this place are told of
abbrev pub invariant-loop-at : goal.invariant-loop-at
invariant-loop-at l =
    record {
      told : ToldUpto l.fn.growth.n l.groups l.w.0 l.child.feature.0 l.child.variable.0 l.v (state_of l.fn.growth)
          (state_of l.growth) l.from;
      same : IsSame l.fn.growth l.growth;
    }

abbrev pub decreases-loop-at : goal.decreases-loop-at
decreases-loop-at l = l.group.end - l.from
