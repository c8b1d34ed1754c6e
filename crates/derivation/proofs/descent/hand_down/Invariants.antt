use Rattle.std.proofs.Common.{◌-◌}
use Rattle.facts.specs.Growth.{state_of, IsSame}
use Rattle.derivation.proofs.Descending.{HandedUpto}
use Rattle.derivation.proofs.descent.hand_down.Given as goal

-- the children of u before this place are done
abbrev pub invariant-loop-at : goal.invariant-loop-at
invariant-loop-at l =
    record {
      handed : HandedUpto l.fn.growth.n l.groups l.w.0 l.u l.v (state_of l.fn.growth) (state_of l.growth) l.from;
      same : IsSame l.fn.growth l.growth;
    }

abbrev pub decreases-loop-at : goal.decreases-loop-at
decreases-loop-at l = l.rows.end - l.from
