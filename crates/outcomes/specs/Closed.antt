-- The outcome that the verdict and the facts tell.
use Rattle.std.specs.Prelude.{ℕ}
use Rattle.rules.specs.declared.verdicts.Verdict.{Verdict}
use Rattle.rules.specs.declared.kinds.Kind.{Kind}
use Rattle.rules.specs.Facts.{Relation}
use Rattle.rules.specs.Tables.{count_facts}
use Rattle.outcomes.specs.declared.outcomes.Outcome.{Outcome}

-- by the verdict: how many facts hold of each kind, or the pair that clashes
abbrev pub outcome_by : ℕ → Relation → Verdict → Outcome
outcome_by n r Verdict.Consistent = Outcome.Consistent (count_facts n r Kind.Ordered) (count_facts n r Kind.Compatible)
outcome_by n r (Verdict.Clash clash) = Outcome.Clash clash.first clash.second
