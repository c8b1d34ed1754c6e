-- Counts of facts.
use Prim.Native.Nat.{ℕ, ◌<◌, ◌≤◌}
use mathlib.Core.Path.{◌≡◌}
use native.Mathlib.Nat.{mul-le-mul}
use native.Mathlib.Omega.{arith}
use Rattle.fields.specs.Limits.{most_variables}
use Rattle.rules.specs.declared.kinds.Kind.{Kind}
use Rattle.rules.specs.Facts.{Relation}
use Rattle.rules.specs.Tables.{count_facts}
use Rattle.rules.proofs.Counts.{count_bound}

-- a count of facts fits in two bytes
pub few_facts : {n : ℕ} → n ≤ most_variables → (u : Relation) (kind : Kind) {r : ℕ} → r ≡ count_facts n u kind → r < 65536
few_facts {n} few u kind e = omega (arith, e, count_bound n u kind, mul-le-mul few few)
