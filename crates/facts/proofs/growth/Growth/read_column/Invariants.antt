-- With each turn one more variable is marked.
use Rattle.std.proofs.Common.{ℕ, ◌<◌, ◌≡◌, length, get_or, false}
use Rattle.fields.specs.Limits.{most_variables}
use Rattle.facts.specs.Insertion.{mark_of}
use Rattle.facts.proofs.growth.Growth.read_column.Given as goal

abbrev pub invariant-loop-x : goal.invariant-loop-x
invariant-loop-x l =
    record {
      size : length l.column ≡ most_variables;
      marked : (k : ℕ) → k < l.x
          → get_or l.column k false ≡ mark_of l.self.n l.self.cells.now l.w.0 l.u l.v k;
    }
