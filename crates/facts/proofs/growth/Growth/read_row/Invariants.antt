-- With each turn one more cell of the row is read.
use Rattle.std.proofs.Common.{ℕ, ◌<◌, ◌≡◌, length}
use Rattle.fields.specs.Limits.{most_variables}
use Rattle.facts.specs.Insertion.{kinds_at, cell_taken_at}
use Rattle.facts.proofs.growth.Growth.read_row.Given as goal

abbrev pub invariant-loop-y : goal.invariant-loop-y
invariant-loop-y l =
    record {
      size : length l.row ≡ most_variables;
      taken : (k : ℕ) → k < l.y
          → (kinds_at l.row k).0 ≡ cell_taken_at l.self.n l.self.cells.now l.w.0 l.v k;
    }
