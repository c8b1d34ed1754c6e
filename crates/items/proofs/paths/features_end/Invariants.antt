-- What is left to read from here ends where all of it does.
use Rattle.std.proofs.Common.{◌≡◌, ◌-◌}
use Rattle.items.specs.Paths.{features_end}
use Rattle.items.proofs.paths.features_end.Given as goal

abbrev pub invariant-loop : goal.invariant-loop
invariant-loop l =
    features_end (l.count - l.counter) l.sheet l.at ≡ features_end l.count l.sheet l.fn.from
