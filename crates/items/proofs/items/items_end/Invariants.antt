-- What is left to read from here ends where all of it does.
use Rattle.std.proofs.Common.{◌≡◌, ◌-◌}
use Rattle.items.specs.Items.{items_end}
use Rattle.items.proofs.items.items_end.Given as goal

abbrev pub invariant-loop : goal.invariant-loop
invariant-loop l =
    items_end (l.count - l.counter) l.place l.sheet l.n l.at ≡ items_end l.count l.place l.sheet l.n l.fn.from
