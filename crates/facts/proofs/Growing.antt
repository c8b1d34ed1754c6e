-- A growth stays the same one, whatever is added to it.
use mathlib.Core.Path.{refl, ◌∙◌}
use Rattle.facts.specs.declared.growth.Growth.{Growth}
use Rattle.facts.specs.Growth.{IsSame}

pub same_none : (g : Growth) → IsSame g g
same_none g = record { n = refl; cells = refl; queue = refl }

pub same_then : {g g' g'' : Growth} → IsSame g g' → IsSame g' g'' → IsSame g g''
same_then a b = record { n = b.n ∙ a.n; cells = b.cells ∙ a.cells; queue = b.queue ∙ a.queue }
