-- Paths: the variables that a path leads to. What is below a variable lends it its own children, so a set is followed.
use Rattle.std.specs.Prelude.{ℕ, Bool, List, [], ◌∷◌}
use Rattle.fields.specs.Tests.{same}
use Rattle.items.specs.declared.items.Statement.{Statement}
use Rattle.rules.specs.Connectives.{◌and◌}
use Rattle.rules.specs.Stated.{some_selection, any_below}
use Rattle.rules.specs.declared.kinds.Kind.{Kind}
use Rattle.rules.specs.Facts.{Relation}

-- from a set by f: the children at f of its variables, and all that is ≤ one of these
unfoldable pub step : List Statement → Relation → ℕ → (ℕ → Bool) → ℕ → Bool
step st r f set k = some_selection st λ x g y. same f g and (set x and r Kind.Ordered k y)

-- from a set along a path
abbrev pub along : List Statement → Relation → List ℕ → (ℕ → Bool) → ℕ → Bool
along st r [] set = set
along st r (f ∷ p) set = along st r p (step st r f set)

-- from all that is ≤ i along a path
unfoldable pub at_path : List Statement → Relation → ℕ → List ℕ → ℕ → Bool
at_path st r i p = along st r p λ k. r Kind.Ordered k i

-- a path of i is supported where it leads to one of n variables
unfoldable pub path_supported : ℕ → List Statement → Relation → ℕ → List ℕ → Bool
path_supported n st r i p = any_below n (at_path st r i p)
