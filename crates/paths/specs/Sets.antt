-- Sets of variables, and what a selection adds to one that leads on from another.
use Rattle.std.specs.Prelude.{ℕ, Bool, true, List, ◌≡◌}
use Rattle.fields.specs.Tests.{same}
use Rattle.items.specs.declared.items.Statement.{Statement}
use Rattle.rules.specs.Connectives.{◌and◌, ◌or◌}
use Rattle.rules.specs.Stated.{any_below}
use Rattle.rules.specs.declared.kinds.Kind.{Kind}
use Rattle.rules.specs.Facts.{Relation, Holds}
use Rattle.rules.specs.Paths.{step}
use Rattle.rows.specs.Rows.{in_row, Members}
use Rattle.selections.specs.declared.listed.Selection.{Selection}
use Rattle.selections.specs.Listed.{selection_at, Listed}
use Rattle.selections.specs.Stands.{SelectionsStand}

-- F1.2 adds nothing under ≤
pub record Transitive (r : Relation) : Type 0 where
  pub through : (i j k : ℕ) → Holds r Kind.Ordered i j → Holds r Kind.Ordered j k → Holds r Kind.Ordered i k

-- a row has all that is ≤ one of its members
pub record Downward (r : Relation) (row : List ℕ) : Type 0 where
  pub below : (k y : ℕ) → in_row row y ≡ true → Holds r Kind.Ordered k y → in_row row k ≡ true

-- k is ≤ the child of a selection at f, whose subject is in the set
abbrev pub adds : Relation → ℕ → List ℕ → Selection → ℕ → Bool
adds r f set s k = same f s.feature.0 and (in_row set s.subject.0 and r Kind.Ordered k s.child.0)

-- a row has what another has, and what a selection adds
pub record ChildAdded (r : Relation) (f : ℕ) (set : List ℕ) (s : Selection) (next row : List ℕ) : Type 0 where
  pub members : Members row λ k. adds r f set s k or in_row next k

-- the row of what the first m selections of the list add
pub record Adding (r : Relation) (list : List Selection) (f : ℕ) (set : List ℕ) (m : ℕ) (row : List ℕ) : Type 0 where
  pub members : Members row λ k. any_below m λ y. adds r f set (selection_at list y) k

-- the row of a set's children at f, whatever statements have their selections in the list
pub record Stepped (n : ℕ) (r : Relation) (list : List Selection) (f : ℕ) (set row : List ℕ) : Type 0 where
  pub told : (st : List Statement) → SelectionsStand n st (Listed list) → Members row (step st r f (in_row set))
