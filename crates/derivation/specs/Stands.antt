-- When statements stand in a list of pairs and in groups.
use Rattle.std.specs.Prelude.{ℕ, ◌<◌, ◌≤◌, length, get_or, List, ◌≡◌}
use Rattle.fields.specs.Limits.{most_variables}
use Rattle.fields.specs.Fields.{variable}
use Rattle.items.specs.declared.items.Statement.{Statement}
use Rattle.items.specs.Statements.{AllName}
use Rattle.rules.specs.Stated.{Stated}
use Rattle.rules.specs.declared.kinds.Kind.{Kind}
use Rattle.rules.specs.Facts.{fact}
use Rattle.rules.specs.Derived.{derived}
use Rattle.rules.specs.Tables.{facts, Shape}
use Rattle.table.specs.Cells.{kinds}
use Rattle.table.specs.Queue.{State, Ready}
use Rattle.facts.specs.Additions.{Facts, Said, Among, Framed}
use Rattle.selections.specs.declared.grouped.Groups.{Groups}
use Rattle.selections.specs.Groups.{Grouped, AreGroups}
use Rattle.selections.specs.Stands.{SelectionsStand}
use Rattle.derivation.specs.declared.pairs.Pair.{Pair}
use Rattle.derivation.specs.Settled.{Descends}

-- what a cell says of two variables, and what stands where no pair does
abbrev pub pair_of : ℕ → ℕ → ℕ → Pair
pair_of cell i j = record { kinds = kinds cell; left = variable i; right = variable j }

abbrev pub no_pair : Pair
no_pair = pair_of 0 0 0

abbrev pub pair_at : List Pair → ℕ → Pair
pair_at pairs k = get_or pairs k no_pair

-- what each cell says of two variables below n
pub record Pairs (n : ℕ) (pairs : List Pair) : Type 0 where
  pub cell_small : (k : ℕ) → k < length pairs → (pair_at pairs k).kinds.0 < 4
  pub left_below : (k : ℕ) → k < length pairs → (pair_at pairs k).left.0 < n
  pub right_below : (k : ℕ) → k < length pairs → (pair_at pairs k).right.0 < n

-- what a pair says
abbrev pub SaidBy : Pair → Facts
SaidBy pair = Said pair.kinds.0 pair.left.0 pair.right.0

-- the facts of a list of pairs
abbrev pub Paired : List Pair → Facts
Paired pairs = Among 0 (length pairs) (λ k. SaidBy (pair_at pairs k))

-- the ≤ and ~ of st are those of the list and no other
pub record PairsStand (st : List Statement) (pairs : List Pair) : Type 0 where
  pub listed : (kind : Kind) (i j : ℕ) → Stated st (fact kind i j) → Paired pairs kind i j
  pub stated : (kind : Kind) (i j : ℕ) → Paired pairs kind i j → Stated st (fact kind i j)

-- the table is closed, and whatever statements stand in the list and the groups, it is derived from them
pub record DerivedFrom (n : ℕ) (pairs : List Pair) (groups : Groups) (t : List ℕ) : Type 0 where
  pub shape : Shape n t
  pub framed : Framed n (facts n t)
  pub descends : Descends n (Grouped groups) (facts n t)
  pub table : (st : List Statement) → AllName n st → PairsStand st pairs
      → SelectionsStand n st (Grouped groups) → t ≡ derived st n

-- the facts of a lawful list are to be inserted
pub record InsertingPairs (n : ℕ) (s : State) (pairs : List Pair) : Type 0 where
  pub ready : Ready n s
  pub framed : Framed n (facts n s.table)
  pub lawful : Pairs n pairs

-- no more variables than there may be, and a lawful list and groups
pub record Deriving (n : ℕ) (pairs : List Pair) (groups : Groups) : Type 0 where
  pub few : n ≤ most_variables
  pub lawful_pairs : Pairs n pairs
  pub lawful_groups : AreGroups n groups
