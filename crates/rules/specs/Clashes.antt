-- F5: a clash of two labels, and the pair that is told.
use Rattle.std.specs.Prelude.{ℕ, zero, suc, Bool, not, List, Option, None, Some, is_some}
use Rattle.std.specs.Option.{option_or}
use Rattle.fields.specs.Fields.{variable}
use Rattle.fields.specs.Tests.{same, pick}
use Rattle.items.specs.declared.items.Statement.{Statement}
use Rattle.rules.specs.declared.clashes.Clash.{Clash}
use Rattle.rules.specs.Connectives.{◌and◌}
use Rattle.rules.specs.Stated.{some_labelling}
use Rattle.rules.specs.declared.kinds.Kind.{Kind}
use Rattle.rules.specs.Facts.{Relation}
use Rattle.rules.specs.Derived.{facts_of}

-- a(i) and b(j) are stated, and a is not b
unfoldable pub labels_differ : List Statement → ℕ → ℕ → Bool
labels_differ st i j = some_labelling st λ x a. same i x and some_labelling st λ y b. same j y and not (same a b)

-- F5 applies to i and j
unfoldable pub clashes_at : List Statement → Relation → ℕ → ℕ → Bool
clashes_at st r i j = r Kind.Compatible i j and labels_differ st i j

-- the clash of i and j
abbrev pub clash_between : ℕ → ℕ → Clash
clash_between i j = record { first = variable i; second = variable j }

-- the first of as many columns of row i, from column j on
unfoldable pub clash_in_row : ℕ → ℕ → List Statement → Relation → ℕ → Option Clash
clash_in_row zero j st r i = None
clash_in_row (suc left) j st r i =
    pick (clashes_at st r i j) (Some (clash_between i j)) (clash_in_row left (suc j) st r i)

-- the first of as many rows of n columns, from row i on
unfoldable pub clash_in_rows : ℕ → ℕ → ℕ → List Statement → Relation → Option Clash
clash_in_rows zero i n st r = None
clash_in_rows (suc left) i n st r = option_or (clash_in_row n 0 st r i) (clash_in_rows left (suc i) n st r)

-- the first clash of the derived facts, row by row
unfoldable pub clash_of : List Statement → ℕ → Option Clash
clash_of st n = clash_in_rows n 0 n st (facts_of st n)

unfoldable pub clashes : List Statement → ℕ → Bool
clashes st n = is_some (clash_of st n)
