-- The derived set: rounds of F1 to F4 from nothing.
use Rattle.std.specs.Prelude.{ℕ, zero, suc, ◌*◌, false, List, replicate}
use Rattle.fields.specs.Tests.{same}
use Rattle.items.specs.declared.items.Statement.{Statement}
use Rattle.rules.specs.Connectives.{◌and◌, ◌or◌}
use Rattle.rules.specs.Stated.{any_below, some_ordering, some_compatibility, some_selection}
use Rattle.rules.specs.declared.kinds.Kind.{Kind}
use Rattle.rules.specs.Facts.{Relation}
use Rattle.rules.specs.Tables.{facts, table_of}

-- the fact is stated
unfoldable pub is_stated : List Statement → Relation
is_stated st Kind.Ordered i j = some_ordering st (λ x y. same i x and same j y)
is_stated st Kind.Compatible i j = some_compatibility st (λ x y. same i x and same j y)

-- F1.2, F3.2: through some variable
unfoldable pub passes : ℕ → Relation → Relation
passes n r kind i k = any_below n (λ j. r Kind.Ordered i j and r kind j k)

-- F3.3
unfoldable pub turns : Relation → Relation
turns r Kind.Ordered i j = false
turns r Kind.Compatible i j = r Kind.Compatible j i

-- F2, F4: i and j are children, at one feature, of two variables so related
unfoldable pub descends : List Statement → Relation → Relation
descends st r kind i j =
    some_selection st λ x f x'. same i x' and some_selection st λ y g y'. same j y' and (same f g and r kind x y)

-- one round: what holds already, and what a rule gives from it
unfoldable pub round : List Statement → ℕ → Relation → Relation
round st n r kind i j =
    r kind i j or same i j or is_stated st kind i j
    or passes n r kind i j or turns r kind i j or descends st r kind i j

-- the table after one round, and after some
abbrev pub next_table : List Statement → ℕ → List ℕ → List ℕ
next_table st n t = table_of n (round st n (facts n t))

unfoldable pub rounds : ℕ → List Statement → ℕ → List ℕ → List ℕ
rounds zero st n t = t
rounds (suc more) st n t = rounds more st n (next_table st n t)

-- there are at most two times n × n facts, and a round adds one as long as one is missing
unfoldable pub derived : List Statement → ℕ → List ℕ
derived st n = rounds (2 * (n * n)) st n (replicate (n * n) 0)

-- the derived facts
abbrev pub facts_of : List Statement → ℕ → Relation
facts_of st n = facts n (derived st n)
