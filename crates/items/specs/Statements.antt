-- What records state and questions ask.
use Rattle.std.specs.Prelude.{ℕ, ◌<◌, List, [], ◌∷◌, ◌++◌, Option, option_map, option_to_list, unwrap_or}
use Rattle.fields.specs.Fields.{label}
use Rattle.items.specs.declared.items.Item.{Item}
use Rattle.items.specs.declared.items.Statement.{Statement}

-- the bit of each kind of statement, by its value in a map: i ≤ j, i ~ j, i[f]j, a(i)
abbrev pub bit_of : Statement → ℕ
bit_of (Statement.Ordering i j) = 1
bit_of (Statement.Compatibility i j) = 2
bit_of (Statement.Selection i f j) = 4
bit_of (Statement.Labelling i a) = 8

-- the statement that each field makes with the subject, where it is there
abbrev pub ordering_of : Item → Option Statement
ordering_of x = option_map (Statement.Ordering x.subject) x.target

abbrev pub compatibility_of : Item → Option Statement
compatibility_of x = option_map (Statement.Compatibility x.subject) x.partner

abbrev pub selection_of : Item → Option Statement
selection_of x = option_map (λ out. Statement.Selection x.subject out.feature out.child) x.edge

abbrev pub labelling_of : Item → Option Statement
labelling_of x = option_map (Statement.Labelling x.subject) x.label

-- what a record states, by rising bit
unfoldable pub statements_of : Item → List Statement
statements_of x =
    option_to_list (ordering_of x)
    ++ (option_to_list (compatibility_of x)
    ++ (option_to_list (selection_of x)
    ++ option_to_list (labelling_of x)))

-- the statement of the first field that is there; of none, a label 0
unfoldable pub statement_of : Item → Statement
statement_of x =
    unwrap_or (ordering_of x)
    (unwrap_or (compatibility_of x)
    (unwrap_or (selection_of x) (Statement.Labelling x.subject (unwrap_or x.label (label 0)))))

-- every variable that a statement names is below n
abbrev pub Names : ℕ → Statement → Type 0
Names n (Statement.Ordering i j) = (i.0 < n) × (j.0 < n)
Names n (Statement.Compatibility i j) = (i.0 < n) × (j.0 < n)
Names n (Statement.Selection i f j) = (i.0 < n) × (j.0 < n)
Names n (Statement.Labelling i a) = i.0 < n

-- each element of a list has a property
abbrev pub All : {A : Type 0} → (A → Type 0) → List A → Type 0
All P [] = Unit {0}
All P (x ∷ xs) = P x × All P xs

abbrev pub AllName : ℕ → List Statement → Type 0
AllName n xs = All (Names n) xs
