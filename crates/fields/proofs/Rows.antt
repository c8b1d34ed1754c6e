-- The numbers of the refusals, row by row of the table.
use mathlib.Core.List.{List, [], ◌∷◌, map}
use mathlib.Core.Path.{◌≡◌, refl}
use Rattle.fields.specs.declared.refusals.Fault.{Fault}
use Rattle.fields.specs.Refusals.{number_of}

pub rows : List Fault
rows =
    Fault.Cut ∷ Fault.HeaderMap ∷ Fault.VariableCount ∷ Fault.Count ∷ Fault.ItemMap
    ∷ Fault.VariableRange ∷ Fault.Trailing ∷ Fault.ShortTable ∷ Fault.ShortReplies
    ∷ Fault.PathLength ∷ []

pub rows_numbered : map number_of rows ≡ 1 ∷ 2 ∷ 3 ∷ 4 ∷ 5 ∷ 6 ∷ 7 ∷ 8 ∷ 9 ∷ 10 ∷ []
unfolding rows
rows_numbered = refl
