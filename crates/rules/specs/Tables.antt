-- The fact table: rows of cells, a cell for two variables, and what a cell says.
use Rattle.std.specs.Prelude.{ℕ, zero, suc, ◌+◌, ◌*◌, ◌<◌, Bool, List, [], ◌∷◌, ◌++◌, ◌≡◌, length, get_or}
use Rattle.fields.specs.Tests.{less, same, pick}
use Rattle.rules.specs.Connectives.{◌and◌, ◌or◌}
use Rattle.rules.specs.declared.kinds.Kind.{Kind}
use Rattle.rules.specs.Facts.{Relation}

-- whether a cell says ≤ (it is 1 or 3) or ~ (it is 2 or 3)
unfoldable pub says : Kind → ℕ → Bool
says Kind.Ordered cell = same cell 1 or same cell 3
says Kind.Compatible cell = less 1 cell

-- the cell of a kind alone
abbrev pub kind_cell : Kind → ℕ
kind_cell Kind.Ordered = 1
kind_cell Kind.Compatible = 2

-- the cell that says ≤ and ~ as two tests do
unfoldable pub cell_of : Bool → Bool → ℕ
cell_of le al = pick le 1 0 + pick al 2 0

-- the cell of i and j
unfoldable pub cell_at : ℕ → List ℕ → ℕ → ℕ → ℕ
cell_at n t i j = get_or t (i * n + j) 0

-- the facts of a table: of numbers that are no variables it has none
unfoldable pub facts : ℕ → List ℕ → Relation
facts n t kind i j = less i n and (less j n and says kind (cell_at n t i j))

-- as many cells of row i, from column j on
unfoldable pub row_of : ℕ → ℕ → Relation → ℕ → List ℕ
row_of zero j r i = []
row_of (suc left) j r i = cell_of (r Kind.Ordered i j) (r Kind.Compatible i j) ∷ row_of left (suc j) r i

-- as many rows of n cells, from row i on
unfoldable pub rows_of : ℕ → ℕ → ℕ → Relation → List ℕ
rows_of zero i n r = []
rows_of (suc left) i n r = row_of n 0 r i ++ rows_of left (suc i) n r

-- the table of a set of facts
unfoldable pub table_of : ℕ → Relation → List ℕ
table_of n r = rows_of n 0 n r

-- the first table's bytes for a set of facts: the one place that knows their layout
unfoldable pub table_bytes : ℕ → Relation → List ℕ
table_bytes n r = table_of n r

-- n × n cells of 0 to 3
pub record Shape (n : ℕ) (t : List ℕ) : Type 0 where
  pub size : length t ≡ n * n
  pub cells : (i j : ℕ) → i < n → j < n → cell_at n t i j < 4

-- how many numbers below m pass
unfoldable pub count_passing : ℕ → (ℕ → Bool) → ℕ
count_passing zero test = 0
count_passing (suc m) test = pick (test m) 1 0 + count_passing m test

-- how many facts of a kind hold in row i, and in the rows below m
unfoldable pub count_row : ℕ → Relation → Kind → ℕ → ℕ
count_row n r kind i = count_passing n (λ j. r kind i j)

unfoldable pub count_rows : ℕ → ℕ → Relation → Kind → ℕ
count_rows zero n r kind = 0
count_rows (suc m) n r kind = count_row n r kind m + count_rows m n r kind

-- how many facts of a kind hold
unfoldable pub count_facts : ℕ → Relation → Kind → ℕ
count_facts n r kind = count_rows n n r kind
