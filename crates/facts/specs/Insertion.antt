-- Insertion of a fact into a table that F1 and F3 leave as it is.
use Rattle.std.specs.Prelude.{ℕ, ◌<◌, ◌≤◌, get_or, Bool, true, false, List, ◌≡◌}
use Rattle.fields.specs.Limits.{most_variables}
use Rattle.fields.specs.Tests.{pick}
use Rattle.rules.specs.Connectives.{◌and◌}
use Rattle.rules.specs.declared.kinds.Kind.{Kind}
use Rattle.rules.specs.Tables.{says, cell_at, facts, Shape}
use Rattle.table.specs.declared.cells.Kinds.{Kinds}
use Rattle.table.specs.Cells.{is_lacking, kinds}
use Rattle.table.specs.Queue.{State, Ready}
use Rattle.facts.specs.Additions.{Facts, Said, Among, Framed}

-- a cell w is to be added at x and y
pub record Taking (n : ℕ) (s : State) (w x y : ℕ) : Type 0 where
  pub ready : Ready n s
  pub first : x < n
  pub second : y < n
  pub cell : w < 4

-- both sides of a pair: w at x and y, and ~ at y and x where w says it
pub data Sides (w x y : ℕ) (kind : Kind) (i j : ℕ) : Type 0 where
  along : Said w x y kind i j → Sides w x y kind i j
  back : says Kind.Compatible w ≡ true → Said 2 y x kind i j → Sides w x y kind i j

-- what stands in a row at a place
abbrev pub kinds_at : List Kinds → ℕ → Kinds
kinds_at row y = get_or row y (kinds 0)

-- x takes each cell of a row
abbrev pub RowTaken : ℕ → List Kinds → ℕ → Facts
RowTaken n row x = Among 0 n (λ y. Sides (kinds_at row y).0 x y)

-- x takes a row if it is marked
pub record Marked (mark : Bool) (n : ℕ) (row : List Kinds) (x : ℕ) (kind : Kind) (i j : ℕ) : Type 0 where
  pub set : mark ≡ true
  pub takes : RowTaken n row x kind i j

-- each variable that a column marks takes the row
abbrev pub RowsTaken : ℕ → List Bool → List Kinds → Facts
RowsTaken n column row = Among 0 n (λ x. Marked (get_or column x false) n row x)

-- as many cells of 0 to 3
pub record Row (n : ℕ) (row : List Kinds) : Type 0 where
  pub cells : (y : ℕ) → y < n → (kinds_at row y).0 < 4

-- a row that x is to take, and rows that the marked variables are to take
pub record TakingRow (n : ℕ) (s : State) (row : List Kinds) (x : ℕ) : Type 0 where
  pub ready : Ready n s
  pub first : x < n
  pub cells : Row n row

pub record TakingRows (n : ℕ) (s : State) (row : List Kinds) : Type 0 where
  pub ready : Ready n s
  pub cells : Row n row

-- a variable is marked where it is below u and lacks w at v
unfoldable pub mark_of : ℕ → List ℕ → ℕ → ℕ → ℕ → ℕ → Bool
mark_of n t w u v x = says Kind.Ordered (cell_at n t x u) and is_lacking (cell_at n t x v) w

-- the cell that what is below u takes at y, once w holds of u and v: v's own for ≤, and ~ below v for ~ alone
unfoldable pub cell_taken_at : ℕ → List ℕ → ℕ → ℕ → ℕ → ℕ
cell_taken_at n t w v y = pick (says Kind.Ordered w) (cell_at n t v y) (pick (says Kind.Ordered (cell_at n t y v)) 2 0)

-- t is a table of n variables, u and v among them
pub record Looking (n : ℕ) (t : List ℕ) (u v : ℕ) : Type 0 where
  pub few : n ≤ most_variables
  pub shape : Shape n t
  pub first : u < n
  pub second : v < n

-- the marks of all variables, and the whole row that they take
pub record Columns (n : ℕ) (t : List ℕ) (w u v : ℕ) (column : List Bool) : Type 0 where
  pub marks : (x : ℕ) → x < n → get_or column x false ≡ mark_of n t w u v x

pub record Rows (n : ℕ) (t : List ℕ) (w v : ℕ) (row : List Kinds) : Type 0 where
  pub cells : (y : ℕ) → y < n → (kinds_at row y).0 ≡ cell_taken_at n t w v y

-- a fact is to be inserted
pub record Inserting (n : ℕ) (s : State) (w u v : ℕ) : Type 0 where
  pub taking : Taking n s w u v
  pub framed : Framed n (facts n s.table)
