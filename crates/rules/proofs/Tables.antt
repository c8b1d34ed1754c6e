-- Tables: the table of a set of facts, the facts of a table, and that tables of the same facts are the same.
use Prim.Native.Nat.{ℕ, zero, suc, ◌+◌, ◌*◌, ◌/◌, ◌%◌, ◌<◌}
use mathlib.Core.List.{List}
use mathlib.Core.Path.{◌≡◌, refl, sym, ap, ap₂, ◌∙◌}
use lib.ListN.{length, get_or, replicate, length-append, length-replicate, get_or-replicate, get_or-append}
use lib.Seq.{get_or-append-add, ext_get_or}
use native.Mathlib.Nat.{suc-mul, zero-mul, div-add-mod', mod-lt, div-lt_iff_lt-mul, lt_of_mul-lt-mul_right}
use native.Mathlib.Omega.{arith}
use Rattle.std.proofs.lemmas.Bool.{both_ways}
use Rattle.std.proofs.lemmas.Nat.{mul-add-lt}
use Rattle.fields.specs.Tests.{less}
use Rattle.fields.proofs.Choice.{is_less, less_true}
use Rattle.sheet.specs.Headers.{size_for}
use Rattle.rules.specs.Connectives.{◌and◌}
use Rattle.rules.specs.declared.kinds.Kind.{Kind}
use Rattle.rules.specs.Facts.{Relation, Holds}
use Rattle.rules.specs.Tables.{says, cell_of, cell_at, facts, row_of, rows_of, table_of, table_bytes, Shape}
use Rattle.rules.proofs.Logic.{first_of_and, second_of_and}
use Rattle.rules.proofs.Cells.{said, small_cell, says_nothing, same_cell}

-- the cell that a set of facts has for i and j
abbrev fact_cell : Relation → ℕ → ℕ → ℕ
fact_cell r i j = cell_of (r Kind.Ordered i j) (r Kind.Compatible i j)

-- a row, and rows one behind the other: how long they are, and their cells
module _ (r : Relation) where
  row_length : (left i j : ℕ) → length (row_of left j r i) ≡ left
  unfolding row_of
  row_length zero i j = refl
  row_length (suc left) i j = ap suc (row_length left i (suc j))

  row_cell : (left i j k : ℕ) → k < left → get_or (row_of left j r i) k 0 ≡ fact_cell r i (j + k)
  unfolding row_of
  row_cell zero i j k h = absurd (omega arith)
  row_cell (suc left) i j zero h = ap (fact_cell r i) (omega arith)
  row_cell (suc left) i j (suc k) h = row_cell left i (suc j) k (omega arith) ∙ ap (fact_cell r i) (omega arith)

  rows_length : (left i n : ℕ) → length (rows_of left i n r) ≡ left * n
  unfolding rows_of
  rows_length zero i n = sym (zero-mul n)
  rows_length (suc left) i n =
      let first = row_length n i 0 in
      let later = rows_length left (suc i) n in
      length-append (row_of n 0 r i) _ ∙ omega (arith, suc-mul left n)

  rows_cell : (left i n k j : ℕ) → k < left → j < n → get_or (rows_of left i n r) (k * n + j) 0 ≡ fact_cell r (i + k) j
  unfolding rows_of
  rows_cell zero i n k j h g = absurd (omega arith)
  rows_cell (suc left) i n zero j h g =
      let size = row_length n i 0 in
      let here : 0 * n + j ≡ j = omega arith in
      rw here (get_or-append (row_of n 0 r i) _ 0 j (omega arith) ∙ row_cell n i 0 j g
      ∙ ap₂ (fact_cell r) (omega arith) (omega arith))
  rows_cell (suc left) i n (suc k) j h g =
      let size = row_length n i 0 in
      let behind : suc k * n + j ≡ length (row_of n 0 r i) + (k * n + j) = omega (arith, suc-mul k n) in
      rw behind (get_or-append-add (row_of n 0 r i) _ (k * n + j) 0 ∙ rows_cell left (suc i) n k j (omega arith) g
      ∙ ap (λ x. fact_cell r x j) (omega arith))

module _ (n : ℕ) (t : List ℕ) (kind : Kind) (i j : ℕ) where
  -- a fact of a table is of variables below n
  pub fact_row : Holds (facts n t) kind i j → i < n
  unfolding facts
  fact_row p = less_true i n (first_of_and _ _ p)

  pub fact_column : Holds (facts n t) kind i j → j < n
  unfolding facts
  fact_column p = less_true j n (first_of_and _ _ (second_of_and (less i n) _ p))

  -- of these its cell says it
  pub fact_said : i < n → j < n → facts n t kind i j ≡ says kind (cell_at n t i j)
  unfolding facts ◌and◌
  fact_said h g = rw (is_less i n h, is_less j n g)

-- the table of a set of facts: its shape and its facts
module _ (n : ℕ) (r : Relation) where
  table_cell : (i j : ℕ) → i < n → j < n → cell_at n (table_of n r) i j ≡ fact_cell r i j
  unfolding cell_at table_of
  table_cell i j h g = rows_cell r n 0 n i j h g ∙ ap (λ x. fact_cell r x j) (omega arith)

  pub table_shape : Shape n (table_of n r)
  unfolding table_of
  table_shape = record { size = rows_length r n 0 n; cells = λ i j h g. rw (table_cell i j h g) (small_cell _ _) }

  pub table_facts : (kind : Kind) (i j : ℕ) → i < n → j < n → facts n (table_of n r) kind i j ≡ r kind i j
  table_facts kind i j h g =
      fact_said n (table_of n r) kind i j h g ∙ ap (says kind) (table_cell i j h g) ∙ said (λ k. r k i j) kind

-- the table of zeros has the shape, and no fact
module _ (n : ℕ) where
  zero_cell : (i j : ℕ) → i < n → j < n → cell_at n (replicate (n * n) 0) i j ≡ 0
  unfolding cell_at
  zero_cell i j h g = get_or-replicate (n * n) (i * n + j) 0 0 (mul-add-lt i n j n h g)

  pub zeros_shape : Shape n (replicate (n * n) 0)
  zeros_shape = record { size = length-replicate (n * n) 0; cells = λ i j h g. rw (zero_cell i j h g) (omega arith) }

  pub zeros_empty : (kind : Kind) (i j : ℕ) → Holds (facts n (replicate (n * n) 0)) kind i j → ⊥
  zeros_empty kind i j p =
      let h = fact_row n _ kind i j p in
      let g = fact_column n _ kind i j p in
      both_ways _ (fact_said n _ kind i j h g ∙ ap (says kind) (zero_cell i j h g) ∙ says_nothing kind) p

-- tables of the same facts are the same
module _ (n : ℕ) (t u : List ℕ) (shape_t : Shape n t) (shape_u : Shape n u)
    (e : (kind : Kind) (i j : ℕ) → i < n → j < n → facts n t kind i j ≡ facts n u kind i j) where
  same_at : (i j : ℕ) → i < n → j < n → cell_at n t i j ≡ cell_at n u i j
  same_at i j h g =
      same_cell _ _ (shape_t.cells i j h g) (shape_u.cells i j h g) λ kind.
      sym (fact_said n t kind i j h g) ∙ e kind i j h g ∙ fact_said n u kind i j h g

  pub same_facts : t ≡ u
  unfolding cell_at
  same_facts = ext_get_or 0 t u (shape_t.size ∙ sym shape_u.size) λ k h.
      let b : k < n * n = omega (arith, shape_t.size) in
      let some : 0 < n = lt_of_mul-lt-mul_right n (omega (arith, zero-mul n)) in
      rw (← div-add-mod' k n) (same_at (k / n) (k % n) ((div-lt_iff_lt-mul some).1 b) (mod-lt k some))

-- how long the table of any facts is
pub table_length : (n : ℕ) (r : Relation) → length (table_bytes n r) ≡ size_for n
unfolding table_bytes size_for
table_length n r = (table_shape n r).size

-- a table is the image of its facts
pub same_image : (n : ℕ) (t : List ℕ) → Shape n t → table_of n (facts n t) ≡ t
same_image n t shape = same_facts n _ t (table_shape n (facts n t)) shape (table_facts n (facts n t))
