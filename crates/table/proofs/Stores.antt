-- A table with another cell: its shape, and its facts.
use Prim.Native.Nat.{ℕ, ◌+◌, ◌*◌, ◌<◌}
use lib.ListN.{length-set}
use lib.Seq.{get_or-set_same, get_or-set_other}
use mathlib.Core.List.{List}
use mathlib.Core.Logic.{⊎_elim}
use mathlib.Core.Path.{◌≡◌, ◌∙◌}
use native.Mathlib.Omega.{arith}
use Rattle.std.proofs.lemmas.Bool.{cases_eq}
use Rattle.std.proofs.lemmas.Nat.{mul-add-lt, same_from_place}
use Rattle.rules.specs.Tables.{cell_at, Shape}
use Rattle.table.specs.Cells.{with_cell}

module _ (n : ℕ) (t : List ℕ) (x y cell : ℕ) (shape : Shape n t) (h : x < n) (g : y < n) where
  pub store_there : cell_at n (with_cell n t x y cell) x y ≡ cell
  unfolding cell_at with_cell
  store_there = get_or-set_same t (x * n + y) cell 0 (omega (arith, mul-add-lt x n y n h g, shape.size))

  pub store_elsewhere : (i j : ℕ) → j < n → (i ≡ x → j ≡ y → ⊥)
      → cell_at n (with_cell n t x y cell) i j ≡ cell_at n t i j
  unfolding cell_at with_cell
  store_elsewhere i j b other =
      get_or-set_other t (x * n + y) (i * n + j) cell 0 λ e. let p = same_from_place i j x y n b g e in other p.0 p.1

  -- by cases: there or elsewhere
  pub there_or : {C : Type 0} (i j : ℕ) → (i ≡ x → j ≡ y → C) → ((i ≡ x → j ≡ y → ⊥) → C) → C
  there_or i j there elsewhere =
      ⊎_elim (λ p. ⊎_elim (there p) (λ q. elsewhere (λ a. q)) (cases_eq j y)) (λ p. elsewhere (λ a b. p a))
      (cases_eq i x)

  pub store_shape : cell < 4 → Shape n (with_cell n t x y cell)
  unfolding with_cell
  store_shape small =
      record {
        size = length-set t (x * n + y) cell ∙ shape.size;
        cells = λ i j a b.
            there_or i j (λ e f. rw (e, f, store_there) small)
            (λ other. rw (store_elsewhere i j b other) (shape.cells i j a b));
      }
