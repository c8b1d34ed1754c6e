-- The search for the first clash, row by row and column by column.
use Prim.Native.Nat.{ℕ, zero, suc, ◌+◌, ◌<◌, ◌≤◌}
use mathlib.Core.Bool.{Bool, false, ◌&&◌}
use mathlib.Core.List.{List}
use mathlib.Core.Path.{◌≡◌, refl, ap, ◌∙◌}
use native.Mathlib.Omega.{arith}
use Rattle.std.specs.Prelude.{Option, None, Some, MatchOption}
use Rattle.std.specs.List.{find, range_with_len}
use Rattle.std.specs.Option.{option_map}
use Rattle.fields.proofs.Choice.{chosen, passed}
use Rattle.items.specs.declared.items.Statement.{Statement}
use Rattle.rules.specs.declared.clashes.Clash.{Clash}
use Rattle.rules.specs.declared.kinds.Kind.{Kind}
use Rattle.rules.specs.Facts.{Relation}
use Rattle.rules.specs.Tables.{facts}
use Rattle.rules.specs.Clashes.{clashes_at, clash_between, clash_in_row, clash_in_rows}
use Rattle.rules.proofs.Logic.{decided, last_or_before}
use Rattle.labels.specs.declared.spread.Spread.{Spread}
use Rattle.labels.specs.Spreads.{spread_at, has_any, differ}
use Rattle.labels.proofs.Kept.{none_differ, differ_told}
use Rattle.answers.specs.Clashes.{RowTold, ClashTold}
use Rattle.answers.proofs.Logic.{fails_second, second_alike}

-- i ~ j, and the spreads of i and j differ
abbrev pub differs_at : Relation → List Spread → ℕ → ℕ → Bool
differs_at r spreads i j = r Kind.Compatible i j && differ (spread_at spreads i) (spread_at spreads j)

module _ (st : List Statement) (r : Relation) where
  -- as many columns of row i, from column j on, by a test that tells of each whether it has a clash
  row_sought : (test : ℕ → Bool) (i n left j : ℕ) → left + j ≡ n → ((y : ℕ) → y < n → test y ≡ clashes_at st r i y)
      → option_map (clash_between i) (find test (range_with_len j left)) ≡ clash_in_row left j st r i
  unfolding clash_in_row
  row_sought test i n zero j size same = refl
  row_sought test i n (suc left) j size same =
      let next : j + 1 ≡ suc j = omega arith in
      let rest =
      row_sought test i n left (j + 1) (omega arith) same ∙ ap (λ k. clash_in_row left k st r i) next in
      let here = same j (omega arith) in
      decided (clashes_at st r i j)
      (λ p. rw (here ∙ p) (chosen _ _ _ p refl))
      (λ p. rw (here ∙ p) (passed _ _ _ p rest))

  -- a row without a clash
  row_clear : (i : ℕ) → ((y : ℕ) → clashes_at st r i y ≡ false) → (left j : ℕ) → None ≡ clash_in_row left j st r i
  unfolding clash_in_row
  row_clear i h zero j = refl
  row_clear i h (suc left) j = passed _ _ _ (h j) (row_clear i h left (suc j))

  -- as many rows of n columns, from row i on: none has a clash, or row x is the first
  rows_clear : (n left i : ℕ) → ((x : ℕ) → x < left + i → None ≡ clash_in_row n 0 st r x)
      → None ≡ clash_in_rows left i n st r
  unfolding clash_in_rows
  rows_clear n zero i none = refl
  rows_clear n (suc left) i none =
      rw (← none i (omega arith)) (rows_clear n left (suc i) (λ x h. none x (omega arith)))

  rows_first : {clash : Clash} (n x left i : ℕ) → i ≤ x → x < left + i → Some clash ≡ clash_in_row n 0 st r x
      → ((y : ℕ) → y < x → None ≡ clash_in_row n 0 st r y) → Some clash ≡ clash_in_rows left i n st r
  unfolding clash_in_rows
  rows_first n x zero i h g here none = absurd (omega arith)
  rows_first n x (suc left) i h g here none =
      last_or_before i x (omega arith) (λ e. rw (e, ← here) refl)
      (λ b. rw (← none i b) (rows_first n x left (suc i) (omega arith) (omega arith) here none))

module _ {n : ℕ} {t : List ℕ} {spreads : List Spread} where
  module _ {i : ℕ} (h : i < n) where
    pub row_told : {c : Option Clash}
        → c ≡ option_map (clash_between i) (find (differs_at (facts n t) spreads i) (range_with_len 0 n))
        → RowTold n t spreads i c
    unfolding clashes_at
    row_told e =
        record {
          told = λ st stand.
              e
              ∙ row_sought st (facts n t) _ i n n 0 (omega arith)
              λ y g. second_alike (facts n t Kind.Compatible i y) (differ_told (stand.at i h) (stand.at y g));
        }

    -- a variable without a label has no clash
    pub row_unlabelled : has_any (spread_at spreads i) ≡ false → RowTold n t spreads i None
    unfolding clashes_at
    row_unlabelled p =
        record {
          told = λ st stand.
              row_clear st (facts n t) i (λ y. fails_second _ (none_differ y (stand.at i h) p)) n 0;
        }

  -- each row is told to have no clash, or one is the first that has
  pub rows_told : (c : Option Clash)
      → MatchOption c ((x : ℕ) → x < n → RowTold n t spreads x None)
      (λ clash. (x : ℕ) × (x < n) × RowTold n t spreads x (Some clash)
      × ((y : ℕ) → y < x → RowTold n t spreads y None))
      → ClashTold n t spreads c
  rows_told None none =
      record {
        told = λ st stand. rows_clear st (facts n t) n n 0 λ x h. (none x (omega arith)).told st stand;
      }
  rows_told (Some clash) first =
      record {
        told = λ st stand.
            rows_first st (facts n t) n first.0 n 0 (omega arith) (omega (arith, first.1)) (first.2.told st stand)
            λ y h. (first.3 y h).told st stand;
      }
