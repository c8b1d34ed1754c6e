-- Counts of facts: more facts are not fewer, as many are no more, and there are at most n × n of a kind.
use Prim.Native.Nat.{ℕ, zero, suc, ◌+◌, ◌*◌, ◌<◌, ◌≤◌}
use mathlib.Core.Bool.{Bool, true, false}
use mathlib.Core.Path.{◌≡◌, refl, ap}
use native.Mathlib.Nat.{suc-mul}
use native.Mathlib.Omega.{arith}
use Rattle.fields.specs.Tests.{pick}
use Rattle.fields.proofs.Choice.{pick_most}
use Rattle.rules.specs.declared.kinds.Kind.{Kind}
use Rattle.rules.specs.Facts.{Relation, Holds, Within}
use Rattle.rules.specs.Tables.{count_passing, count_row, count_rows, count_facts}
use Rattle.rules.proofs.Logic.{last_or_before}

-- sums of as many terms: by larger terms, by terms that sum to no more, and by a bound
sum : ℕ → (ℕ → ℕ) → ℕ
sum zero f = 0
sum (suc m) f = f m + sum m f

sum_most : (m : ℕ) (f g : ℕ → ℕ) → ((i : ℕ) → i < m → f i ≤ g i) → sum m f ≤ sum m g
unfolding sum
sum_most zero f g h = omega arith
sum_most (suc m) f g h = omega (arith, h m (omega arith), sum_most m f g (λ i b. h i (omega arith)))

sum_back : (m : ℕ) (f g : ℕ → ℕ) → ((i : ℕ) → i < m → f i ≤ g i) → sum m g ≤ sum m f → (i : ℕ) → i < m → g i ≤ f i
unfolding sum
sum_back zero f g h s i b = absurd (omega arith)
sum_back (suc m) f g h s i b =
    let last = h m (omega arith) in
    let before = sum_most m f g (λ k c. h k (omega arith)) in
    last_or_before i m b (λ e. rw e (omega arith)) (sum_back m f g (λ k c. h k (omega arith)) (omega arith) i)

sum_bound : (m b : ℕ) (f : ℕ → ℕ) → ((i : ℕ) → i < m → f i ≤ b) → sum m f ≤ m * b
unfolding sum
sum_bound zero b f h = omega arith
sum_bound (suc m) b f h = omega (arith, suc-mul m b, h m (omega arith), sum_bound m b f (λ i c. h i (omega arith)))

-- a test counts 1 or nothing
one : Bool → ℕ
one b = pick b 1 0

one_most : (a b : Bool) → (a ≡ true → b ≡ true) → one a ≤ one b
unfolding one pick
one_most true b h = rw (h refl) (omega arith)
one_most false b h = omega arith

one_back : (a b : Bool) → one b ≤ one a → b ≡ true → a ≡ true
unfolding one pick
one_back true b h p = refl
one_back false true h p = absurd (omega arith)
one_back false false h p = p

-- counts are sums
below_sum : (m : ℕ) (test : ℕ → Bool) → count_passing m test ≡ sum m (λ i. one (test i))
unfolding count_passing sum one
below_sum zero test = refl
below_sum (suc m) test = ap (λ k. pick (test m) 1 0 + k) (below_sum m test)

row_sum : (n : ℕ) (r : Relation) (kind : Kind) (i : ℕ) → count_row n r kind i ≡ sum n (λ j. one (r kind i j))
unfolding count_row
row_sum n r kind i = below_sum n (λ j. r kind i j)

rows_sum : (m n : ℕ) (r : Relation) (kind : Kind) → count_rows m n r kind ≡ sum m (count_row n r kind)
unfolding count_rows sum
rows_sum zero n r kind = refl
rows_sum (suc m) n r kind = ap (λ k. count_row n r kind m + k) (rows_sum m n r kind)

-- more facts are not fewer
module _ (n : ℕ) (r u : Relation) (within : Within r u) (kind : Kind) where
  row_most : (i : ℕ) → count_row n r kind i ≤ count_row n u kind i
  row_most i =
      rw (row_sum n r kind i, row_sum n u kind i)
      (sum_most n _ _ λ j h. one_most (r kind i j) (u kind i j) (within kind i j))

  pub count_most : count_facts n r kind ≤ count_facts n u kind
  unfolding count_facts
  count_most = rw (rows_sum n n r kind, rows_sum n n u kind) (sum_most n _ _ λ i h. row_most i)

  -- facts that are no fewer are the same
  row_back : (i j : ℕ) → count_row n u kind i ≤ count_row n r kind i → j < n → Holds u kind i j → Holds r kind i j
  row_back i j s g p =
      one_back (r kind i j) (u kind i j)
      (sum_back n _ _ (λ k h. one_most (r kind i k) (u kind i k) (within kind i k))
      (rw (row_sum n u kind i, row_sum n r kind i) at s) j g)
      p

  pub count_back : count_facts n u kind ≤ count_facts n r kind → (i j : ℕ) → i < n → j < n → Holds u kind i j
      → Holds r kind i j
  unfolding count_facts
  count_back s i j h g p =
      row_back i j
      (sum_back n _ _ (λ k b. row_most k) (rw (rows_sum n n u kind, rows_sum n n r kind) at s) i h) g p

-- there are at most n in a row, and n × n in all
row_bound : (n : ℕ) (r : Relation) (kind : Kind) (i : ℕ) → count_row n r kind i ≤ n
unfolding one
row_bound n r kind i =
    let most = sum_bound n 1 (λ j. one (r kind i j)) (λ j h. pick_most (r kind i j) 1) in
    rw (row_sum n r kind i) (omega arith)

pub count_bound : (n : ℕ) (r : Relation) (kind : Kind) → count_facts n r kind ≤ n * n
unfolding count_facts
count_bound n r kind = rw (rows_sum n n r kind) (sum_bound n n _ λ i h. row_bound n r kind i)
