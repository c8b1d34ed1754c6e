-- Searches and counts among the elements of a list, and among the numbers below n.
use Prim.Native.Nat.{ℕ, zero, suc, ◌+◌, ◌<◌}
use lib.ListN.{length, get_or}
use mathlib.Core.Bool.{Bool, true, false, cond}
use mathlib.Core.List.{List}
use mathlib.Core.Path.{◌≡◌, refl, sym, ap, ap₂, ◌∙◌}
use native.Mathlib.Omega.{arith}
use Rattle.std.specs.List.{list_any, count_by, sum_by, range_with_len}
use Rattle.std.proofs.lemmas.List.{get_or_default}
use Rattle.std.proofs.lemmas.List.Folds.{Any-from_list_any, list_any_at}
use Rattle.std.proofs.lemmas.List.FromFn.{length-range_with_len, get_or-range_with_len, sum_by-map-range_with_len_more}
use Rattle.std.proofs.lemmas.List.Sums.{sum-map}
use Rattle.fields.specs.Tests.{pick}
use Rattle.rules.specs.Connectives.{◌or◌}
use Rattle.rules.specs.Stated.{any_below}
use Rattle.rules.specs.declared.kinds.Kind.{Kind}
use Rattle.rules.specs.Facts.{Relation}
use Rattle.rules.specs.Tables.{count_passing, count_row, count_rows}
use Rattle.rules.proofs.Logic.{same_tests}
use Rattle.rules.proofs.Some.{below_by, below_one}

-- an element of the list that passes
pub passing_at : {A : Type 0} {C : Type 0} (test : A → Bool) (xs : List A) (d : A) → list_any test xs ≡ true
    → ((k : ℕ) → k < length xs → test (get_or xs k d) ≡ true → C) → C
passing_at test xs d p next =
    let a = Any-from_list_any test xs p in
    next a.0 a.2 (ap test (get_or_default xs a.0 d a.1 a.2 ∙ a.3) ∙ a.4)

-- the numbers below n
pub any_in_range : (test : ℕ → Bool) (n : ℕ) → list_any test (range_with_len 0 n) ≡ any_below n test
any_in_range test n =
    let size = length-range_with_len 0 n in
    same_tests _ _
    (λ p. passing_at test (range_with_len 0 n) 0 p λ k h q.
    let here = get_or-range_with_len 0 n k 0 (omega arith) in
    below_by test n k (omega arith) (ap test (omega arith) ∙ q))
    (λ p. below_one n test p λ k h q.
    list_any_at test (range_with_len 0 n) k 0 (omega arith)
    (ap test (get_or-range_with_len 0 n k 0 h ∙ omega arith) ∙ q))

pub same_below : (n : ℕ) (test test' : ℕ → Bool) → ((k : ℕ) → k < n → test k ≡ test' k)
    → any_below n test ≡ any_below n test'
unfolding any_below
same_below zero test test' e = refl
same_below (suc m) test test' e = ap₂ ◌or◌ (e m (omega arith)) (same_below m test test' λ k h. e k (omega arith))

picked : (b : Bool) → ◌≡◌ {A = ℕ} (cond b 1 0) (pick b 1 0)
unfolding pick
picked true = refl
picked false = refl

-- how many pass
pub counted : (test : ℕ → Bool) (n : ℕ) → count_by test (range_with_len 0 n) ≡ count_passing n test
unfolding count_passing
counted test zero = refl
counted test (suc n) =
    let one : ℕ → ℕ = λ k. cond (test k) 1 0 in
    let last : n + 1 ≡ suc n = omega arith in
    let more : count_by test (range_with_len 0 (n + 1)) ≡ count_by test (range_with_len 0 n) + cond (test n) 1 0 =
    sym (sum-map one (range_with_len 0 (n + 1))) ∙ sum_by-map-range_with_len_more (λ x. x) one 0 n n (omega arith)
    ∙ ap (λ k. k + one n) (sum-map one (range_with_len 0 n)) in
    let here = rw last at more in
    omega (arith, here, counted test n, picked (test n))

-- the rows below m, each by its count
pub rows_counted : (m n : ℕ) (r : Relation) (kind : Kind)
    → sum_by (count_row n r kind) (range_with_len 0 m) ≡ count_rows m n r kind
unfolding count_rows
rows_counted zero n r kind = refl
rows_counted (suc m) n r kind =
    let row = count_row n r kind in
    let last : m + 1 ≡ suc m = omega arith in
    let more : sum_by row (range_with_len 0 (m + 1)) ≡ sum_by row (range_with_len 0 m) + row m =
    sym (sum-map row (range_with_len 0 (m + 1))) ∙ sum_by-map-range_with_len_more (λ x. x) row 0 m m (omega arith)
    ∙ ap (λ k. k + row m) (sum-map row (range_with_len 0 m)) in
    let here = rw last at more in
    omega (arith, here, rows_counted m n r kind)
