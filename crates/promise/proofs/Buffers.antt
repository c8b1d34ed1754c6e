-- What an accepted call leaves in the lent buffers, beside what it tells there: bytes beyond the table and the replies,
-- and the second table.
use Prim.Native.Nat.{ℕ}
use lib.ListN.{replicate, drop, length-replicate}
use mathlib.Core.List.{List, ◌++◌}
use mathlib.Core.Path.{◌≡◌, refl}
use native.Mathlib.Omega.{arith}
use Rattle.std.proofs.lemmas.Slice.{drop-append-drop}
use Rattle.sheet.specs.Headers.{size_for}
use Rattle.sheet.specs.Sheets.{sheet_of}
use Rattle.rules.proofs.Tables.{table_length}
use Rattle.outcomes.specs.Outcomes.{kind_in}
use Rattle.promise.specs.Checks.{where_consistent, Returned}
use Rattle.promise.specs.Promise.{IsAccepted}
use Rattle.promise.proofs.Shown.{read, by_case}

module _ {b facts work replies facts' work' replies' : List ℕ} {r : ℕ}
    (returned : Returned b facts work replies facts' work' replies' r) where
  -- behind the table of its size the first buffer is as it was
  pub beyond_table : IsAccepted (read returned)
      → drop (size_for (sheet_of b).n) facts' ≡ drop (size_for (sheet_of b).n) facts
  beyond_table (a, e) =
      rw (returned.buffers.facts_are, e)
      (drop-append-drop _ facts _ _ (omega (arith, table_length (sheet_of b).n)) refl)

  -- the second table is zeros where the sheet is consistent
  pub second_cleared : kind_in r ≡ 0
      → work' ≡ replicate (size_for (sheet_of b).n) 0 ++ drop (size_for (sheet_of b).n) work
  unfolding where_consistent
  second_cleared kind =
      by_case returned (λ q e k. absurd (omega arith))
      (λ a e is k. rw (returned.buffers.work_is, e, is) (simp length-replicate))
      (λ a clash e is k. absurd (omega arith))

  -- on a clash it is as it was, and so is the reply buffer
  pub clash_leaves : kind_in r ≡ 1 → (work' ≡ work) × (replies' ≡ replies)
  unfolding where_consistent
  clash_leaves kind =
      by_case returned (λ q e k. absurd (omega arith)) (λ a e is k. absurd (omega arith))
      (λ a clash e is k. (rw (returned.buffers.work_is, e, is) refl, rw (returned.buffers.replies_are, e, is) refl))
