-- Laws of the members of rows.
use Prim.Native.Nat.{ℕ, ◌<◌}
use mathlib.Core.Bool.{true, false, true≢false}
use mathlib.Core.List.{List}
use mathlib.Core.Path.{◌≡◌, refl, sym, ◌∙◌}
use Rattle.std.proofs.lemmas.Bool.{false_from_ne_true}
use Rattle.fields.specs.Limits.{most_variables}
use Rattle.fields.specs.Tests.{same}
use Rattle.fields.proofs.Choice.{less_true, is_same, same_true}
use Rattle.rules.specs.Connectives.{◌or◌}
use Rattle.rules.proofs.Logic.{first_of_and, either_first, either_second, either_of}
use Rattle.rules.proofs.Some.{below_by, below_one}
use Rattle.rows.specs.Rows.{in_row, has_some, Members}

pub member_below : (row : List ℕ) (j : ℕ) → in_row row j ≡ true → j < most_variables
unfolding in_row
member_below row j p = less_true j most_variables (first_of_and _ _ p)

-- whether there is a member: shown by one, and used by taking one, or by there being none
pub by_member : (row : List ℕ) (j : ℕ) → in_row row j ≡ true → has_some row ≡ true
unfolding has_some
by_member row j p = below_by (in_row row) most_variables j (member_below row j p) p

pub some_member : {C : Type 0} (row : List ℕ) → has_some row ≡ true
    → ((j : ℕ) → j < most_variables → in_row row j ≡ true → C) → C
unfolding has_some
some_member row p next = below_one most_variables (in_row row) p next

pub no_member : (row : List ℕ) → has_some row ≡ false → (j : ℕ) → in_row row j ≡ false
no_member row e j = false_from_ne_true _ λ p. true≢false (sym (by_member row j p) ∙ e)

-- a row with j too: it has j, has what the row had, and nothing else
module _ {row : List ℕ} (r : List ℕ) (j : ℕ) (grown : Members row (λ k. in_row r k or same k j)) where
  pub grown_has : in_row row j ≡ true
  grown_has = grown.bits j ∙ either_second _ (is_same j j refl)

  pub grown_keeps : (k : ℕ) → in_row r k ≡ true → in_row row k ≡ true
  grown_keeps k p = grown.bits k ∙ either_first _ p

  pub grown_only : {C : Type 0} (k : ℕ) → in_row row k ≡ true → (in_row r k ≡ true → C) → (k ≡ j → C) → C
  grown_only k p old new = either_of _ _ (sym (grown.bits k) ∙ p) old (λ q. new (same_true k j q))
