-- Rows word by word.
use Prim.Native.Nat.{ℕ, ◌-◌, ◌*◌, ◌/◌, ◌%◌, ◌^◌, ◌<◌, ◌≤◌}
use lib.Bits.{bit_or, bit_and}
use lib.Dec.{eqb}
use lib.ListN.{get_or}
use mathlib.Core.Bool.{Bool, false}
use mathlib.Core.List.{List, [], ◌∷◌}
use mathlib.Core.Path.{◌≡◌, refl, sym, ap₂, ◌∙◌}
use native.Mathlib.Omega.{arith}
use Rattle.std.proofs.lemmas.Nat.{one_shl}
use Rattle.std.proofs.lemmas.Nat.Bits.{shr_and_one}
use Rattle.fields.specs.Limits.{most_variables}
use Rattle.fields.specs.Tests.{less, same, has}
use Rattle.fields.proofs.Choice.{is_less, not_less, is_same, not_same, less_true, less_false, same_true}
use Rattle.rules.specs.Connectives.{◌and◌, ◌or◌}
use Rattle.rules.proofs.Logic.{decided, same_tests}
use Rattle.rows.specs.Rows.{in_row, Members}
use Rattle.rows.proofs.Bits.{has_none, has_power, has_either}

-- what a row has below 64, from there on, and beyond its words
pub low : (row : List ℕ) (j : ℕ) → j < 64 → in_row row j ≡ has (2 ^ j) (get_or row 0 0)
unfolding in_row ◌and◌
low row j h =
    let word : j / 64 ≡ 0 = omega arith in
    let bit : j % 64 ≡ j = omega arith in
    rw (is_less j most_variables (omega arith), word, bit) refl

pub high : (row : List ℕ) (j : ℕ) → 64 ≤ j → j < most_variables → in_row row j ≡ has (2 ^ (j - 64)) (get_or row 1 0)
unfolding in_row ◌and◌
high row j h g =
    let word : j / 64 ≡ 1 = omega arith in
    let bit : j % 64 ≡ j - 64 = omega arith in
    rw (is_less j most_variables g, word, bit) refl

pub beyond : (row : List ℕ) (j : ℕ) → most_variables ≤ j → in_row row j ≡ false
unfolding in_row ◌and◌
beyond row j h = rw (not_less j most_variables h) refl

pub by_word : {C : Type 0} (j : ℕ) → (j < 64 → C) → (64 ≤ j → j < most_variables → C) → (most_variables ≤ j → C) → C
by_word j first second behind =
    decided (less j 64) (λ e. first (less_true j 64 e)) λ e.
    decided (less j most_variables) (λ g. second (less_false j 64 e) (less_true j most_variables g)) λ g.
    behind (less_false j most_variables g)

members : (row : List ℕ) (test : ℕ → Bool) → ((j : ℕ) → j < 64 → has (2 ^ j) (get_or row 0 0) ≡ test j)
    → ((j : ℕ) → 64 ≤ j → j < most_variables → has (2 ^ (j - 64)) (get_or row 1 0) ≡ test j)
    → ((j : ℕ) → most_variables ≤ j → test j ≡ false) → Members row test
members row test first second behind =
    record {
      bits = λ j.
          by_word j (λ h. low row j h ∙ first j h) (λ h g. high row j h g ∙ second j h g)
          (λ h. beyond row j h ∙ sym (behind j h));
    }

-- what each function makes
pub no_members : Members (0 ∷ 0 ∷ []) (λ j. false)
no_members = members _ _ (λ j h. has_none j) (λ j h g. has_none (j - 64)) (λ j h. refl)

pub one_low : (j : ℕ) → j < 64 → Members (1 * 2 ^ j % 2 ^ 64 ∷ 0 ∷ []) (λ k. same k j)
one_low j h =
    rw (one_shl j 64 h)
    (members _ _ (λ k g. has_power k j) (λ k g l. has_none (k - 64) ∙ sym (not_same k j (λ e. omega arith)))
    (λ k g. not_same k j (λ e. omega arith)))

pub one_high : (j : ℕ) → 64 ≤ j → j < most_variables → Members (0 ∷ 1 * 2 ^ (j - 64) % 2 ^ 64 ∷ []) (λ k. same k j)
one_high j h g =
    let within : j - 64 < 64 = omega arith in
    rw (one_shl (j - 64) 64 within)
    (members _ _ (λ k l. has_none k ∙ sym (not_same k j (λ e. omega arith)))
    (λ k l m. has_power (k - 64) (j - 64)
    ∙ same_tests _ _ (λ p. let e = same_true _ _ p in is_same k j (omega arith))
    (λ p. let e = same_true k j p in is_same _ _ (omega arith)))
    (λ k l. not_same k j (λ e. omega arith)))

pub joined : (r s : List ℕ)
    → Members (bit_or (get_or r 0 0) (get_or s 0 0) ∷ bit_or (get_or r 1 0) (get_or s 1 0) ∷ [])
    (λ j. in_row r j or in_row s j)
unfolding ◌or◌
joined r s =
    members _ _ (λ j h. has_either j _ _ ∙ sym (ap₂ ◌or◌ (low r j h) (low s j h)))
    (λ j h g. has_either (j - 64) _ _ ∙ sym (ap₂ ◌or◌ (high r j h g) (high s j h g)))
    (λ j h. ap₂ ◌or◌ (beyond r j h) (beyond s j h))

pub bit_tested : (row : List ℕ) (j word : ℕ) → j < most_variables → j / 64 ≡ word
    → eqb (bit_and (get_or row word 0 / 2 ^ (j % 64)) 1) 1 ≡ in_row row j
unfolding in_row ◌and◌ has same
bit_tested row j word h e = rw (is_less j most_variables h, e, shr_and_one (get_or row word 0) (j % 64)) refl
