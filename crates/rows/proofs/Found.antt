-- Whether there is a member, by both words at once.
use Prim.Native.Nat.{ℕ, ◌+◌, ◌-◌, ◌^◌, ◌<◌}
use borrow.Author.Tests.{eqb-true, eqb-false}
use lib.Bits.{bit_or}
use lib.Dec.{eqb}
use lib.ListN.{get_or}
use mathlib.Core.Bool.{not, true, false, true≢false}
use mathlib.Core.List.{List}
use mathlib.Core.Path.{◌≡◌, sym, ap, ◌∙◌}
use native.Mathlib.Omega.{arith}
use Rattle.std.specs.Int.{w64}
use Rattle.std.proofs.lemmas.Bool.{false_from_ne_true}
use Rattle.std.proofs.lemmas.Nat.{or_lt}
use Rattle.std.proofs.lemmas.Nat.Bits.{bit_at-trailing_zeros}
use Rattle.fields.specs.Tests.{has}
use Rattle.fields.proofs.Choice.{is_same}
use Rattle.rules.specs.Connectives.{◌or◌}
use Rattle.rules.proofs.Logic.{decided, either_of, either_first, either_second}
use Rattle.rows.specs.Rows.{has_some}
use Rattle.rows.proofs.Bits.{has_none, has_either}
use Rattle.rows.proofs.Words.{low, high, by_word, beyond}
use Rattle.rows.proofs.Members.{by_member, some_member}

-- a word that is not 0 has a bit
some_bit : {C : Type 0} (word : ℕ) → word < 2 ^ 64 → (word ≡ 0 → ⊥)
    → ((k : ℕ) → k < 64 → has (2 ^ k) word ≡ true → C) → C
unfolding has
some_bit word h other next =
    let least = bit_at-trailing_zeros w64 word (omega arith) h in
    next _ least.0 (is_same _ 1 least.1)

bit_shows : (row : List ℕ) (k : ℕ) → k < 64 → has (2 ^ k) (bit_or (get_or row 0 0) (get_or row 1 0)) ≡ true
    → has_some row ≡ true
bit_shows row k h p =
    let back : (64 + k) - 64 ≡ k = omega arith in
    either_of _ _ (sym (has_either k (get_or row 0 0) (get_or row 1 0)) ∙ p)
    (λ q. by_member row k (low row k h ∙ q))
    (λ q. by_member row (64 + k)
    (high row (64 + k) (omega arith) (omega arith) ∙ ap (λ x. has (2 ^ x) (get_or row 1 0)) back ∙ q))

-- a word that is 0 leaves no member
zero_shows : (row : List ℕ) → bit_or (get_or row 0 0) (get_or row 1 0) ≡ 0 → has_some row ≡ false
zero_shows row e =
    false_from_ne_true _ λ p. some_member row p λ j h m.
    by_word j
    (λ h. nothing j (either_first _ (sym (low row j h) ∙ m)))
    (λ h g. nothing (j - 64) (either_second _ (sym (high row j h g) ∙ m)))
    (λ h. true≢false (sym m ∙ beyond row j h))
  where
    nothing : (k : ℕ) → has (2 ^ k) (get_or row 0 0) or has (2 ^ k) (get_or row 1 0) ≡ true → ⊥
    nothing k p = true≢false (sym p ∙ sym (has_either k _ _) ∙ ap (has (2 ^ k)) e ∙ has_none k)

pub words_tested : (row : List ℕ) → get_or row 0 0 < 2 ^ 64 → get_or row 1 0 < 2 ^ 64
    → not (eqb (bit_or (get_or row 0 0) (get_or row 1 0)) 0) ≡ has_some row
words_tested row h g =
    let word = bit_or (get_or row 0 0) (get_or row 1 0) in
    decided (eqb word 0) (λ e. rw e (sym (zero_shows row (eqb-true word 0 e))))
    (λ e. rw e (sym (some_bit word (or_lt 64 _ _ h g) (eqb-false word 0 e) (bit_shows row))))
