-- Two cells joined say what either says; a cell is one of four.
use Prim.Native.Nat.{ℕ, zero, suc, ◌<◌}
use lib.Bits.{bit_or}
use mathlib.Core.Bool.{true, false}
use mathlib.Core.Path.{◌≡◌, refl, sym, ap, ◌∙◌}
use native.Mathlib.Omega.{arith}
use Rattle.std.proofs.lemmas.Bool.{both_ways}
use Rattle.std.proofs.lemmas.Nat.{or_lt}
use Rattle.fields.specs.Tests.{less, same}
use Rattle.rules.specs.Connectives.{◌or◌}
use Rattle.rules.specs.declared.kinds.Kind.{Kind}
use Rattle.rules.specs.Tables.{says}
use Rattle.rules.proofs.Cells.{same_cell}
use Rattle.rules.proofs.Logic.{decided, either_first, either_second, either_of, same_tests}

-- by cases: a cell is 0, 1, 2 or 3
pub cell_cases : (P : ℕ → Type 0) → P 0 → P 1 → P 2 → P 3 → (cell : ℕ) → cell < 4 → P cell
cell_cases P a b c d zero h = a
cell_cases P a b c d (suc zero) h = b
cell_cases P a b c d (suc (suc zero)) h = c
cell_cases P a b c d (suc (suc (suc zero))) h = d
cell_cases P a b c d (suc (suc (suc (suc cell)))) h = absurd (omega arith)

Joins : Kind → ℕ → ℕ → Type 0
Joins kind c w = says kind (bit_or c w) ≡ says kind c or says kind w

pub joined_says : (kind : Kind) (c w : ℕ) → c < 4 → w < 4 → says kind (bit_or c w) ≡ says kind c or says kind w
unfolding says same less ◌or◌ Joins
joined_says Kind.Ordered c w h g =
    cell_cases (λ x. Joins Kind.Ordered x w)
    (cell_cases (Joins Kind.Ordered 0) refl refl refl refl w g)
    (cell_cases (Joins Kind.Ordered 1) refl refl refl refl w g)
    (cell_cases (Joins Kind.Ordered 2) refl refl refl refl w g)
    (cell_cases (Joins Kind.Ordered 3) refl refl refl refl w g) c h
joined_says Kind.Compatible c w h g =
    cell_cases (λ x. Joins Kind.Compatible x w)
    (cell_cases (Joins Kind.Compatible 0) refl refl refl refl w g)
    (cell_cases (Joins Kind.Compatible 1) refl refl refl refl w g)
    (cell_cases (Joins Kind.Compatible 2) refl refl refl refl w g)
    (cell_cases (Joins Kind.Compatible 3) refl refl refl refl w g)
    c h

-- a cell that a join leaves as it is says all that the other says, and one that it changes lacked something
pub says_already : (kind : Kind) (c w : ℕ) → c < 4 → w < 4 → bit_or c w ≡ c → says kind w ≡ true → says kind c ≡ true
says_already kind c w h g e p =
    sym (ap (says kind) e) ∙ joined_says kind c w h g ∙ either_second (says kind c) p

module _ {C : Type 0} (c w : ℕ) (h : c < 4) (g : w < 4) (next : (kind : Kind) → says kind w ≡ true
    → says kind c ≡ false → C) where
  said_or : (kind : Kind) → ((says kind w ≡ true → says kind c ≡ true) → C) → C
  said_or kind later =
      decided (says kind c) (λ p. later (λ q. p))
      (λ p. decided (says kind w) (λ q. next kind q p) (λ q. later (λ z. absurd (both_ways _ q z))))

  same_said : (kind : Kind) → (says kind w ≡ true → says kind c ≡ true) → says kind (bit_or c w) ≡ says kind c
  same_said kind more =
      joined_says kind c w h g
      ∙ same_tests _ _ (λ p. either_of (says kind c) (says kind w) p (λ z. z) more) (λ p. either_first (says kind w) p)

  pub gains : (bit_or c w ≡ c → ⊥) → C
  gains changed =
      said_or Kind.Ordered λ more. said_or Kind.Compatible λ too.
      absurd (changed (same_cell (bit_or c w) c (or_lt 2 c w h g) h λ kind. same_said kind (of kind more too)))
    where
      of : (kind : Kind) → (says Kind.Ordered w ≡ true → says Kind.Ordered c ≡ true)
          → (says Kind.Compatible w ≡ true → says Kind.Compatible c ≡ true) → says kind w ≡ true → says kind c ≡ true
      of Kind.Ordered a b = a
      of Kind.Compatible a b = b
