-- The first label whose subject passes a test: it is stated, and where one is stated there is one.
use Prim.Native.Nat.{ℕ}
use mathlib.Core.Bool.{Bool, true, false}
use mathlib.Core.List.Memᴰ
use mathlib.Core.List.{List, [], ◌∷◌}
use mathlib.Core.Option.{Option, some, none-ne-some, some-injective}
use mathlib.Core.Path.{◌≡◌, refl, sym, ap, subst, ◌∙◌}
use Rattle.fields.specs.Tests.{pick}
use Rattle.fields.proofs.Choice.{chosen, passed}
use Rattle.items.specs.declared.items.Statement.{Statement}
use Rattle.rules.specs.Stated.{labelling, Stated, first_label}
use Rattle.rules.proofs.Logic.{decided}

by_choice : {C : Type 0} (b : Bool) (a c : ℕ) (x : Option ℕ) → pick b (some c) x ≡ some a
    → (b ≡ true → c ≡ a → C) → (x ≡ some a → C) → C
unfolding pick
by_choice true a c x e here there = here refl (some-injective c a e)
by_choice false a c x e here there = there e

module _ (test : ℕ → Bool) where
  pub first_from : {C : Type 0} {a : ℕ} (st : List Statement) → first_label st test ≡ some a
      → ((k : ℕ) → Stated st (labelling k a) → test k ≡ true → C) → C
  unfolding first_label
  first_from {C} {a} [] e next = absurd (none-ne-some a e)
  first_from (Statement.Ordering i j ∷ st) e next = first_from st e (λ k s. next k (Memᴰ.tail s))
  first_from (Statement.Compatibility i j ∷ st) e next = first_from st e (λ k s. next k (Memᴰ.tail s))
  first_from (Statement.Selection i f j ∷ st) e next = first_from st e (λ k s. next k (Memᴰ.tail s))
  first_from {C} {a} (Statement.Labelling i b ∷ st) e next =
      by_choice (test i.0) a b.0 (first_label st test) e
      (λ p same_label. next i.0 (Memᴰ.head (ap (labelling i.0) (sym same_label))) p)
      (λ d. first_from st d (λ k s. next k (Memᴰ.tail s)))

  pub first_found : {C : Type 0} {k a : ℕ} (st : List Statement) → Stated st (labelling k a) → test k ≡ true
      → ((b : ℕ) → first_label st test ≡ some b → C) → C
  unfolding first_label
  first_found [] m p next = elim m [ ]
  first_found {C} {k} {a} (x ∷ st) (Memᴰ.head e) p next =
      next a (subst (λ y. first_label (y ∷ st) test ≡ some a) e (sym (chosen (test k) _ _ p refl)))
  first_found (Statement.Ordering i j ∷ st) (Memᴰ.tail s) p next = first_found st s p next
  first_found (Statement.Compatibility i j ∷ st) (Memᴰ.tail s) p next = first_found st s p next
  first_found (Statement.Selection i f j ∷ st) (Memᴰ.tail s) p next = first_found st s p next
  first_found (Statement.Labelling i b ∷ st) (Memᴰ.tail s) p next =
      decided (test i.0) (λ q. next b.0 (sym (chosen (test i.0) _ _ q refl)))
      (λ q. first_found st s p (λ c d. next c (sym (passed (test i.0) _ _ q refl) ∙ d)))
