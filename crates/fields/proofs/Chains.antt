-- A chain of fields, one field off: what holds of every refusal and of what follows each field holds of the chain.
use mathlib.Core.Bool.{Bool, true, false}
use mathlib.Core.Path.{◌≡◌, refl, subst}
use Rattle.std.specs.Prelude.{Result, Ok, Err}
use Rattle.fields.specs.declared.numbers.Cursor.{Cursor}
use Rattle.fields.specs.declared.refusals.Refusal.{Refusal}
use Rattle.fields.specs.Fields.{Read, found, then_value, then_field}
use Rattle.fields.specs.Tests.{pick}

-- a property of an answer, shut, so that a chain is found in it
pub record Of {A : Type 0} (P : A → Type 0) (answer : A) : Type 0 where
  pub holds : P answer

module _ {A : Type 0} {P : A → Type 0} where
  pub told : {answer x : A} → Of P answer → answer ≡ x → P x
  told h e = subst P e h.holds

  -- with the equation at hand
  pub known : {answer : A} → Of P answer → Of (λ x. (answer ≡ x) × P x) answer
  known h = record { holds = (refl, h.holds) }

  pub either : (b : Bool) (x y : A) → (b ≡ true → Of P x) → (b ≡ false → Of P y) → Of P (pick b x y)
  unfolding pick
  either true x y p q = p refl
  either false x y p q = q refl

-- Q is what is known of the answer, P what is to be shown
module _ {A : Type 0} {P : A → Type 0} {refused : Refusal → A} where
  pub after_value : {T : Type 0} {Q : Result T Refusal → Type 0} {r : Result T Refusal} {next : T → A} → Of Q r
      → ((q : Refusal) → Q (Err q) → Of P (refused q))
      → ((x : T) → Q (Ok x) → Of P (next x)) → Of P (then_value r refused next)
  after_value {r = (Ok x)} h stop go = go x h.holds
  after_value {r = (Err q)} h stop go = stop q h.holds

  pub after_field : {T : Type 0} {Q : Read T → Type 0} {r : Read T} {next : T → Cursor → A} → Of Q r
      → ((q : Refusal) → Q (Err q) → Of P (refused q))
      → ((v : T) (c : Cursor) → Q (found v c) → Of P (next v c)) → Of P (then_field r refused next)
  after_field {r = (Ok f)} h stop go = go f.value f.next h.holds
  after_field {r = (Err q)} h stop go = stop q h.holds

-- the same of an answer that nothing follows
pub as_value : {T : Type 0} {P Q : Result T Refusal → Type 0} {r : Result T Refusal} → Of Q r
    → ((q : Refusal) → Q (Err q) → P (Err q))
    → ((x : T) → Q (Ok x) → P (Ok x)) → Of P r
as_value {r = (Ok x)} h stop go = record { holds = go x h.holds }
as_value {r = (Err q)} h stop go = record { holds = stop q h.holds }

-- what follows a chain follows its last field
pub then_on : {T U A : Type 0} (r : Read T) (next : T → Cursor → Read U) (refused : Refusal → A) (after : U → Cursor → A)
    → then_field (then_field r Err next) refused after ≡ then_field r refused λ v c. then_field (next v c) refused after
then_on (Ok f) next refused after = refl
then_on (Err q) next refused after = refl
