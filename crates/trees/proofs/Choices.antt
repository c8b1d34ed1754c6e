-- A choice of three by two tests: where what each says excludes the others, each is chosen exactly when it is true.
use mathlib.Core.Bool.{Bool, true, false}
use mathlib.Core.Logic.{◌↔◌}
use mathlib.Core.Path.{◌≡◌, refl, sym}
use Rattle.fields.specs.Tests.{pick}

-- x, y and z, which differ, mean P, Q and R
pub record Three {A : Type 0} (x y z : A) (P Q R : Type 0) : Type 0 where
  pub x_y : x ≡ y → ⊥
  pub x_z : x ≡ z → ⊥
  pub y_z : y ≡ z → ⊥
  pub P-Q : P → Q → ⊥
  pub P-R : P → R → ⊥
  pub Q-R : Q → R → ⊥

-- c is chosen
pub record Chosen {A : Type 0} (x y z : A) (P Q R : Type 0) (c : A) : Type 0 where
  pub first : (c ≡ x) ↔ P
  pub second : (c ≡ y) ↔ Q
  pub third : (c ≡ z) ↔ R

pub chosen_exactly : {A : Type 0} {x y z : A} {P Q R : Type 0} → Three x y z P Q R → (a b : Bool)
    → (a ≡ true → P) → (a ≡ false → b ≡ true → Q) → (a ≡ false → b ≡ false → R)
    → Chosen x y z P Q R (pick a x (pick b y z))
unfolding pick
chosen_exactly t true b p q r =
    record {
      first = ((λ e. p refl), (λ h. refl));
      second = ((λ e. absurd (t.x_y e)), (λ h. absurd (t.P-Q (p refl) h)));
      third = ((λ e. absurd (t.x_z e)), (λ h. absurd (t.P-R (p refl) h)));
    }
chosen_exactly t false true p q r =
    record {
      first = ((λ e. absurd (t.x_y (sym e))), (λ h. absurd (t.P-Q h (q refl refl))));
      second = ((λ e. q refl refl), (λ h. refl));
      third = ((λ e. absurd (t.y_z e)), (λ h. absurd (t.Q-R (q refl refl) h)));
    }
chosen_exactly t false false p q r =
    record {
      first = ((λ e. absurd (t.x_z (sym e))), (λ h. absurd (t.P-R h (r refl refl))));
      second = ((λ e. absurd (t.y_z (sym e))), (λ h. absurd (t.Q-R h (r refl refl))));
      third = ((λ e. r refl refl), (λ h. refl));
    }
