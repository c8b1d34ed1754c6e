-- Text in parts.
use Prim.Native.Nat.{ℕ}
use lib.ListN.{drop}
use mathlib.Core.List.{List, [], ◌∷◌, ◌++◌}
use mathlib.Core.Path.{◌≡◌, refl, ap, subst}
use Rattle.std.specs.List.{All}
use Rattle.std.proofs.lemmas.List.Elements.{All-head, All-tail}

-- equal texts, each of bytes that are P with a byte behind them that is not, are equal part by part
module _ (P : ℕ → Type 0) (c d : ℕ) (x y : List ℕ) (other : ¬ (P c)) (other' : ¬ (P d)) where
  pub same_parts : (ds es : List ℕ) → All P ds → All P es → ds ++ c ∷ x ≡ es ++ d ∷ y → (ds ≡ es) × (c ∷ x ≡ d ∷ y)
  same_parts [] [] all all' e = (refl, e)
  same_parts [] (b ∷ es) all all' e = absurd (other (subst P (cc) (All-head P b es all')))
  same_parts (a ∷ ds) [] all all' e = absurd (other' (subst P (cc) (All-head P a ds all)))
  same_parts (a ∷ ds) (b ∷ es) all all' e =
      let rest = same_parts ds es (All-tail P a ds all) (All-tail P b es all') (ap (drop 1) e) in
      let front : a ∷ ds ≡ b ∷ es = cc rest.0 in
      (front, rest.1)
