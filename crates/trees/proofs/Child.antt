-- One child more (Lemma 7): the facts of a new variable z with i[f]z, by clauses 4.1 to 4.5.
use Prim.Native.Nat.{ℕ, ◌<◌}
use mathlib.Core.Bool.{Bool, true, false}
use mathlib.Core.List.Memᴰ
use mathlib.Core.List.{List, ◌∷◌}
use mathlib.Core.Path.{◌≡◌, refl, sym, ◌∙◌}
use native.Mathlib.Omega.{arith}
use Rattle.fields.specs.Tests.{same}
use Rattle.fields.proofs.Choice.{is_same, not_same}
use Rattle.items.specs.declared.items.Statement.{Statement}
use Rattle.rules.specs.Connectives.{◌and◌, ◌or◌}
use Rattle.rules.specs.declared.kinds.Kind.{Kind}
use Rattle.rules.specs.Facts.{Relation, Holds}
use Rattle.rules.specs.Stated.{selection, labelling, Stated, some_selection}
use Rattle.rules.specs.Support.{under_child, over_child}
use Rattle.rules.proofs.Logic.{either_first, either_second, either_of}
use Rattle.rules.proofs.Some.{by_selection_at, one_selection_at}
use Rattle.trees.proofs.Structures.{same_selection, is_selection}

-- the new variable is the number n
abbrev pub with_selection : ℕ → List Statement → ℕ → ℕ → List Statement
with_selection n st i f = selection i f n ∷ st

module _ (st : List Statement) (r : Relation) (i f : ℕ) where
  -- z ~ x: by 4.4 where some k[f]m has i ≤ k and m ~ x, by 4.5 where some k[f]m has k ~ i and x ≤ m
  unfoldable pub compatible_child : ℕ → Bool
  compatible_child x =
      (some_selection st λ k g m. same f g and (r Kind.Ordered i k and r Kind.Compatible m x))
      or (some_selection st λ k g m. same f g and (r Kind.Compatible k i and r Kind.Ordered x m))

  -- the facts of x and y, told whether each of them is z: 4.2 for x ≤ z, 4.3 for z ≤ y, 4.1 for z and itself
  abbrev pub between : Kind → Bool → Bool → ℕ → ℕ → Bool
  between kind false false x y = r kind x y
  between Kind.Ordered false true x y = under_child st r i f x
  between Kind.Ordered true false x y = over_child st r i f y
  between Kind.Compatible false true x y = compatible_child x
  between Kind.Compatible true false x y = compatible_child y
  between kind true true x y = true

unfoldable pub with_child : ℕ → List Statement → Relation → ℕ → ℕ → Relation
with_child n st r i f kind x y = between st r i f kind (same x n) (same y n) x y

module _ {st : List Statement} (r : Relation) {i f : ℕ} where
  -- 4.4 and 4.5 by a selection, and the selection from them
  pub compatible_over : {k m x : ℕ} → Stated st (selection k f m) → Holds r Kind.Ordered i k
      → Holds r Kind.Compatible m x
      → compatible_child st r i f x ≡ true
  unfolding compatible_child
  compatible_over s p q = either_first _ (by_selection_at f _ _ s p q)

  pub compatible_under : {k m x : ℕ} → Stated st (selection k f m) → Holds r Kind.Compatible k i
      → Holds r Kind.Ordered x m
      → compatible_child st r i f x ≡ true
  unfolding compatible_child
  compatible_under s p q = either_second _ (by_selection_at f _ _ s p q)

module _ (st : List Statement) (r : Relation) (i f : ℕ) where
  pub compatible_of : {C : Type 0} (x : ℕ) → compatible_child st r i f x ≡ true
      → ((k m : ℕ) → Stated st (selection k f m) → Holds r Kind.Ordered i k → Holds r Kind.Compatible m x → C)
      → ((k m : ℕ) → Stated st (selection k f m) → Holds r Kind.Compatible k i → Holds r Kind.Ordered x m → C) → C
  unfolding compatible_child
  compatible_of x p over under =
      either_of _ _ p (λ q. one_selection_at st f _ _ q over) (λ q. one_selection_at st f _ _ q under)

module _ (n : ℕ) (st : List Statement) (r : Relation) (i f : ℕ) where
  abbrev more : Relation
  more = with_child n st r i f

  pub is_old : {x : ℕ} → x < n → same x n ≡ false
  is_old {x} h = not_same x n (λ e. omega arith)

  -- two old variables have their old facts
  pub old_pair : (kind : Kind) (x y : ℕ) → x < n → y < n → more kind x y ≡ r kind x y
  unfolding with_child
  old_pair Kind.Ordered x y h k = rw (is_old h, is_old k) refl
  old_pair Kind.Compatible x y h k = rw (is_old h, is_old k) refl

  pub to_more : (kind : Kind) {x y : ℕ} → x < n → y < n → Holds r kind x y → Holds more kind x y
  to_more kind {x} {y} h k p = old_pair kind x y h k ∙ p

  pub from_more : (kind : Kind) {x y : ℕ} → x < n → y < n → Holds more kind x y → Holds r kind x y
  from_more kind {x} {y} h k p = sym (old_pair kind x y h k) ∙ p

  -- the new variable and an old one
  pub below_new : (x : ℕ) → x < n → more Kind.Ordered x n ≡ under_child st r i f x
  unfolding with_child
  below_new x h = rw (is_old h, is_same n n refl) refl

  pub new_below : (x : ℕ) → x < n → more Kind.Ordered n x ≡ over_child st r i f x
  unfolding with_child
  new_below x h = rw (is_old h, is_same n n refl) refl

  pub new_compatible : (x : ℕ) → x < n → more Kind.Compatible n x ≡ compatible_child st r i f x
  unfolding with_child
  new_compatible x h = rw (is_old h, is_same n n refl) refl

  -- a selection is the new one or an old one, a label is old
  pub data From (x g y : ℕ) : Type 0 where
    new : x ≡ i → g ≡ f → y ≡ n → From x g y
    old : Stated st (selection x g y) → From x g y

  pub selection_from : (x g y : ℕ) → Stated (with_selection n st i f) (selection x g y) → From x g y
  selection_from x g y (Memᴰ.head e) = same_selection e (λ ex eg ey. new ex eg ey)
  selection_from x g y (Memᴰ.tail s) = old s

  pub label_stays : {x a : ℕ} → Stated (with_selection n st i f) (labelling x a) → Stated st (labelling x a)
  label_stays (Memᴰ.head e) = absurd (is_selection e)
  label_stays (Memᴰ.tail s) = s
