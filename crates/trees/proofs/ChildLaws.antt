-- A closed structure with one child more is closed (Lemma 7).
use Prim.Native.Nat.{ℕ, suc, ◌<◌}
use mathlib.Core.Bool.{Bool, true, false}
use mathlib.Core.List.Memᴰ
use mathlib.Core.List.{List}
use mathlib.Core.Logic.{◌⊎◌, inl, inr, ⊎_elim}
use mathlib.Core.Path.{◌≡◌, refl, sym, subst, ◌∙◌}
use native.Mathlib.Omega.{arith}
use Rattle.fields.specs.Tests.{same}
use Rattle.fields.proofs.Choice.{same_true}
use Rattle.items.specs.declared.items.Statement.{Statement}
use Rattle.rules.specs.declared.kinds.Kind.{Kind}
use Rattle.rules.specs.Facts.{fact, Relation, Holds, Closed}
use Rattle.rules.specs.Stated.{selection, labelling, Stated}
use Rattle.rules.proofs.Supported.{under_by, over_by, under_of, over_of}
use Rattle.rules.proofs.Lists.{named, named_fact, all_name_more}
use Rattle.trees.proofs.Structures.{descends, one_label, symmetric, through, Laws, is_selection, left_variable}
use Rattle.trees.proofs.Structures.{right_variable, compatible_right}
use Rattle.trees.proofs.Child.{with_selection, compatible_child, between, with_child, compatible_over}
use Rattle.trees.proofs.Child.{compatible_under, compatible_of, to_more, from_more, below_new, new_below}
use Rattle.trees.proofs.Child.{new_compatible, From, new, old, selection_from, label_stays}

module _ {n : ℕ} {st : List Statement} {r : Relation} (L : Laws n st r) (i f : ℕ) (i<n : i < n) where
  -- the structure with the child
  abbrev statements : List Statement
  statements = with_selection n st i f

  abbrev more : Relation
  more = with_child n st r i f

  -- what holds of x and y, told whether each is the new variable
  abbrev Between : Kind → Bool → Bool → ℕ → ℕ → Type 0
  Between kind a b x y = between st r i f kind a b x y ≡ true

  -- F1.1 and F3.1
  between_self : (kind : Kind) (a : Bool) (x : ℕ) → Between kind a a x x
  between_self Kind.Ordered false x = L.self Kind.Ordered x
  between_self Kind.Compatible false x = L.self Kind.Compatible x
  between_self Kind.Ordered true x = refl
  between_self Kind.Compatible true x = refl

  -- F1.2
  ordered_through : (a b c : Bool) (x y w : ℕ)
      → Between Kind.Ordered a b x y → Between Kind.Ordered b c y w → Between Kind.Ordered a c x w
  ordered_through false false false x y w p q = through L Kind.Ordered p q
  ordered_through false false true x y w p q =
      under_of st r i f y q λ k m s h l.
      under_by r s h (through L Kind.Ordered p l)
  ordered_through false true false x y w p q =
      under_of st r i f x p λ k m s h l.
      over_of st r i f w q λ k' m' s' h' l'.
      let children = descends L Kind.Ordered s (through L Kind.Ordered h h') s' in
      through L Kind.Ordered l (through L Kind.Ordered children l')
  ordered_through false true true x y w p q = p
  ordered_through true false false x y w p q =
      over_of st r i f y p λ k m s h l.
      over_by r s h (through L Kind.Ordered l q)
  ordered_through true false true x y w p q = refl
  ordered_through true true false x y w p q = q
  ordered_through true true true x y w p q = refl

  -- F3.2
  compatible_through : (a b c : Bool) (x y w : ℕ)
      → Between Kind.Ordered a b x y → Between Kind.Compatible b c y w → Between Kind.Compatible a c x w
  compatible_through false false false x y w p q = through L Kind.Compatible p q
  compatible_through false false true x y w p q =
      compatible_of st r i f y q
      (λ k m s h l. compatible_over r s h (compatible_right L l p))
      (λ k m s h l. compatible_under r s h (through L Kind.Ordered p l))
  compatible_through false true false x y w p q =
      under_of st r i f x p λ k m s h l.
      compatible_of st r i f w q
      (λ k' m' s' h' l'.
      let children = descends L Kind.Ordered s (through L Kind.Ordered h h') s' in
      through L Kind.Compatible l (through L Kind.Compatible children l'))
      (λ k' m' s' h' l'.
      let children = descends L Kind.Compatible s (through L Kind.Compatible h (symmetric L h')) s' in
      through L Kind.Compatible l (compatible_right L children l'))
  compatible_through false true true x y w p q =
      under_of st r i f x p λ k m s h l.
      compatible_under r s (through L Kind.Compatible h (L.self Kind.Compatible i)) l
  compatible_through true false false x y w p q =
      over_of st r i f y p λ k m s h l.
      compatible_over r s h (through L Kind.Compatible l q)
  compatible_through true false true x y w p q = refl
  compatible_through true true false x y w p q = q
  compatible_through true true true x y w p q = refl

  between_through : (kind : Kind) (a b c : Bool) (x y w : ℕ)
      → Between Kind.Ordered a b x y → Between kind b c y w → Between kind a c x w
  between_through Kind.Ordered = ordered_through
  between_through Kind.Compatible = compatible_through

  -- F3.3
  between_turned : (a b : Bool) (x y : ℕ) → Between Kind.Compatible a b x y → Between Kind.Compatible b a y x
  between_turned false false x y p = symmetric L p
  between_turned false true x y p = p
  between_turned true false x y p = p
  between_turned true true x y p = p

  parent_of : {k g m : ℕ} → Stated st (selection k g m) → k < n
  parent_of s = (named n st L.fit s).0

  child_of : {k g m : ℕ} → Stated st (selection k g m) → m < n
  child_of s = (named n st L.fit s).1

  -- only variables are related to the new one
  abbrev Apart : ℕ → ℕ → Type 0
  Apart x y = (x ≡ y) ⊎ ((x < suc n) × (y < suc n))

  old_new : (x y : ℕ) → x < n → y ≡ n → Apart x y
  old_new x y h e = inr (omega arith, omega arith)

  new_old : (x y : ℕ) → y < n → x ≡ n → Apart x y
  new_old x y h e = inr (omega arith, omega arith)

  compatible_old : (x : ℕ) → compatible_child st r i f x ≡ true → x < n
  compatible_old x p =
      compatible_of st r i f x p
      (λ k m s h l. right_variable L Kind.Compatible l (child_of s))
      (λ k m s h l. left_variable L Kind.Ordered l (child_of s))

  between_apart : (kind : Kind) (a b : Bool) (x y : ℕ) → same x n ≡ a → same y n ≡ b → Between kind a b x y → Apart x y
  between_apart kind false false x y d e p =
      ⊎_elim (λ q. inl q) (λ q. inr (omega (arith, q.0), omega (arith, q.1))) (L.apart kind x y p)
  between_apart kind true true x y d e p = inl (same_true x n d ∙ sym (same_true y n e))
  between_apart Kind.Ordered false true x y d e p =
      under_of st r i f x p λ k m s h l.
      old_new x y (left_variable L Kind.Ordered l (child_of s)) (same_true y n e)
  between_apart Kind.Ordered true false x y d e p =
      over_of st r i f y p λ k m s h l.
      new_old x y (right_variable L Kind.Ordered l (child_of s)) (same_true x n d)
  between_apart Kind.Compatible false true x y d e p = old_new x y (compatible_old x p) (same_true y n e)
  between_apart Kind.Compatible true false x y d e p = new_old x y (compatible_old y p) (same_true x n d)

  -- the same of the new facts, where the tests decide what is new
  more_self : (kind : Kind) (x : ℕ) → Holds more kind x x
  unfolding with_child
  more_self kind x = between_self kind (same x n) x

  more_through : (kind : Kind) (x y w : ℕ) → Holds more Kind.Ordered x y → Holds more kind y w → Holds more kind x w
  unfolding with_child
  more_through kind x y w p q = between_through kind (same x n) (same y n) (same w n) x y w p q

  more_turned : (x y : ℕ) → Holds more Kind.Compatible x y → Holds more Kind.Compatible y x
  unfolding with_child
  more_turned x y p = between_turned (same x n) (same y n) x y p

  more_apart : (kind : Kind) (x y : ℕ) → Holds more kind x y → Apart x y
  unfolding with_child
  more_apart kind x y p = between_apart kind (same x n) (same y n) x y refl refl p

  -- F2 and F4: of the new child and an old one
  new_and_old : (kind : Kind) {y y' : ℕ} → Holds r kind i y → Stated st (selection y f y') → Holds more kind n y'
  new_and_old Kind.Ordered {y} {y'} p s =
      new_below n st r i f y' (child_of s) ∙ over_by r s p (L.self Kind.Ordered y')
  new_and_old Kind.Compatible {y} {y'} p s =
      new_compatible n st r i f y' (child_of s) ∙ compatible_under r s (symmetric L p) (L.self Kind.Ordered y')

  old_and_new : (kind : Kind) {x x' : ℕ} → Stated st (selection x f x') → Holds r kind x i → Holds more kind x' n
  old_and_new Kind.Ordered {x} {x'} s p =
      below_new n st r i f x' (child_of s) ∙ under_by r s p (L.self Kind.Ordered x')
  old_and_new Kind.Compatible {x} {x'} s p = more_turned n x' (new_and_old Kind.Compatible (symmetric L p) s)

  -- F2 and F4
  more_descends : (kind : Kind) (g x x' y y' : ℕ) → From n st r i f x g x' → Holds more kind x y
      → From n st r i f y g y' → Holds more kind x' y'
  more_descends kind g x x' y y' (old s) p (old s') =
      to_more n st r i f kind (child_of s) (child_of s')
      (descends L kind s (from_more n st r i f kind (parent_of s) (parent_of s') p) s')
  more_descends kind g x x' y y' (new ex eg ex') p (old s') =
      let above = subst (λ k. Holds more kind k y) ex p in
      rw ex' (new_and_old kind (from_more n st r i f kind i<n (parent_of s') above)
      (subst (λ h. Stated st (selection y h y')) eg s'))
  more_descends kind g x x' y y' (old s) p (new ey eg ey') =
      let below = subst (λ k. Holds more kind x k) ey p in
      rw ey' (old_and_new kind (subst (λ h. Stated st (selection x h x')) eg s)
      (from_more n st r i f kind (parent_of s) i<n below))
  more_descends kind g x x' y y' (new ex eg ex') p (new ey eg' ey') = rw (ex', ey') (more_self kind n)

  more_stated : (kind : Kind) (x y : ℕ) → Stated statements (fact kind x y) → Holds more kind x y
  more_stated Kind.Ordered x y (Memᴰ.head e) = absurd (is_selection e)
  more_stated Kind.Compatible x y (Memᴰ.head e) = absurd (is_selection e)
  more_stated kind x y (Memᴰ.tail s) =
      let names = named_fact n st L.fit kind x y s in
      to_more n st r i f kind names.0 names.1 (L.closed.stated kind x y s)

  -- F5
  more_agree : (x y a b : ℕ) → Holds more Kind.Compatible x y
      → Stated statements (labelling x a) → Stated statements (labelling y b) → a ≡ b
  more_agree x y a b p s s' =
      let o = label_stays n st r i f s in
      let o' = label_stays n st r i f s' in
      let agreeing = from_more n st r i f Kind.Compatible (named n st L.fit o) (named n st L.fit o') p in
      one_label L agreeing o o'

  more_closed : Closed (suc n) statements (Holds more)
  more_closed =
      record {
        stated = more_stated;
        reflexive = λ kind x h. more_self kind x;
        through = more_through;
        symmetric = more_turned;
        descends = λ kind g x x' y y' s p s'. more_descends kind g x x' y y'
            (selection_from n st r i f x g x' s) p (selection_from n st r i f y g y' s');
      }

  pub child_laws : Laws (suc n) statements more
  child_laws =
      record {
        fit = ((omega (arith, i<n), omega arith), all_name_more (omega arith) st L.fit);
        closed = more_closed;
        self = more_self;
        apart = more_apart;
        labels_agree = more_agree;
      }
