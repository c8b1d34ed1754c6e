-- One child more keeps ranks, and so extends: the child's rank is the least that what lies below it leaves.
use Prim.Native.Nat.{ℕ, suc, ◌≤◌, ◌<◌, max}
use mathlib.Core.Bool.{Bool, true, false}
use mathlib.Core.List.{List, [], ◌∷◌, Memᴰ}
use mathlib.Core.Path.{◌≡◌, refl, sym, subst}
use native.Mathlib.Omega.{arith}
use Rattle.fields.specs.Tests.{same}
use Rattle.fields.proofs.Choice.{is_same}
use Rattle.items.specs.declared.items.Statement.{Statement}
use Rattle.rules.specs.declared.kinds.Kind.{Kind}
use Rattle.rules.specs.Facts.{Relation, Holds}
use Rattle.rules.specs.Stated.{selection, Stated}
use Rattle.rules.proofs.Lists.{named}
use Rattle.rules.proofs.Supported.{under_of, over_of}
use Rattle.trees.proofs.Structures.{descends, through, Laws}
use Rattle.trees.proofs.Extensions.{Ranked, Extends, Extension}
use Rattle.trees.proofs.Lookups.{children_at, child_from, child_found}
use Rattle.trees.proofs.Child.{with_selection, between, with_child, is_old, old_pair, From, new, old}
use Rattle.trees.proofs.Child.{selection_from}
use Rattle.trees.proofs.ChildLaws.{child_laws}
use Rattle.trees.proofs.ChildSupport.{child_conserves}

-- the least number above the ranks of a list, 0 of none
abbrev least_above_all : (ℕ → ℕ) → List ℕ → ℕ
least_above_all rank [] = 0
least_above_all rank (m ∷ ms) = max (suc (rank m)) (least_above_all rank ms)

least_above : {m : ℕ} (rank : ℕ → ℕ) (ms : List ℕ) → Memᴰ m ms → suc (rank m) ≤ least_above_all rank ms
least_above {m = m} rank [] y2 = elim y2 [ ]
least_above rank (x ∷ ms) (Memᴰ.head e) =
    subst (λ y. suc (rank y) ≤ max (suc (rank x)) (least_above_all rank ms)) (sym e) (omega arith)
least_above rank (x ∷ ms) (Memᴰ.tail d) = let rest = least_above rank ms d in omega arith

above_least : {most : ℕ} (rank : ℕ → ℕ) (ms : List ℕ)
    → ((m : ℕ) → Memᴰ m ms → suc (rank m) ≤ most) → least_above_all rank ms ≤ most
above_least rank [] h = omega arith
above_least rank (x ∷ ms) h =
    let here = h x (Memᴰ.head refl) in
    let rest = above_least rank ms (λ m d. h m (Memᴰ.tail d)) in
    omega arith

module _ {n : ℕ} {st : List Statement} {r : Relation} (L : Laws n st r) (i f : ℕ) (i<n : i < n) where
  abbrev statements : List Statement
  statements = with_selection n st i f

  abbrev more : Relation
  more = with_child n st r i f

  module _ (K : Ranked st r) where
    -- the children at f of the variables below i
    abbrev children : List ℕ
    children = children_at f (λ k. r Kind.Ordered k i) st

    -- the rank of x, told whether it is the new variable
    abbrev rank_by : Bool → ℕ → ℕ
    rank_by true x = least_above_all K.rank children
    rank_by false x = suc (K.rank x)

    above_children : {k m : ℕ} → Stated st (selection k f m) → Holds r Kind.Ordered k i
        → suc (K.rank m) ≤ least_above_all K.rank children
    above_children s p = least_above K.rank children (child_found f _ st s p)

    below_bound : {most : ℕ}
        → ((k m : ℕ) → Stated st (selection k f m) → Holds r Kind.Ordered k i → suc (K.rank m) ≤ most)
        → least_above_all K.rank children ≤ most
    below_bound h =
        above_least K.rank children λ m d.
        child_from f (λ k. r Kind.Ordered k i) st d λ k s p.
        h k m s p

    -- ranks do not fall along ≤
    between_rises : (a b : Bool) (x y : ℕ) → between st r i f Kind.Ordered a b x y ≡ true → rank_by a x ≤ rank_by b y
    between_rises false false x y p = omega (arith, K.rises p)
    between_rises false true x y p =
        under_of st r i f x p λ k m s h l.
        omega (arith, above_children s h, K.rises l)
    between_rises true false x y p =
        over_of st r i f y p λ k m s h l.
        below_bound λ k' m' s' h'.
        omega (arith, K.rises (descends L Kind.Ordered s' (through L Kind.Ordered h' h) s), K.rises l)
    between_rises true true x y p = omega arith

    more_rises : (x y : ℕ) → Holds more Kind.Ordered x y → rank_by (same x n) x ≤ rank_by (same y n) y
    unfolding with_child
    more_rises x y p = between_rises (same x n) (same y n) x y p

    -- and fall from parent to child
    more_falls : (x g y : ℕ) → From n st r i f x g y → rank_by (same y n) y < rank_by (same x n) x
    more_falls x g y (old s) =
        let names = named n st L.fit s in
        rw (is_old n st r i f names.0, is_old n st r i f names.1) (omega (arith, K.falls s))
    more_falls x g y (new ex eg ey) =
        let parent = below_bound {most = K.rank i} (λ k m s h. omega (arith, K.falls s, K.rises h)) in
        rw (ex, ey, is_old n st r i f i<n, is_same n n refl) (omega (arith, parent))

    child_ranked : Ranked statements more
    child_ranked =
        record {
          rank = λ x. rank_by (same x n) x;
          rises = λ p. more_rises _ _ p;
          falls = λ s. more_falls _ _ _ (selection_from n st r i f _ _ _ s);
        }

  pub child_extends : Extends n st r (suc n) statements more
  child_extends =
      record {
        larger = omega arith;
        keeps = λ s. Memᴰ.tail s;
        same_facts = λ kind x y a b. old_pair n st r i f kind x y a b;
        conserves = child_conserves L i f i<n;
        ranked = child_ranked;
      }

  abbrev pub child_extension : Extension n st r
  child_extension =
      record {
        size = suc n;
        statements = statements;
        facts = more;
        laws = child_laws L i f i<n;
        extends = child_extends;
      }
