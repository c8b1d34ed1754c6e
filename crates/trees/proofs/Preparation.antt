-- First phase of saturation: an extension in which each question of a list can break, where none of them is supported.
use Prim.Native.Nat.{ℕ, ◌<◌}
use mathlib.Core.Bool.{false}
use mathlib.Core.List.Memᴰ
use mathlib.Core.List.{List, [], ◌∷◌}
use mathlib.Core.Logic.{◌⊎◌, inl, inr, ⊎_elim}
use mathlib.Core.Path.{◌≡◌, refl, ◌∙◌}
use native.Mathlib.Omega.{arith}
use Rattle.std.proofs.lemmas.Bool.{both_ways, false_from_ne_true}
use Rattle.items.specs.declared.items.Statement.{Statement}
use Rattle.items.specs.Statements.{All, Names, AllName}
use Rattle.rules.specs.declared.kinds.Kind.{Kind}
use Rattle.rules.specs.Facts.{Relation}
use Rattle.rules.specs.Stated.{selection, Stated}
use Rattle.rules.specs.Support.{supported, under_child, under_label}
use Rattle.rules.proofs.Logic.{both, decided}
use Rattle.rules.proofs.Lists.{all_name_more, all_from}
use Rattle.trees.proofs.Structures.{Laws}
use Rattle.trees.proofs.Extensions.{Extends, Extension, unextended, further}
use Rattle.trees.proofs.Child.{with_child, below_new, new_below}
use Rattle.trees.proofs.ChildRank.{child_extension}

-- a child z of i at f that is not both above and below j
pub record Differs (n : ℕ) (st : List Statement) (r : Relation) (i f j : ℕ) : Type 0 where
  pub child : ℕ
  pub variable : child < n
  pub stated : Stated st (selection i f child)
  pub differs : (r Kind.Ordered j child ≡ false) ⊎ (r Kind.Ordered child j ≡ false)

-- what makes a question break in the marked structure
abbrev pub Breakable : (n : ℕ) (st : List Statement) (r : Relation) → Statement → Type 0
Breakable n st r (Statement.Ordering i j) = r Kind.Ordered i.0 j.0 ≡ false
Breakable n st r (Statement.Compatibility i j) = r Kind.Compatible i.0 j.0 ≡ false
Breakable n st r (Statement.Selection i f j) = Differs n st r i.0 f.0 j.0
Breakable n st r (Statement.Labelling i a) = under_label st r i.0 a.0 ≡ false

abbrev pub AllBreakable : (n : ℕ) (st : List Statement) (r : Relation) → List Statement → Type 0
AllBreakable n st r qs = All (Breakable n st r) qs

abbrev pub NoneSupported : (st : List Statement) (r : Relation) → List Statement → Type 0
NoneSupported st r qs = All (λ q. supported st r q ≡ false) qs

module _ {n n' : ℕ} {st st' : List Statement} {r r' : Relation} (e : Extends n st r n' st' r') where
  still_unsupported : (q : Statement) → Names n q → supported st r q ≡ false → supported st' r' q ≡ false
  still_unsupported q h p = false_from_ne_true _ (λ p'. both_ways _ p (e.conserves q h p'))

  still_breakable : (q : Statement) → Names n q → Breakable n st r q → Breakable n' st' r' q
  unfolding supported
  still_breakable (Statement.Ordering i j) h p = e.same_facts Kind.Ordered i.0 j.0 h.0 h.1 ∙ p
  still_breakable (Statement.Compatibility i j) h p = e.same_facts Kind.Compatible i.0 j.0 h.0 h.1 ∙ p
  still_breakable (Statement.Selection i f j) h p =
      record {
        child = p.child;
        variable = omega (arith, e.larger, p.variable);
        stated = e.keeps p.stated;
        differs = ⊎_elim
            (λ d. inl (e.same_facts Kind.Ordered j.0 p.child h.1 p.variable ∙ d))
            (λ d. inr (e.same_facts Kind.Ordered p.child j.0 p.variable h.1 ∙ d)) p.differs;
      }
  still_breakable (Statement.Labelling i a) h p = still_unsupported (Statement.Labelling i a) h p

  all_still_breakable : (qs : List Statement) → AllName n qs → AllBreakable n st r qs → AllBreakable n' st' r' qs
  all_still_breakable qs = all_from (Names n) (Breakable n st r) (Breakable n' st' r') qs still_breakable

-- the extension
pub record Prepared (n : ℕ) (st : List Statement) (r : Relation) (qs : List Statement) : Type 0 where
  pub whole : Extension n st r
  pub breakable : AllBreakable whole.size whole.statements whole.facts qs

-- where i[f]j is not supported, the new child of i is not both above and below j
missing : (n : ℕ) (st : List Statement) (r : Relation) (i f j : ℕ) → j < n → supported st r (selection i f j) ≡ false
    → (with_child n st r i f Kind.Ordered j n ≡ false) ⊎ (with_child n st r i f Kind.Ordered n j ≡ false)
unfolding supported
missing n st r i f j h u =
    decided (under_child st r i f j)
    (λ p. inr (new_below n st r i f j h ∙ false_from_ne_true _ (λ q. both_ways _ u (both p q))))
    (λ p. inl (below_new n st r i f j h ∙ p))

own_child : {n : ℕ} {st : List Statement} {r : Relation} (L : Laws n st r) (i f j : ℕ) (h : i < n) → j < n
    → supported st r (selection i f j) ≡ false
    → let E = child_extension L i f h in Differs E.size E.statements E.facts i f j
own_child {n} {st} {r} L i f j h k u =
    record { child = n; variable = omega arith; stated = Memᴰ.head refl; differs = missing n st r i f j k u }

module _ {n : ℕ} {st : List Statement} {r : Relation} {qs : List Statement} (names : AllName n qs)
    (P : Prepared n st r qs) where
  -- a selection gets a child of its own
  prepare_selection : (i f j : ℕ) → i < n → j < n → supported st r (selection i f j) ≡ false
      → Prepared n st r (selection i f j ∷ qs)
  prepare_selection i f j h k u =
      record {
        whole = further E C;
        breakable = (
          own_child E.laws i f j (inside h) (inside k) (still_unsupported E.extends (selection i f j) (h, k) u),
          all_still_breakable C.extends qs (all_name_more E.extends.larger qs names) P.breakable,
        );
      }
    where
      E : Extension n st r
      E = P.whole

      inside : {x : ℕ} → x < n → x < E.size
      inside b = omega (arith, b, E.extends.larger)

      C : Extension E.size E.statements E.facts
      C = child_extension E.laws i f (inside h)

  -- any other question can break already
  prepare_other : (q : Statement) → Names n q → Breakable n st r q → Prepared n st r (q ∷ qs)
  prepare_other q h p =
      record { whole = P.whole; breakable = (still_breakable P.whole.extends q h p, P.breakable) }

pub prepare : {n : ℕ} {st : List Statement} {r : Relation} → Laws n st r → (qs : List Statement) → AllName n qs
    → NoneSupported st r qs → Prepared n st r qs
unfolding supported
prepare L [] h u = record { whole = unextended L; breakable = tt }
prepare L (Statement.Ordering i j ∷ qs) h u =
    prepare_other h.1 (prepare L qs h.1 u.1) (Statement.Ordering i j) h.0 u.0
prepare L (Statement.Compatibility i j ∷ qs) h u =
    prepare_other h.1 (prepare L qs h.1 u.1) (Statement.Compatibility i j) h.0 u.0
prepare L (Statement.Selection i f j ∷ qs) h u =
    prepare_selection h.1 (prepare L qs h.1 u.1) i.0 f.0 j.0 h.0.0 h.0.1 u.0
prepare L (Statement.Labelling i a ∷ qs) h u =
    prepare_other h.1 (prepare L qs h.1 u.1) (Statement.Labelling i a) h.0 u.0
