-- The derived facts of statements that do not clash are a closed structure.
use Prim.Native.Nat.{ℕ, ◌<◌}
use mathlib.Core.Bool.{true, false}
use mathlib.Core.List.{List}
use mathlib.Core.Logic.{inl, inr}
use mathlib.Core.Path.{◌≡◌, refl, sym, subst}
use Rattle.fields.specs.Tests.{same}
use Rattle.fields.proofs.Choice.{is_same, same_true}
use Rattle.items.specs.declared.items.Statement.{Statement}
use Rattle.items.specs.Statements.{Names, AllName}
use Rattle.rules.specs.Connectives.{◌or◌}
use Rattle.rules.specs.declared.kinds.Kind.{Kind}
use Rattle.rules.specs.Facts.{Relation, Holds, Closed}
use Rattle.rules.specs.Stated.{selection, labelling, Stated}
use Rattle.rules.specs.Derived.{derived, facts_of}
use Rattle.rules.specs.Clashes.{clashes}
use Rattle.rules.specs.Support.{supported}
use Rattle.rules.proofs.Logic.{either_first, either_second, either_of}
use Rattle.rules.proofs.Lists.{named}
use Rattle.rules.proofs.Supported.{under_by, over_by, label_by, Carries, carried}
use Rattle.rules.proofs.Tables.{fact_row, fact_column}
use Rattle.rules.proofs.Derived.{derived_closed}
use Rattle.rules.proofs.Clashing.{labels_equal}
use Rattle.trees.proofs.Structures.{Laws}

-- the facts, and each number related to itself
unfoldable pub self_or : Relation → Relation
self_or r kind i j = same i j or r kind i j

module _ (n : ℕ) (st : List Statement) (fit : AllName n st) where
  abbrev pub related : Relation
  related = self_or (facts_of st n)

  from_fact : (kind : Kind) (i j : ℕ) → Holds (facts_of st n) kind i j → Holds related kind i j
  unfolding self_or
  from_fact kind i j p = either_second (same i j) p

  -- of variables nothing is added
  pub to_fact : (kind : Kind) (i j : ℕ) → i < n → Holds related kind i j → Holds (facts_of st n) kind i j
  unfolding self_or
  to_fact kind i j h p =
      either_of _ _ p
      (λ e. subst (Holds (facts_of st n) kind i) (same_true i j e) ((derived_closed n st fit).reflexive kind i h))
      (λ q. q)

  pub by_cases : {C : Type 0} (kind : Kind) (i j : ℕ) → Holds related kind i j
      → (i ≡ j → C) → (i < n → j < n → Holds (facts_of st n) kind i j → C) → C
  unfolding self_or
  by_cases kind i j p self other =
      either_of _ _ p (λ e. self (same_true i j e))
      (λ q. other (fact_row n (derived st n) kind i j q) (fact_column n (derived st n) kind i j q) q)

  self : (kind : Kind) (i : ℕ) → Holds related kind i i
  unfolding self_or
  self kind i = either_first _ (is_same i i refl)

  -- F1.2 and F3.2
  through : (kind : Kind) (i j k : ℕ) → Holds related Kind.Ordered i j → Holds related kind j k
      → Holds related kind i k
  through kind i j k p q =
      by_cases Kind.Ordered i j p
      (λ e. subst (λ x. Holds related kind x k) (sym e) q)
      (λ h h' p'. from_fact kind i k ((derived_closed n st fit).through kind i j k p' (to_fact kind j k h' q)))

  -- F3.3
  symmetric : (i j : ℕ) → Holds related Kind.Compatible i j → Holds related Kind.Compatible j i
  symmetric i j p =
      by_cases Kind.Compatible i j p
      (λ e. subst (λ x. Holds related Kind.Compatible x i) e (self Kind.Compatible i))
      (λ h h' q. from_fact Kind.Compatible j i ((derived_closed n st fit).symmetric i j q))

  -- F2 and F4
  descends : (kind : Kind) (f i i' j j' : ℕ) → Stated st (selection i f i') → Holds related kind i j
      → Stated st (selection j f j') → Holds related kind i' j'
  descends kind f i i' j j' s p s' =
      from_fact kind i' j' ((derived_closed n st fit).descends kind f i i' j j' s
      (to_fact kind i j (named n st fit s).0 p) s')

  -- F5 where the statements do not clash
  labels_agree : clashes st n ≡ false → (i j a b : ℕ) → Holds related Kind.Compatible i j
      → Stated st (labelling i a) → Stated st (labelling j b) → a ≡ b
  labels_agree e i j a b p s s' = labels_equal st n e (to_fact Kind.Compatible i j (named n st fit s) p) s s'

  related_closed : Closed n st (Holds related)
  related_closed =
      record {
        stated = λ kind i j s. from_fact kind i j ((derived_closed n st fit).stated kind i j s);
        reflexive = λ kind i h. self kind i;
        through = through;
        symmetric = symmetric;
        descends = descends;
      }

  pub derived_laws : clashes st n ≡ false → Laws n st related
  derived_laws e =
      record {
        fit = fit;
        closed = related_closed;
        self = self;
        apart = λ kind i j p. by_cases kind i j p (λ d. inl d) (λ h h' q. inr (h, h'));
        labels_agree = labels_agree e;
      }

  -- support is the same
  carries : Carries n st related st (facts_of st n)
  carries =
      record {
        pairs = λ kind i j h h' p. to_fact kind i j h p;
        unders = λ i f j k m h h' s a b.
            under_by (facts_of st n) s (to_fact Kind.Ordered k i (named n st fit s).0 a)
            (to_fact Kind.Ordered j m h' b);
        overs = λ i f j k m h h' s a b.
            over_by (facts_of st n) s (to_fact Kind.Ordered i k h a) (to_fact Kind.Ordered m j (named n st fit s).1 b);
        labels = λ i a k h s b. label_by (facts_of st n) s (to_fact Kind.Ordered k i (named n st fit s) b);
      }

  pub related_supported : (q : Statement) → Names n q → supported st related q ≡ true
      → supported st (facts_of st n) q ≡ true
  related_supported = carried carries
