-- A settled table that has what is stated, and nothing beyond the derived facts, is the derived table.
use Prim.Native.Nat.{ℕ}
use mathlib.Core.List.{List}
use mathlib.Core.Path.{◌≡◌}
use Rattle.items.specs.declared.items.Statement.{Statement}
use Rattle.items.specs.Statements.{AllName}
use Rattle.rules.specs.Stated.{Stated}
use Rattle.rules.specs.declared.kinds.Kind.{Kind}
use Rattle.rules.specs.Facts.{fact, Holds, Within, Closed}
use Rattle.rules.specs.Tables.{facts, Shape}
use Rattle.rules.specs.Derived.{derived, facts_of}
use Rattle.rules.proofs.Derived.{derived_closed, is_derived}
use Rattle.rules.proofs.Tables.{fact_row, fact_column}
use Rattle.facts.specs.Additions.{Framed}
use Rattle.selections.specs.Stands.{Selected, SelectionsStand}
use Rattle.derivation.specs.Settled.{Descends}

module _ (n : ℕ) (st : List Statement) (names : AllName n st) where
  closed : Closed n st (Holds (facts_of st n))
  closed = derived_closed n st names

  -- the derived facts, to F1 and F3, and to F2 and F4
  pub derived_framed : Framed n (facts_of st n)
  derived_framed =
      record { reflexive = closed.reflexive; through = closed.through; symmetric = closed.symmetric }

  pub derived_stated : (kind : Kind) (i j : ℕ) → Stated st (fact kind i j) → Holds (facts_of st n) kind i j
  derived_stated = closed.stated

  module _ {selected : Selected} (stand : SelectionsStand n st selected) where
    pub derived_descends : Descends n selected (facts_of st n)
    derived_descends kind i j h g p =
        record {
          down = λ f i' j' a b.
              closed.descends kind f i i' j j'
              (stand.stated i f i' h a) p
              (stand.stated j f j' g b);
        }

    pub settled_derived : (t : List ℕ) → Shape n t → Framed n (facts n t) → Descends n selected (facts n t)
        → ((kind : Kind) (i j : ℕ) → Stated st (fact kind i j) → Holds (facts n t) kind i j)
        → Within (facts n t) (facts_of st n) → t ≡ derived st n
    settled_derived t shape framed descends has within =
        is_derived n st t shape
        (record {
          stated = has;
          reflexive = framed.reflexive;
          through = framed.through;
          symmetric = framed.symmetric;
          descends = λ kind f i i' j j' a p b.
              (descends kind i j (fact_row n t kind i j p) (fact_column n t kind i j p) p).down f i' j'
              (stand.listed i f i' a) (stand.listed j f j' b);
        })
        within
