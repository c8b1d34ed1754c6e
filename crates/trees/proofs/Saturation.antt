-- Saturation: one assignment meets the statements and breaks each question of a list of which none is supported.
use Prim.Native.Nat.{ℕ, ◌<◌}
use mathlib.Core.List.{List}
use mathlib.Core.Logic.{⊎_elim}
use Rattle.std.proofs.lemmas.Bool.{both_ways}
use Rattle.items.specs.declared.items.Statement.{Statement}
use Rattle.items.specs.Statements.{Names, AllName}
use Rattle.rules.specs.declared.kinds.Kind.{Kind}
use Rattle.rules.specs.Facts.{Relation}
use Rattle.rules.specs.Stated.{selection}
use Rattle.rules.specs.Support.{supported}
use Rattle.rules.proofs.Lists.{all_name_more, all_from}
use Rattle.trees.specs.Assignments.{Assignment, SatisfiesAll, Falsifies, FalsifiesAll}
use Rattle.trees.specs.Trees.{IsTree, Below, Child}
use Rattle.trees.proofs.Nodes.{related_self, related_children}
use Rattle.trees.proofs.Structures.{Laws}
use Rattle.trees.proofs.Least.{least_keeps, least_label}
use Rattle.trees.proofs.Extensions.{Ranked, Extension, further, solution, solution_trees, solution_meets}
use Rattle.trees.proofs.Marks.{old_in}
use Rattle.trees.proofs.Marked.{marked_laws, marked_extends, marked_extension}
use Rattle.trees.proofs.Shown.{shown, shows_ordered, shows_compatible}
use Rattle.trees.proofs.Preparation.{Differs, Breakable, AllBreakable, NoneSupported, prepare}

-- second phase: in the marked structure, what can break does
module _ {n : ℕ} {st : List Statement} {r : Relation} (L : Laws n st r) where
  abbrev met : Assignment
  met = shown L

  breaks_selection : (i f j : ℕ) → j < n → Differs n st r i f j → Child (met i) f (met j) → ⊥
  breaks_selection i f j h d c =
      ⊎_elim (λ p. both_ways _ p (shows_ordered L j z h (equal_children j z c own_child)))
      (λ p. both_ways _ p (shows_ordered L z j d.variable (equal_children z j own_child c))) d.differs
    where
      z : ℕ
      z = d.child

      own_child : Child (met i) f (met z)
      own_child = least_keeps (marked_laws L) (selection i f z) (old_in n st r d.stated)

      equal_children : (x y : ℕ) → Child (met i) f (met x) → Child (met i) f (met y) → Below (met x) (met y)
      equal_children x y a b =
          related_children Kind.Ordered f (met i) (met x) (met i) (met y) a (related_self Kind.Ordered (met i)) b

  breaks : (q : Statement) → Names n q → Breakable n st r q → Falsifies met q
  unfolding supported
  breaks (Statement.Ordering i j) h p k = both_ways _ p (shows_ordered L i.0 j.0 h.0 k)
  breaks (Statement.Compatibility i j) h p k = both_ways _ p (shows_compatible L i.0 j.0 h.0 h.1 k)
  breaks (Statement.Selection i f j) h p k = breaks_selection i.0 f.0 j.0 h.1 p k
  breaks (Statement.Labelling i a) h p k =
      both_ways _ p ((marked_extends L).conserves (Statement.Labelling i a) h (least_label (marked_laws L) i.0 a.0 k))

  all_breaks : (qs : List Statement) → AllName n qs → AllBreakable n st r qs → FalsifiesAll met qs
  all_breaks qs = all_from (Names n) (Breakable n st r) (Falsifies met) qs breaks

-- the assignment is the least solution of an extension
pub record Refutation (n : ℕ) (st : List Statement) (r : Relation) (qs : List Statement) : Type 0 where
  pub whole : Extension n st r
  pub breaks_all : FalsifiesAll (solution whole) qs

pub refute : {n : ℕ} {st : List Statement} {r : Relation} → Laws n st r → (qs : List Statement) → AllName n qs
    → NoneSupported st r qs → Refutation n st r qs
refute L qs h u =
    let P = prepare L qs h u in
    let E = P.whole in
    record {
      whole = further E (marked_extension E.laws);
      breaks_all = all_breaks E.laws qs (all_name_more E.extends.larger qs h) P.breakable;
    }

module _ {n : ℕ} {st : List Statement} {r : Relation} {qs : List Statement} (R : Refutation n st r qs) where
  abbrev pub refuting : Assignment
  refuting = solution R.whole

  -- its trees are trees, it meets the statements, and it is ranked where the structure is
  pub refuting_trees : (i : ℕ) → IsTree (refuting i)
  refuting_trees i = solution_trees R.whole i

  pub refuting_meets : SatisfiesAll refuting st
  refuting_meets = solution_meets R.whole

  pub refuting_ranked : Ranked st r → Ranked R.whole.statements R.whole.facts
  refuting_ranked K = R.whole.extends.ranked K
