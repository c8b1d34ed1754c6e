-- Extensions of a closed structure: what every step of a saturation keeps, and their least solutions.
use Prim.Native.Nat.{ℕ, ◌≤◌, ◌<◌}
use mathlib.Core.Bool.{true}
use mathlib.Core.List.{List}
use mathlib.Core.Path.{◌≡◌, refl, ◌∙◌}
use native.Mathlib.Omega.{arith}
use Rattle.items.specs.declared.items.Statement.{Statement}
use Rattle.items.specs.Statements.{Names}
use Rattle.rules.specs.declared.kinds.Kind.{Kind}
use Rattle.rules.specs.Facts.{Relation, Holds}
use Rattle.rules.specs.Stated.{selection, Stated}
use Rattle.rules.specs.Support.{supported}
use Rattle.rules.proofs.Lists.{names_more, all_by}
use Rattle.trees.specs.Trees.{IsTree}
use Rattle.trees.specs.Assignments.{Assignment, Satisfies, SatisfiesAll}
use Rattle.trees.proofs.Structures.{Laws}
use Rattle.trees.proofs.Sets.{least}
use Rattle.trees.proofs.Least.{least_tree, least_keeps}

-- ranks of variables: no lower above, lower at a child; they bound the depth of least trees
pub record Ranked (st : List Statement) (r : Relation) : Type 0 where
  pub rank : ℕ → ℕ
  pub rises : {i j : ℕ} → Holds r Kind.Ordered i j → rank i ≤ rank j
  pub falls : {i f j : ℕ} → Stated st (selection i f j) → rank j < rank i

-- from n variables, st and r to n', st' and r'
pub record Extends (n : ℕ) (st : List Statement) (r : Relation) (n' : ℕ) (st' : List Statement) (r' : Relation)
    : Type 0 where
  pub larger : n ≤ n'
  -- nothing stated is lost
  pub keeps : {x : Statement} → Stated st x → Stated st' x
  -- no fact of two old variables comes or goes
  pub same_facts : (kind : Kind) (i j : ℕ) → i < n → j < n → r' kind i j ≡ r kind i j
  -- no question over old variables becomes supported
  pub conserves : (q : Statement) → Names n q → supported st' r' q ≡ true → supported st r q ≡ true
  pub ranked : Ranked st r → Ranked st' r'

-- no step, and one step after another
pub extends_self : (n : ℕ) (st : List Statement) (r : Relation) → Extends n st r n st r
extends_self n st r =
    record {
      larger = omega arith;
      keeps = λ s. s;
      same_facts = λ kind i j a b. refl;
      conserves = λ q h p. p;
      ranked = λ k. k;
    }

module _ {n n₁ n₂ : ℕ} {st st₁ st₂ : List Statement} {r r₁ r₂ : Relation}
    (e : Extends n st r n₁ st₁ r₁) (d : Extends n₁ st₁ r₁ n₂ st₂ r₂) where
  pub extends_then : Extends n st r n₂ st₂ r₂
  extends_then =
      record {
        larger = omega (arith, e.larger, d.larger);
        keeps = λ s. d.keeps (e.keeps s);
        same_facts = λ kind i j a b. d.same_facts kind i j (below i a) (below j b) ∙ e.same_facts kind i j a b;
        conserves = λ q h p. e.conserves q h (d.conserves q (names_more e.larger q h) p);
        ranked = λ k. d.ranked (e.ranked k);
      }
    where
      below : (i : ℕ) → i < n → i < n₁
      below i a = omega (arith, e.larger)

-- an extension that is closed again
pub record Extension (n : ℕ) (st : List Statement) (r : Relation) : Type 0 where
  pub size : ℕ
  pub statements : List Statement
  pub facts : Relation
  pub laws : Laws size statements facts
  pub extends : Extends n st r size statements facts

-- none, and one after another
abbrev pub unextended : {n : ℕ} {st : List Statement} {r : Relation} → Laws n st r → Extension n st r
unextended {n} {st} {r} L = record { size = n; statements = st; facts = r; laws = L; extends = extends_self n st r }

abbrev pub further : {n : ℕ} {st : List Statement} {r : Relation} (E : Extension n st r)
    → Extension E.size E.statements E.facts → Extension n st r
further E F =
    record {
      size = F.size;
      statements = F.statements;
      facts = F.facts;
      laws = F.laws;
      extends = extends_then E.extends F.extends;
    }

-- the least solution of an extension: its trees are trees, and it meets the statements that are extended
module _ {n : ℕ} {st : List Statement} {r : Relation} (E : Extension n st r) where
  abbrev pub solution : Assignment
  solution = least E.statements E.facts

  pub solution_trees : (i : ℕ) → IsTree (solution i)
  solution_trees i = least_tree E.laws i

  pub solution_meets : SatisfiesAll solution st
  solution_meets = all_by (Satisfies solution) st (λ x s. least_keeps E.laws x (E.extends.keeps s))
