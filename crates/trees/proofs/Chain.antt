-- A chain of children: an extension whose least solution has a given path of a variable.
use Prim.Native.Nat.{ℕ, ◌<◌}
use mathlib.Core.List.{List, [], ◌∷◌, Memᴰ}
use mathlib.Core.Path.{refl, sym, subst}
use native.Mathlib.Omega.{arith}
use Rattle.items.specs.declared.items.Statement.{Statement}
use Rattle.rules.specs.Facts.{Relation}
use Rattle.rules.specs.Stated.{selection}
use Rattle.trees.specs.Trees.{Present, Path, Child}
use Rattle.trees.proofs.Structures.{Laws}
use Rattle.trees.proofs.Least.{least_tree, least_keeps}
use Rattle.trees.proofs.Extensions.{Extension, unextended, further, solution}
use Rattle.trees.proofs.ChildRank.{child_extension}

pub record Chain (n : ℕ) (st : List Statement) (r : Relation) (i : ℕ) (p : Path) : Type 0 where
  pub whole : Extension n st r
  pub present : Present (solution whole i p)

-- where a new child of i has the rest of the path, i has the path
module _ {n : ℕ} {st : List Statement} {r : Relation} (L : Laws n st r) (i : ℕ) (h : i < n) (f : ℕ) where
  abbrev added : Extension n st r
  added = child_extension L i f h

  from_child : (p : Path) → Chain added.size added.statements added.facts n p → Chain n st r i (f ∷ p)
  from_child p rest =
      record { whole = further added rest.whole; present = subst Present (sym (child.subtree p)) rest.present }
    where
      child : Child (solution rest.whole i) f (solution rest.whole n)
      child = least_keeps rest.whole.laws (selection i f n) (rest.whole.extends.keeps (Memᴰ.head refl))

-- a root is there, and each feature of the path takes one child more
pub chain : (p : Path) {n : ℕ} {st : List Statement} {r : Relation} → Laws n st r → (i : ℕ) → i < n
    → Chain n st r i p
chain [] L i h = record { whole = unextended L; present = (least_tree L i).root }
chain (f ∷ p) {n} L i h = from_child L i h f p (chain p (child_extension L i f h).laws n (omega arith))
