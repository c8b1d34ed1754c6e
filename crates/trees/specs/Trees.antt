-- Feature trees: features and labels are natural numbers without a bound, and a tree may have no end.
use Rattle.std.specs.Prelude.{ℕ, List, [], ◌∷◌, ◌++◌, ◌≡◌}

-- a tree has at a path nothing, a node without a label, or a label
pub data Node : Type 0 where
  absent bare : Node
  labelled : ℕ → Node

abbrev pub Present : Node → Type 0
Present absent = ⊥
Present bare = Unit {0}
Present (labelled a) = Unit {0}

-- the features from the root on
abbrev pub Path : Type 0
Path = List ℕ

abbrev pub Tree : Type 0
Tree = Path → Node

-- a root is there, and a node has its parent
pub record IsTree (t : Tree) : Type 0 where
  pub root : Present (t [])
  pub beginnings : (p : Path) (f : ℕ) → Present (t (p ++ (f ∷ []))) → Present (t p)

-- t ≤ u: u has every node and every label of t, where t has it
pub record Below (t u : Tree) : Type 0 where
  pub paths : (p : Path) → Present (t p) → Present (u p)
  pub labels : (p : Path) (a : ℕ) → t p ≡ labelled a → u p ≡ labelled a

-- t ~ u: where both have a label it is one label
pub record Compatible (t u : Tree) : Type 0 where
  pub labels : (p : Path) (a b : ℕ) → t p ≡ labelled a → u p ≡ labelled b → a ≡ b

-- t[f]u: t has a child at f, and that child is u
pub record Child (t : Tree) (f : ℕ) (u : Tree) : Type 0 where
  pub present : Present (t (f ∷ []))
  pub subtree : (p : Path) → t (f ∷ p) ≡ u p

-- a(t): label a at the root
abbrev pub Labelled : Tree → ℕ → Type 0
Labelled t a = t [] ≡ labelled a
