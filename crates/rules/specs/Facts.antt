-- Facts about pairs of variables, and the sets of facts to which rules F1 to F4 add nothing.
use Rattle.std.specs.Prelude.{ℕ, ◌<◌, Bool, true, List, ◌≡◌}
use Rattle.items.specs.declared.items.Statement.{Statement}
use Rattle.rules.specs.declared.kinds.Kind.{Kind}
use Rattle.rules.specs.Stated.{ordering, compatibility, selection, Stated}

-- the statement of a fact
abbrev pub fact : Kind → ℕ → ℕ → Statement
fact Kind.Ordered i j = ordering i j
fact Kind.Compatible i j = compatibility i j

-- a set of facts, by a test of each
abbrev pub Relation : Type 0
Relation = Kind → ℕ → ℕ → Bool

abbrev pub Holds : Relation → Kind → ℕ → ℕ → Type 0
Holds r kind i j = r kind i j ≡ true

-- each fact of r is in R, and where R is given by a test too
abbrev pub Into : Relation → (Kind → ℕ → ℕ → Type 0) → Type 0
Into r R = (kind : Kind) (i j : ℕ) → Holds r kind i j → R kind i j

abbrev pub Within : Relation → Relation → Type 0
Within r u = Into r (Holds u)

-- R has the facts that st states, and the rules over n variables add none; each field is a rule of ≤ and its twin of ~
pub record Closed (n : ℕ) (st : List Statement) (R : Kind → ℕ → ℕ → Type 0) : Type 0 where
  pub stated : (kind : Kind) (i j : ℕ) → Stated st (fact kind i j) → R kind i j
  -- F1.1, F3.1
  pub reflexive : (kind : Kind) (i : ℕ) → i < n → R kind i i
  -- F1.2, F3.2: what holds above i holds of i
  pub through : (kind : Kind) (i j k : ℕ) → R Kind.Ordered i j → R kind j k → R kind i k
  -- F3.3
  pub symmetric : (i j : ℕ) → R Kind.Compatible i j → R Kind.Compatible j i
  -- F2, F4: children at one feature are related as their parents are
  pub descends : (kind : Kind) (f i i' j j' : ℕ)
      → Stated st (selection i f i') → R kind i j → Stated st (selection j f j') → R kind i' j'
