-- The derived table: it holds the smallest closed set of facts, and no other table does.
use Prim.Native.Nat.{ℕ, ◌*◌}
use mathlib.Core.List.{List}
use mathlib.Core.Path.{◌≡◌}
use native.Mathlib.Omega.{arith}
use Rattle.items.specs.declared.items.Statement.{Statement}
use Rattle.items.specs.Statements.{AllName}
use Rattle.rules.specs.declared.kinds.Kind.{Kind}
use Rattle.rules.specs.Facts.{Holds, Into, Within, Closed}
use Rattle.rules.specs.Tables.{facts, table_bytes, Shape}
use Rattle.rules.specs.Derived.{next_table, derived, facts_of}
use Rattle.rules.specs.Demand.{Derives}
use Rattle.rules.proofs.Logic.{same_tests}
use Rattle.rules.proofs.Tables.{zeros_shape, zeros_empty, same_facts, same_image}
use Rattle.rules.proofs.Rounds.{rounds_within, rounds_shape, settles, still_closed}

module _ (n : ℕ) (st : List Statement) where
  -- the derived facts are in every closed set, given by a test or not
  pub smallest : (R : Kind → ℕ → ℕ → Type 0) → Closed n st R → Into (facts_of st n) R
  unfolding derived
  smallest R closed = rounds_within n st R closed (2 * (n * n)) _ λ kind i j p. absurd (zeros_empty n kind i j p)

  -- the derived table has the shape, and where statements name variables below n it is closed
  pub derived_shape : Shape n (derived st n)
  unfolding derived
  derived_shape = rounds_shape st n (2 * (n * n)) _ (zeros_shape n)

  derived_still : next_table st n (derived st n) ≡ derived st n
  unfolding derived
  derived_still = settles st n (2 * (n * n)) _ (zeros_shape n) (omega arith)

  pub derived_closed : AllName n st → Closed n st (Holds (facts_of st n))
  derived_closed names = still_closed n st (derived st n) names derived_still

  -- so they are the smallest closed set
  pub derives : AllName n st → Derives n st (facts_of st n)
  derives names = record { closed = derived_closed names; smallest = λ r closed. smallest (Holds r) closed }

  -- and the table is their image
  pub derived_bytes : table_bytes n (facts_of st n) ≡ derived st n
  unfolding table_bytes
  derived_bytes = same_image n (derived st n) derived_shape

  -- a closed table of derived facts is the derived table
  pub is_derived : (t : List ℕ) → Shape n t → Closed n st (Holds (facts n t)) → Within (facts n t) (facts_of st n)
      → t ≡ derived st n
  is_derived t shape closed within =
      same_facts n t (derived st n) shape derived_shape λ kind i j h g.
      same_tests _ _ (within kind i j) (smallest (Holds (facts n t)) closed kind i j)

  pub derives_unique : (t : List ℕ) → AllName n st → Shape n t → Derives n st (facts n t) → t ≡ derived st n
  derives_unique t names shape d = is_derived t shape d.closed (d.smallest (facts_of st n) (derived_closed names))
