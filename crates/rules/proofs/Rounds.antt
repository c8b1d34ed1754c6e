-- Rounds, one after the other: they stay within every closed set, and settle at a table that is closed.
use Prim.Native.Nat.{ℕ, zero, suc, ◌+◌, ◌*◌, ◌<◌, ◌≤◌}
use mathlib.Core.List.{List}
use mathlib.Core.Logic.{⊎_elim}
use mathlib.Core.Path.{◌≡◌, refl, sym, ap, ◌∙◌}
use native.Mathlib.Omega.{arith}
use Rattle.std.proofs.lemmas.Bool.{cases_lt}
use Rattle.items.specs.declared.items.Statement.{Statement}
use Rattle.items.specs.Statements.{AllName}
use Rattle.rules.specs.declared.kinds.Kind.{Kind}
use Rattle.rules.specs.Facts.{Holds, Into, Within, Closed}
use Rattle.rules.specs.Tables.{facts, Shape, count_facts}
use Rattle.rules.specs.Derived.{round, next_table, rounds}
use Rattle.rules.proofs.Logic.{same_tests}
use Rattle.rules.proofs.Lists.{named, named_fact}
use Rattle.rules.proofs.Tables.{fact_row, fact_column, table_shape, table_facts, same_facts}
use Rattle.rules.proofs.Counts.{count_most, count_back, count_bound}
use Rattle.rules.proofs.Rules.{round_within, keeps, gives_same, gives_stated, gives_through, gives_turned}
use Rattle.rules.proofs.Rules.{gives_child}

-- how many facts a table has, of both kinds
abbrev size_of : ℕ → List ℕ → ℕ
size_of n t = count_facts n (facts n t) Kind.Ordered + count_facts n (facts n t) Kind.Compatible

-- rounds from facts of a closed set give facts of that set
module _ (n : ℕ) (st : List Statement) (R : Kind → ℕ → ℕ → Type 0) (closed : Closed n st R) where
  next_within : (t : List ℕ) → Into (facts n t) R → Into (facts n (next_table st n t)) R
  next_within t within kind i j p =
      let h = fact_row n _ kind i j p in
      let g = fact_column n _ kind i j p in
      round_within n st R closed (facts n t) within kind i j h (sym (table_facts n _ kind i j h g) ∙ p)

  pub rounds_within : (m : ℕ) (t : List ℕ) → Into (facts n t) R → Into (facts n (rounds m st n t)) R
  unfolding rounds
  rounds_within zero t within = within
  rounds_within (suc m) t within = rounds_within m (next_table st n t) (next_within t within)

module _ (st : List Statement) (n : ℕ) where
  pub rounds_shape : (m : ℕ) (t : List ℕ) → Shape n t → Shape n (rounds m st n t)
  unfolding rounds
  rounds_shape zero t shape = shape
  rounds_shape (suc m) t shape = rounds_shape m (next_table st n t) (table_shape n _)

  -- a round loses no fact, and one that adds none leaves the table as it is
  next_grows : (t : List ℕ) → Within (facts n t) (facts n (next_table st n t))
  next_grows t kind i j p =
      let h = fact_row n t kind i j p in
      let g = fact_column n t kind i j p in
      table_facts n _ kind i j h g ∙ keeps st n (facts n t) kind i j p

  no_more : (t : List ℕ) → size_of n (next_table st n t) ≤ size_of n t → (kind : Kind)
      → count_facts n (facts n (next_table st n t)) kind ≤ count_facts n (facts n t) kind
  no_more t s Kind.Ordered = omega (arith, count_most n _ _ (next_grows t) Kind.Compatible)
  no_more t s Kind.Compatible = omega (arith, count_most n _ _ (next_grows t) Kind.Ordered)

  settled : (t : List ℕ) → Shape n t → size_of n (next_table st n t) ≤ size_of n t → next_table st n t ≡ t
  settled t shape s =
      same_facts n (next_table st n t) t (table_shape n _) shape λ kind i j h g.
      same_tests _ _ (count_back n _ _ (next_grows t) kind (no_more t s kind) i j h g) (next_grows t kind i j)

  stays : (m : ℕ) (t : List ℕ) → next_table st n t ≡ t → rounds m st n t ≡ t
  unfolding rounds
  stays zero t e = refl
  stays (suc m) t e = ap (rounds m st n) e ∙ stays m t e

  -- as many rounds as there are facts that may be missing leave nothing to add
  pub settles : (m : ℕ) (t : List ℕ) → Shape n t → 2 * (n * n) ≤ m + size_of n t
      → next_table st n (rounds m st n t) ≡ rounds m st n t
  unfolding rounds
  settles zero t shape b =
      settled t shape (omega (
        arith,
        count_bound n (facts n (next_table st n t)) Kind.Ordered,
        count_bound n (facts n (next_table st n t)) Kind.Compatible,
      ))
  settles (suc m) t shape b =
      ⊎_elim (λ more. settles m (next_table st n t) (table_shape n _) (omega arith))
      (λ e.
      let still = ap (next_table st n) (settled t shape e) in
      rw (stays m (next_table st n t) still) still) (cases_lt (size_of n t) (size_of n (next_table st n t)))

-- a table that a round leaves as it is is closed
module _ (n : ℕ) (st : List Statement) (t : List ℕ) (names : AllName n st) (still : next_table st n t ≡ t) where
  given : (kind : Kind) (i j : ℕ) → i < n → j < n → Holds (round st n (facts n t)) kind i j → Holds (facts n t) kind i j
  given kind i j h g p = ap (λ u. facts n u kind i j) (sym still) ∙ table_facts n _ kind i j h g ∙ p

  pub still_closed : Closed n st (Holds (facts n t))
  still_closed =
      record {
        stated = λ kind i j m.
            let b = named_fact n st names kind i j m in given kind i j b.0 b.1 (gives_stated st n _ kind i j m);
        reflexive = λ kind i h. given kind i i h h (gives_same st n _ kind i);
        through = λ kind i j k p q.
            given kind i k (fact_row n t Kind.Ordered i j p) (fact_column n t kind j k q)
            (gives_through st n _ kind i j k (fact_column n t Kind.Ordered i j p) p q);
        symmetric = λ i j p.
            given Kind.Compatible j i (fact_column n t Kind.Compatible i j p) (fact_row n t Kind.Compatible i j p)
            (gives_turned st n _ i j p);
        descends = λ kind f i i' j j' m p o.
            given kind i' j' (named n st names m).1 (named n st names o).1
            (gives_child st n _ kind f i i' j j' m p o);
      }
