-- The clash that is told: the least pair to which F5 applies, and nowhere just where it applies to none.
use Prim.Native.Nat.{ℕ, zero, suc, ◌+◌, ◌<◌, ◌≤◌}
use mathlib.Core.Bool.{true, false, not, true≢false, false≢true}
use mathlib.Core.List.{List}
use mathlib.Core.Logic.{◌↔◌, ⊎_elim}
use mathlib.Core.Path.{◌≡◌, refl, sym, ap, ap₂, subst}
use borrow.Author.Count.{below_more}
use borrow.Author.Tests.{not-true}
use native.Mathlib.Numerals.{add-one}
use native.Mathlib.Omega.{arith}
use Rattle.std.specs.Option.{option_or}
use Rattle.std.specs.Prelude.{Option, None, Some, is_some}
use Rattle.std.proofs.lemmas.Bool.{both_ways, cases_lt}
use Rattle.fields.specs.Tests.{same, pick}
use Rattle.fields.proofs.Choice.{is_same, not_same, same_true, same_false}
use Rattle.items.specs.declared.items.Statement.{Statement}
use Rattle.rules.specs.declared.clashes.Clash.{Clash}
use Rattle.rules.specs.Stated.{labelling, Stated}
use Rattle.rules.specs.declared.kinds.Kind.{Kind}
use Rattle.rules.specs.Facts.{Relation, Holds}
use Rattle.rules.specs.Derived.{derived, facts_of}
use Rattle.rules.specs.Clashes.{labels_differ, clashes_at, clash_between, clash_in_row, clash_in_rows, clash_of}
use Rattle.rules.specs.Clashes.{clashes}
use Rattle.rules.specs.Demand.{LeastClash, NoClash}
use Rattle.rules.proofs.Logic.{both, first_of_and, second_of_and, decided}
use Rattle.rules.proofs.Tables.{fact_row, fact_column}
use Rattle.rules.proofs.Some.{by_labelling, one_labelling}

-- two labels that differ, stated of i and of j
pub differ_by : {st : List Statement} {i j a b : ℕ} → Stated st (labelling i a) → Stated st (labelling j b)
    → (a ≡ b → ⊥) → labels_differ st i j ≡ true
unfolding labels_differ
differ_by {st} {i} {j} {a} {b} s s' d =
    by_labelling _ s (both (is_same i i refl) (by_labelling _ s' (both (is_same j j refl) (ap not (not_same a b d)))))

pub differ_of : {C : Type 0} (st : List Statement) (i j : ℕ) → labels_differ st i j ≡ true
    → ((a b : ℕ) → Stated st (labelling i a) → Stated st (labelling j b) → (a ≡ b → ⊥) → C) → C
unfolding labels_differ
differ_of st i j p next =
    one_labelling st _ p λ x a s q.
    one_labelling st _ (second_of_and (same i x) _ q) λ y b s' q'.
    next a b (subst (λ k. Stated st (labelling k a)) (sym (same_true i x (first_of_and _ _ q))) s)
    (subst (λ k. Stated st (labelling k b)) (sym (same_true j y (first_of_and _ _ q'))) s')
    (same_false a b (not-true _ (second_of_and (same j y) _ q')))

-- F5 applies to no pair of row i
abbrev Clear : ℕ → List Statement → Relation → ℕ → Type 0
Clear n st r i = (y : ℕ) → y < n → clashes_at st r i y ≡ false

-- what is told: that some rows are clear, or the least clash
abbrev Told : ℕ → List Statement → Relation → Type 0 → Option Clash → Type 0
Told n st r none None = none
Told n st r none (Some c) = LeastClash st r n c.first.0 c.second.0

-- a row from column j on, rows from row i on, and all of them, where there is no clash before
module _ (n : ℕ) (st : List Statement) (r : Relation) where
  row_told : (i : ℕ) → i < n → ((x : ℕ) → x < i → Clear n st r x) → (left j : ℕ) → left + j ≡ n
      → ((y : ℕ) → y < j → clashes_at st r i y ≡ false) → Told n st r (Clear n st r i) (clash_in_row left j st r i)
  unfolding clash_in_row pick
  row_told i h above zero j e before = λ y g. before y (omega arith)
  row_told i h above (suc left) j e before =
      decided (clashes_at st r i j)
      (λ p. rw p (record {
        row = h;
        column = omega arith;
        applies = p;
        least_row = λ x y b g. above x b y g;
        least_column = before;
      }))
      (λ p. rw p (row_told i h above left (suc j) (omega arith)
      (rw (add-one j) at (below_more (λ y. clashes_at st r i y ≡ false) j before p))))

  or_later : (i : ℕ) (c later : Option Clash) → Told n st r (Clear n st r i) c
      → (Clear n st r i → Told n st r (NoClash st r n) later) → Told n st r (NoClash st r n) (option_or c later)
  or_later i None later t next = next t
  or_later i (Some pair) later t next = t

  rows_told : (left i : ℕ) → left + i ≡ n → ((x : ℕ) → x < i → Clear n st r x)
      → Told n st r (NoClash st r n) (clash_in_rows left i n st r)
  unfolding clash_in_rows
  rows_told zero i e above = λ x y h g. above x (omega arith) y g
  rows_told (suc left) i e above =
      or_later i (clash_in_row n 0 st r i) (clash_in_rows left (suc i) n st r)
      (row_told i (omega arith) above n 0 (omega arith) (λ y g. absurd (omega arith)))
      (λ clear. rows_told left (suc i) (omega arith) (rw (add-one i) at (below_more (Clear n st r) i above clear)))

  told : Told n st r (NoClash st r n) (clash_in_rows n 0 n st r)
  told = rows_told n 0 (omega arith) (λ x h. absurd (omega arith))

  -- no clash is before the least, so there is one least
  row_first : (i j x y : ℕ) → LeastClash st r n i j → y < n → clashes_at st r x y ≡ true → i ≤ x
  row_first i j x y a g p =
      ⊎_elim (λ b. absurd (both_ways _ (a.least_row x y b g) p)) (λ e. e) (cases_lt x i)

  column_first : (i j y : ℕ) → LeastClash st r n i j → clashes_at st r i y ≡ true → j ≤ y
  column_first i j y a p =
      ⊎_elim (λ b. absurd (both_ways _ (a.least_column y b) p)) (λ e. e) (cases_lt y j)

  one_least : (i j x y : ℕ) → LeastClash st r n i j → LeastClash st r n x y → (i ≡ x) × (j ≡ y)
  one_least i j x y a b =
      let before = row_first i j x y a b.column b.applies in
      let behind = row_first x y i j b a.column a.applies in
      let e : i ≡ x = omega arith in
      (e, omega (arith, column_first i j y a (rw e b.applies), column_first x y j b (rw (← e) a.applies)))

  -- what is told is what holds
  least_told : (i j : ℕ) (c : Option Clash) → Told n st r (NoClash st r n) c → LeastClash st r n i j
      → c ≡ Some (clash_between i j)
  least_told i j None t a = absurd (both_ways _ (t i j a.row a.column) a.applies)
  least_told i j (Some c) t a =
      let e = one_least c.first.0 c.second.0 i j t a in
      ap₂ (λ k m. Some (clash_between k m)) e.0 e.1

  none_told : (c : Option Clash) → Told n st r (NoClash st r n) c → NoClash st r n → c ≡ None
  none_told None t a = refl
  none_told (Some c) t a = absurd (both_ways _ (a c.first.0 c.second.0 t.row t.column) t.applies)

  -- the search in all rows tells a pair just where it is the least, and nowhere just where there is none
  pub between_least : (i j : ℕ)
      → (clash_in_rows n 0 n st r ≡ Some (clash_between i j)) ↔ LeastClash st r n i j
  between_least i j = ((λ e. subst (Told n st r (NoClash st r n)) e told), least_told i j (clash_in_rows n 0 n st r) told)

  pub nowhere_none : (clash_in_rows n 0 n st r ≡ None) ↔ NoClash st r n
  nowhere_none = ((λ e. subst (Told n st r (NoClash st r n)) e told), none_told (clash_in_rows n 0 n st r) told)

-- a clash by its test
not_clash : (c : Option Clash) → is_some c ≡ false → c ≡ None
not_clash None e = refl
not_clash (Some pair) e = absurd (true≢false e)

is_clash_lem : {C : Type 0} (c : Option Clash) → is_some c ≡ true
    → ((i j : ℕ) → c ≡ Some (clash_between i j) → C) → C
is_clash_lem None e next = absurd (false≢true e)
is_clash_lem (Some c) e next = next c.first.0 c.second.0 refl

-- the clash of the derived facts
module _ (st : List Statement) (n : ℕ) where
  pub clash_least : (i j : ℕ)
      → (clash_of st n ≡ Some (clash_between i j)) ↔ LeastClash st (facts_of st n) n i j
  unfolding clash_of
  clash_least i j = between_least n st (facts_of st n) i j

  pub clash_nowhere : (clash_of st n ≡ None) ↔ NoClash st (facts_of st n) n
  unfolding clash_of
  clash_nowhere = nowhere_none n st (facts_of st n)

  -- whether there is a clash at all
  pub not_clashing : clashes st n ≡ false → NoClash st (facts_of st n) n
  unfolding clashes
  not_clashing e = clash_nowhere.0 (not_clash (clash_of st n) e)

  -- so compatible variables have equal labels
  pub labels_equal : clashes st n ≡ false → {i j a b : ℕ} → Holds (facts_of st n) Kind.Compatible i j
      → Stated st (labelling i a) → Stated st (labelling j b) → a ≡ b
  unfolding clashes_at
  labels_equal e {i} {j} {a} {b} p s s' =
      let t = derived st n in
      let clear = not_clashing e i j (fact_row n t Kind.Compatible i j p) (fact_column n t Kind.Compatible i j p) in
      decided (same a b) (same_true a b) λ d. absurd (both_ways _ clear (both p (differ_by s s' (same_false a b d))))

  pub clashing : {C : Type 0} → clashes st n ≡ true → ((i j : ℕ) → LeastClash st (facts_of st n) n i j → C) → C
  unfolding clashes
  clashing e next = is_clash_lem (clash_of st n) e λ i j p. next i j ((clash_least i j).0 p)
