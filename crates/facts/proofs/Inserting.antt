-- Insertion: the rows taken are what F1 and F3 give from the new fact, all of it and nothing else.
use Prim.Native.Nat.{ℕ, ◌<◌}
use lib.Bits.{bit_or, or_zero_r}
use mathlib.Core.Bool.{Bool, true, false, not}
use mathlib.Core.List.{List}
use mathlib.Core.Logic.{⊎_elim}
use mathlib.Core.Path.{◌≡◌, refl, sym, ap, subst, ◌∙◌}
use native.Mathlib.Omega.{arith}
use Rattle.std.proofs.lemmas.Bool.{both_ways, cases_eq}
use Rattle.fields.specs.Tests.{less, same, pick}
use Rattle.fields.proofs.Choice.{is_same, same_true, chosen, passed}
use Rattle.rules.specs.Connectives.{◌and◌, ◌or◌}
use Rattle.rules.specs.declared.kinds.Kind.{Kind}
use Rattle.rules.specs.Facts.{Relation, Holds, Within}
use Rattle.rules.specs.Tables.{says, cell_at, facts, Shape}
use Rattle.rules.proofs.Cells.{says_nothing}
use Rattle.rules.proofs.Logic.{decided, both, first_of_and}
use Rattle.rules.proofs.Tables.{fact_row, fact_column, fact_said}
use Rattle.table.specs.declared.cells.Kinds.{Kinds}
use Rattle.table.specs.Cells.{is_lacking}
use Rattle.table.specs.declared.queue.Entry.{Entry}
use Rattle.table.specs.Queue.{State, state}
use Rattle.facts.specs.Additions.{Said, Added, Framed, Steps}
use Rattle.facts.specs.Insertion.{Sides, along, back, RowsTaken, mark_of, cell_taken_at, Columns, Rows, Row}
use Rattle.facts.proofs.Joined.{cell_cases, says_already}

-- 2 says ~ alone
only_two : (P : Kind → Type 0) (kind : Kind) → says kind 2 ≡ true → P Kind.Compatible → P kind
unfolding says same ◌or◌
only_two P Kind.Ordered e p = absurd (both_ways _ refl e)
only_two P Kind.Compatible e p = p

says_two : says Kind.Compatible 2 ≡ true
unfolding says less
says_two = refl

not_ordered : Kind.Ordered ≡ Kind.Compatible → ⊥
unfolding says less same ◌or◌
not_ordered e = both_ways _ (sym (ap (λ k. says k 2) e)) says_two

-- a cell that says nothing is lacked nowhere
pub lacking_positive : (cell w : ℕ) → is_lacking cell w ≡ true → 0 < w
unfolding is_lacking
lacking_positive cell w e =
    ⊎_elim
    (λ p.
    let none : bit_or cell w ≡ cell = ap (bit_or cell) p ∙ or_zero_r cell in
    absurd (both_ways _ (ap not (is_same _ _ none)) e))
    (λ other. omega arith) (cases_eq w 0)

-- a cell that lacks nothing of w says all that w says
pub has_all : (kind : Kind) (cell w : ℕ) → cell < 4 → w < 4 → is_lacking cell w ≡ false → says kind w ≡ true
    → says kind cell ≡ true
unfolding is_lacking
has_all kind cell w h g e p =
    decided (same (bit_or cell w) cell) (λ q. says_already kind cell w h g (same_true _ _ q) p)
    (λ q. absurd (both_ways _ e (ap not q)))

-- the mark of a variable, by whether it is below u
pub mark_not_below : (n : ℕ) (t : List ℕ) (w u v x : ℕ) → says Kind.Ordered (cell_at n t x u) ≡ false
    → mark_of n t w u v x ≡ false
unfolding mark_of ◌and◌
mark_not_below n t w u v x e = rw e

pub mark_below : (n : ℕ) (t : List ℕ) (w u v x : ℕ) → says Kind.Ordered (cell_at n t x u) ≡ true
    → mark_of n t w u v x ≡ is_lacking (cell_at n t x v) w
unfolding mark_of ◌and◌
mark_below n t w u v x e = rw e

pub ruleset marks = (mark_not_below, mark_below)

-- what a cell that is looked at lacks, and what it says
pub ruleset lacking = (lacking_positive, has_all, fact_said)

-- a cell says ≤, or says ~ alone, or says nothing
says_some : (w : ℕ) → 0 < w → w < 4 → says Kind.Ordered w ≡ false → says Kind.Compatible w ≡ true
unfolding says same less ◌or◌
says_some w h g =
    cell_cases (λ x. 0 < x → says Kind.Ordered x ≡ false → says Kind.Compatible x ≡ true)
    (λ b p. absurd (omega arith)) (λ b p. absurd (both_ways _ p refl)) (λ b p. refl) (λ b p. refl) w g h

module _ (n : ℕ) (t : List ℕ) (w u v : ℕ) (shape : Shape n t) (framed : Framed n (facts n t))
    (some : 0 < w) (small : w < 4) (h : u < n) (g : v < n) where
  -- what a variable below u takes at y
  data Takes (kind : Kind) (y : ℕ) : Type 0 where
    by_order : says Kind.Ordered w ≡ true → Holds (facts n t) kind v y → Takes kind y
    by_both : kind ≡ Kind.Compatible → says Kind.Compatible w ≡ true → Holds (facts n t) Kind.Ordered y v → Takes kind y

  said : (kind : Kind) (i j : ℕ) → i < n → j < n → says kind (cell_at n t i j) ≡ true → Holds (facts n t) kind i j
  said kind i j a b p = fact_said n t kind i j a b ∙ p

  says_it : (kind : Kind) (i j : ℕ) → Holds (facts n t) kind i j → says kind (cell_at n t i j) ≡ true
  says_it kind i j p =
      sym (fact_said n t kind i j (fact_row n t kind i j p) (fact_column n t kind i j p)) ∙ p

  -- what is below is compatible, both ways
  meets : (i j : ℕ) → Holds (facts n t) Kind.Ordered i j → Holds (facts n t) Kind.Compatible j i
  meets i j p =
      framed.symmetric i j
      (framed.through Kind.Compatible i j j p (framed.reflexive Kind.Compatible j (fact_column n t Kind.Ordered i j p)))

  -- a row that is taken says what a variable takes
  row_said : (kind : Kind) (y : ℕ) → y < n → says kind (cell_taken_at n t w v y) ≡ true → Takes kind y
  unfolding cell_taken_at pick
  row_said kind y b =
      of (says Kind.Ordered w) (says Kind.Ordered (cell_at n t y v)) refl refl
    where
      of : (a c : Bool) → says Kind.Ordered w ≡ a → says Kind.Ordered (cell_at n t y v) ≡ c
          → says kind (pick a (cell_at n t v y) (pick c 2 0)) ≡ true → Takes kind y
      of true c p q e = by_order p (said kind v y g b e)
      of false true p q e =
          by_both (only_two (λ k. k ≡ Kind.Compatible) kind e refl) (says_some w some small p)
          (said Kind.Ordered y v b g q)
      of false false p q e = absurd (both_ways _ (says_nothing kind) e)

  row_ordered : (kind : Kind) (y : ℕ) → says Kind.Ordered w ≡ true → Holds (facts n t) kind v y
      → says kind (cell_taken_at n t w v y) ≡ true
  unfolding cell_taken_at
  row_ordered kind y p q = sym (ap (says kind) (chosen _ _ _ p refl)) ∙ says_it kind v y q

  row_compatible : (y : ℕ) → Holds (facts n t) Kind.Ordered y v → says Kind.Compatible (cell_taken_at n t w v y) ≡ true
  unfolding cell_taken_at
  row_compatible y q =
      decided (says Kind.Ordered w) (λ a. row_ordered Kind.Compatible y a (meets y v q))
      (λ a. ap (says Kind.Compatible) (sym (passed _ _ _ a (chosen _ _ 0 (says_it Kind.Ordered y v q) refl)))
      ∙ says_two)

  said_row : (kind : Kind) (y : ℕ) → Takes kind y → says kind (cell_taken_at n t w v y) ≡ true
  said_row kind y (by_order p q) = row_ordered kind y p q
  said_row kind y (by_both e p q) =
      subst (λ k. says k (cell_taken_at n t w v y) ≡ true) (sym e) (row_compatible y q)

  -- it is a row of cells
  taken_small : (y : ℕ) → y < n → cell_taken_at n t w v y < 4
  unfolding cell_taken_at pick
  taken_small y b = of (says Kind.Ordered w) (says Kind.Ordered (cell_at n t y v))
    where
      of : (a c : Bool) → pick a (cell_at n t v y) (pick c 2 0) < 4
      of true c = shape.cells v y g b
      of false true = omega arith
      of false false = omega arith

  pub row_cells : (row : List Kinds) → Rows n t w v row → Row n row
  row_cells row rows = record { cells = λ y b. rw (rows.cells y b) (taken_small y b) }

  -- a variable that is marked is below u, and one below u is marked or has it all
  marked_below : (x : ℕ) → x < n → mark_of n t w u v x ≡ true → Holds (facts n t) Kind.Ordered x u
  unfolding mark_of
  marked_below x b e = said Kind.Ordered x u b h (first_of_and _ _ e)

  below_marked : {C : Type 0} (x : ℕ) → Holds (facts n t) Kind.Ordered x u → (mark_of n t w u v x ≡ true → C)
      → (((kind : Kind) → says kind w ≡ true → Holds (facts n t) kind x v) → C) → C
  unfolding mark_of
  below_marked x p mark there =
      let b = fact_row n t Kind.Ordered x u p in
      decided (is_lacking (cell_at n t x v) w) (λ a. mark (both (says_it Kind.Ordered x u p) a))
      (λ a. there (λ kind q. said kind x v b g (has_all kind _ w (shape.cells x v b g) small a q)))

  module _ (q : List Entry) (s' : State) (column : List Bool) (row : List Kinds) (columns : Columns n t w u v column)
      (rows : Rows n t w v row) (added : Added n (RowsTaken n column row) (state t q) s') where
    -- what is taken is a fact of the new table, on both sides
    taken_at : (kind : Kind) (x y i j : ℕ) → Holds (facts n t) Kind.Ordered x u → y < n → mark_of n t w u v x ≡ true
        → Sides (cell_taken_at n t w v y) x y kind i j → Holds (facts n s'.table) kind i j
    taken_at kind x y i j p b mark sides =
        let a = fact_row n t Kind.Ordered x u p in
        added.given kind i j
        (record {
          at = x;
          behind = omega arith;
          ahead = a;
          holds =
              record {
                set = columns.marks x a ∙ mark;
                takes =
                    record {
                      at = y;
                      behind = omega arith;
                      ahead = b;
                      holds = rw (rows.cells y b) sides;
                    };
              };
        })

    takes_column : (kind : Kind) (y : ℕ) → Takes kind y → y < n
    takes_column kind y (by_order p q) = fact_column n t kind v y q
    takes_column kind y (by_both e p q) = fact_row n t Kind.Ordered y v q

    -- where the fact was there already, so is what follows from it
    follows : (kind : Kind) (x y : ℕ) → ((k : Kind) → says k w ≡ true → Holds (facts n t) k x v) → Takes kind y
        → Holds (facts n t) kind x y
    follows kind x y there (by_order p q) = framed.through kind x v y (there Kind.Ordered p) q
    follows kind x y there (by_both e p q) =
        subst (λ k. Holds (facts n t) k x y) (sym e)
        (framed.symmetric y x (framed.through Kind.Compatible y v x q (framed.symmetric x v (there Kind.Compatible p))))

    gives : (kind : Kind) (x y : ℕ) → Holds (facts n t) Kind.Ordered x u → Takes kind y
        → Holds (facts n s'.table) kind x y
    gives kind x y p takes =
        below_marked x p
        (λ mark.
        taken_at kind x y x y p (takes_column kind y takes) mark
        (along (record { first = refl; second = refl; told = said_row kind y takes })))
        (λ there. added.moves.grows kind x y (follows kind x y there takes))

    turns : (x y : ℕ) → Holds (facts n t) Kind.Ordered x u → Takes Kind.Compatible y
        → Holds (facts n s'.table) Kind.Compatible y x
    turns x y p takes =
        below_marked x p
        (λ mark.
        taken_at Kind.Compatible x y y x p (takes_column Kind.Compatible y takes) mark
        (back (said_row Kind.Compatible y takes) (record { first = refl; second = refl; told = says_two })))
        (λ there. added.moves.grows Kind.Compatible y x
        (framed.symmetric x y (follows Kind.Compatible x y there takes)))

    -- where a fact of the new table comes from
    data From (kind : Kind) (i j : ℕ) : Type 0 where
      old : Holds (facts n t) kind i j → From kind i j
      new : Holds (facts n t) Kind.Ordered i u → Takes kind j → From kind i j
      turned : kind ≡ Kind.Compatible → Holds (facts n t) Kind.Ordered j u → Takes Kind.Compatible i → From kind i j

    from_sides : (kind : Kind) (x y i j : ℕ) → x < n → y < n → Holds (facts n t) Kind.Ordered x u
        → Sides (cell_taken_at n t w v y) x y kind i j → From kind i j
    from_sides kind x y i j a b p (along s) =
        rw (s.first, s.second) (new p (row_said kind y b s.told))
    from_sides kind x y i j a b p (back c s) =
        rw (s.first, s.second)
        (turned (only_two (λ k. k ≡ Kind.Compatible) kind s.told refl) p (row_said Kind.Compatible y b c))

    from : (kind : Kind) (i j : ℕ) → Holds (facts n s'.table) kind i j → From kind i j
    from kind i j p =
        ⊎_elim old
        (λ a.
        let m = a.holds in
        let b = m.takes in
        from_sides kind a.at b.at i j a.ahead b.ahead
        (marked_below a.at a.ahead (sym (columns.marks a.at a.ahead) ∙ m.set))
        (rw (rows.cells b.at b.ahead) at b.holds))
        (added.only kind i j p)

    -- what is taken goes down along ≤ for ~, and up for both
    takes_less : (i j : ℕ) → Holds (facts n t) Kind.Ordered i j → Takes Kind.Compatible j → Takes Kind.Compatible i
    takes_less i j p (by_order a q) =
        by_order a (framed.symmetric i v (framed.through Kind.Compatible i j v p (framed.symmetric v j q)))
    takes_less i j p (by_both e a q) = by_both e a (framed.through Kind.Ordered i j v p q)

    takes_more : (kind : Kind) (j k : ℕ) → Takes Kind.Ordered j → Holds (facts n t) kind j k → Takes kind k
    takes_more kind j k (by_order a q) p = by_order a (framed.through kind v j k q p)
    takes_more kind j k (by_both e a q) p = absurd (not_ordered e)

    -- F1.2, F3.2 of the new table, by where the two facts come from
    through_from : (kind : Kind) (i j k : ℕ) → From Kind.Ordered i j → From kind j k → Holds (facts n s'.table) kind i k
    through_from kind i j k (old p) (old q) = added.moves.grows kind i k (framed.through kind i j k p q)
    through_from kind i j k (old p) (new q takes) = gives kind i k (framed.through Kind.Ordered i j u p q) takes
    through_from kind i j k (old p) (turned e q takes) =
        subst (λ x. Holds (facts n s'.table) x i k) (sym e) (turns k i q (takes_less i j p takes))
    through_from kind i j k (new p takes) (old q) = gives kind i k p (takes_more kind j k takes q)
    through_from kind i j k (new p takes) (new q takes') = gives kind i k p takes'
    through_from kind i j k (new p takes) (turned e q takes') =
        subst (λ x. Holds (facts n s'.table) x i k) (sym e)
        (added.moves.grows Kind.Compatible i k (framed.through Kind.Compatible i u k p (meets k u q)))
    through_from kind i j k (turned e p takes) q = absurd (not_ordered e)

    symmetric_from : (i j : ℕ) → From Kind.Compatible i j → Holds (facts n s'.table) Kind.Compatible j i
    symmetric_from i j (old p) = added.moves.grows Kind.Compatible j i (framed.symmetric i j p)
    symmetric_from i j (new p takes) = turns i j p takes
    symmetric_from i j (turned e p takes) = gives Kind.Compatible j i p takes

    new_framed : Framed n (facts n s'.table)
    new_framed =
        record {
          reflexive = λ kind i b. added.moves.grows kind i i (framed.reflexive kind i b);
          through = λ kind i j k p q. through_from kind i j k (from Kind.Ordered i j p) (from kind j k q);
          symmetric = λ i j p. symmetric_from i j (from Kind.Compatible i j p);
        }

    -- the fact itself
    takes_self : (kind : Kind) → says kind w ≡ true → Takes kind v
    takes_self Kind.Ordered p = by_order p (framed.reflexive Kind.Ordered v g)
    takes_self Kind.Compatible p = by_both refl p (framed.reflexive Kind.Ordered v g)

    has_fact : (kind : Kind) (i j : ℕ) → Said w u v kind i j → Holds (facts n s'.table) kind i j
    has_fact kind i j p =
        rw (p.first, p.second) (gives kind u v (framed.reflexive Kind.Ordered u h) (takes_self kind p.told))

    -- and nothing that another closed set with the fact lacks
    module _ (r : Relation) (closed : Framed n r) (within : Within (facts n t) r)
        (has : (kind : Kind) → says kind w ≡ true → Holds r kind u v) where
      takes_within : (kind : Kind) (i j : ℕ) → Holds (facts n t) Kind.Ordered i u → Takes kind j → Holds r kind i j
      takes_within kind i j p (by_order a q) =
          closed.through kind i v j (closed.through Kind.Ordered i u v (within Kind.Ordered i u p) (has Kind.Ordered a))
          (within kind v j q)
      takes_within kind i j p (by_both e a q) =
          subst (λ k. Holds r k i j) (sym e)
          (closed.symmetric j i
          (closed.through Kind.Compatible j v i (within Kind.Ordered j v q)
          (closed.symmetric i v (closed.through Kind.Compatible i u v (within Kind.Ordered i u p)
          (has Kind.Compatible a)))))

      from_within : (kind : Kind) (i j : ℕ) → From kind i j → Holds r kind i j
      from_within kind i j (old p) = within kind i j p
      from_within kind i j (new p takes) = takes_within kind i j p takes
      from_within kind i j (turned e p takes) =
          subst (λ k. Holds r k i j) (sym e) (closed.symmetric j i (takes_within Kind.Compatible j i p takes))

    pub inserted : Steps n (Said w u v) (state t q) s'
    inserted =
        record {
          moves = added.moves;
          framed = new_framed;
          given = has_fact;
          within = λ r closed old_within has kind i j p.
              from_within r closed old_within
              (λ k a. has k u v (record { first = refl; second = refl; told = a })) kind i j (from kind i j p);
        }
