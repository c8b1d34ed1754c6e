-- One round: it gives what a rule gives, and nothing outside a closed set.
use Prim.Native.Nat.{ℕ, ◌<◌}
use mathlib.Core.Bool.{true, false≢true}
use mathlib.Core.List.{List}
use mathlib.Core.Path.{◌≡◌, refl}
use Rattle.fields.specs.Tests.{same}
use Rattle.fields.proofs.Choice.{is_same, same_true}
use Rattle.items.specs.declared.items.Statement.{Statement}
use Rattle.rules.specs.Connectives.{◌and◌, ◌or◌}
use Rattle.rules.specs.Stated.{selection, Stated}
use Rattle.rules.specs.declared.kinds.Kind.{Kind}
use Rattle.rules.specs.Facts.{fact, Relation, Holds, Into, Closed}
use Rattle.rules.specs.Derived.{is_stated, passes, turns, descends, round}
use Rattle.rules.proofs.Logic.{both, first_of_and, second_of_and, either_first, either_second, either_of}
use Rattle.rules.proofs.Some.{below_by, below_one, by_ordering, by_compatibility, by_selection, one_ordering}
use Rattle.rules.proofs.Some.{one_compatibility, one_selection}

-- the test for a pair of numbers, and what it tells
is_pair : (i j : ℕ) → same i i and same j j ≡ true
is_pair i j = both (is_same i i refl) (is_same j j refl)

pair_of : (R : ℕ → ℕ → Type 0) (i j x y : ℕ) → same i x and same j y ≡ true → R x y → R i j
pair_of R i j x y q s = rw (same_true i x (first_of_and _ _ q), same_true j y (second_of_and (same i x) _ q)) s

-- the fact is stated just where the test says so
fact_stated : (st : List Statement) (kind : Kind) (i j : ℕ) → Stated st (fact kind i j) → is_stated st kind i j ≡ true
unfolding is_stated
fact_stated st Kind.Ordered i j m = by_ordering _ m (is_pair i j)
fact_stated st Kind.Compatible i j m = by_compatibility _ m (is_pair i j)

stated_fact : (st : List Statement) (kind : Kind) (i j : ℕ) → is_stated st kind i j ≡ true → Stated st (fact kind i j)
unfolding is_stated
stated_fact st Kind.Ordered i j p =
    one_ordering st _ p λ x y m q. pair_of (λ a b. Stated st (fact Kind.Ordered a b)) i j x y q m
stated_fact st Kind.Compatible i j p =
    one_compatibility st _ p λ x y m q. pair_of (λ a b. Stated st (fact Kind.Compatible a b)) i j x y q m

-- a round gives what held, and by each rule what follows from it
module _ (st : List Statement) (n : ℕ) (r : Relation) where
  pub keeps : (kind : Kind) (i j : ℕ) → Holds r kind i j → Holds (round st n r) kind i j
  unfolding round
  keeps kind i j p = either_first _ p

  pub gives_same : (kind : Kind) (i : ℕ) → Holds (round st n r) kind i i
  unfolding round
  gives_same kind i = either_second (r kind i i) (either_first _ (is_same i i refl))

  pub gives_stated : (kind : Kind) (i j : ℕ) → Stated st (fact kind i j) → Holds (round st n r) kind i j
  unfolding round
  gives_stated kind i j m =
      either_second (r kind i j) (either_second (same i j) (either_first _ (fact_stated st kind i j m)))

  -- a rule that takes facts
  gives : (kind : Kind) (i j : ℕ) → passes n r kind i j or (turns r kind i j or descends st r kind i j) ≡ true
      → Holds (round st n r) kind i j
  unfolding round
  gives kind i j p = either_second (r kind i j) (either_second (same i j) (either_second (is_stated st kind i j) p))

  pub gives_through : (kind : Kind) (i j k : ℕ) → j < n → Holds r Kind.Ordered i j → Holds r kind j k
      → Holds (round st n r) kind i k
  unfolding passes
  gives_through kind i j k h p q = gives kind i k (either_first _ (below_by _ n j h (both p q)))

  pub gives_turned : (i j : ℕ) → Holds r Kind.Compatible i j → Holds (round st n r) Kind.Compatible j i
  unfolding turns
  gives_turned i j p = gives Kind.Compatible j i (either_second (passes n r Kind.Compatible j i) (either_first _ p))

  pub gives_child : (kind : Kind) (f i i' j j' : ℕ) → Stated st (selection i f i') → Holds r kind i j
      → Stated st (selection j f j') → Holds (round st n r) kind i' j'
  unfolding descends
  gives_child kind f i i' j j' m p o =
      gives kind i' j' (either_second (passes n r kind i' j') (either_second (turns r kind i' j')
      (by_selection _ m (both (is_same i' i' refl)
      (by_selection _ o (both (is_same j' j' refl) (both (is_same f f refl) p)))))))

-- from facts of a closed set a round gives facts of that set
module _ (n : ℕ) (st : List Statement) (R : Kind → ℕ → ℕ → Type 0) (closed : Closed n st R)
    (r : Relation) (within : Into r R) where
  passes_within : (kind : Kind) (i j : ℕ) → passes n r kind i j ≡ true → R kind i j
  unfolding passes
  passes_within kind i j p =
      below_one n _ p λ k h q.
      closed.through kind i k j (within Kind.Ordered i k (first_of_and _ _ q))
      (within kind k j (second_of_and (r Kind.Ordered i k) _ q))

  turns_within : (kind : Kind) (i j : ℕ) → turns r kind i j ≡ true → R kind i j
  unfolding turns
  turns_within Kind.Ordered i j p = absurd (false≢true p)
  turns_within Kind.Compatible i j p = closed.symmetric j i (within Kind.Compatible j i p)

  descends_within : (kind : Kind) (i j : ℕ) → descends st r kind i j ≡ true → R kind i j
  unfolding descends
  descends_within kind i j p =
      one_selection st _ p λ x f x' m q.
      one_selection st _ (second_of_and (same i x') _ q) λ y g y' o s.
      let twin = second_of_and (same j y') _ s in
      let e : i ≡ x' = same_true i x' (first_of_and _ _ q) in
      let e' : j ≡ y' = same_true j y' (first_of_and _ _ s) in
      let same_feature : f ≡ g = same_true f g (first_of_and _ _ twin) in
      let related = within kind x y (second_of_and (same f g) _ twin) in
      rw (e, e') (closed.descends kind f x x' y y' m related (rw same_feature o))

  pub round_within : (kind : Kind) (i j : ℕ) → i < n → Holds (round st n r) kind i j → R kind i j
  unfolding round
  round_within kind i j h p =
      either_of _ _ p (within kind i j) λ p₁.
      either_of _ _ p₁ (λ e. rw (← same_true i j e) (closed.reflexive kind i h)) λ p₂.
      either_of _ _ p₂ (λ q. closed.stated kind i j (stated_fact st kind i j q)) λ p₃.
      either_of _ _ p₃ (passes_within kind i j) λ p₄.
      either_of _ _ p₄ (turns_within kind i j) (descends_within kind i j)
