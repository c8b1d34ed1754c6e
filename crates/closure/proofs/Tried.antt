-- What a trial tells: whether the statements with the question clash.
use Prim.Native.Nat.{ℕ}
use lib.ListN.{length}
use mathlib.Core.Bool.{Bool, true}
use mathlib.Core.List.{List, [], ◌∷◌, ◌++◌}
use mathlib.Core.Logic.{⊎_elim}
use mathlib.Core.Path.{◌≡◌, sym, subst}
use Rattle.std.proofs.lemmas.Bool.{both_ways}
use Rattle.items.specs.declared.items.Statement.{Statement}
use Rattle.items.specs.Statements.{Names, AllName}
use Rattle.rules.specs.Stated.{labelling, Stated}
use Rattle.rules.specs.declared.kinds.Kind.{Kind}
use Rattle.rules.specs.Facts.{fact, Holds, Within}
use Rattle.rules.specs.Tables.{facts}
use Rattle.rules.specs.Derived.{derived, facts_of}
use Rattle.rules.specs.Clashes.{labels_differ, clashes_at, clashes}
use Rattle.rules.proofs.Clashing.{differ_by, differ_of, clashing, not_clashing}
use Rattle.rules.proofs.Derived.{smallest, derived_closed}
use Rattle.rules.proofs.Lists.{all_with}
use Rattle.rules.proofs.More.{still, last_stated, stated_of}
use Rattle.rules.proofs.Logic.{both, first_of_and, second_of_and, decided, same_tests}
use Rattle.rules.proofs.Tables.{fact_row, fact_column}
use Rattle.table.specs.Queue.{entry_at, Queued}
use Rattle.facts.specs.Additions.{Facts}
use Rattle.selections.specs.declared.grouped.Groups.{Groups}
use Rattle.selections.specs.Stands.{Selected, SelectionsStand}
use Rattle.labels.specs.declared.spread.Spread.{Spread}
use Rattle.labels.specs.Labels.{NoLabelling}
use Rattle.answers.proofs.OneLabel.{fewer_closed}
use Rattle.derivation.proofs.Equal.{derived_framed, derived_stated, derived_descends, settled_derived}
use Rattle.closure.specs.Trials.{entry_clashes, QueuedClash, Searched, Standing, Consistent}

-- the facts and selections that are tried are those that q states beyond st
pub record States (n : ℕ) (st : List Statement) (q : Statement) (selected : Selected) (P : Facts) : Type 0 where
  pub no_label : NoLabelling q
  pub selections : SelectionsStand n (st ++ (q ∷ [])) selected
  pub told : (kind : Kind) (i j : ℕ) → fact kind i j ≡ q → P kind i j
  pub only : (kind : Kind) (i j : ℕ) → P kind i j → fact kind i j ≡ q

-- one statement more: facts and labels stay, and so does a clash
module _ (n : ℕ) (st : List Statement) (q : Statement) (all : AllName n st) (names : Names n q) where
  abbrev more : List Statement
  more = st ++ (q ∷ [])

  named : AllName n more
  named = all_with (Names n) st q all names

  stays : Within (facts_of st n) (facts_of more n)
  stays = smallest n st _ (fewer_closed (λ x other s. still q s) (derived_closed n more named))

  more_differ : (i j : ℕ) → labels_differ st i j ≡ true → labels_differ more i j ≡ true
  more_differ i j p = differ_of st i j p λ a b s s' d. differ_by (still q s) (still q s') d

  -- by a pair to which F5 applies
  by_pair : (i j : ℕ) → Holds (facts_of more n) Kind.Compatible i j → labels_differ st i j ≡ true
      → clashes more n ≡ true
  unfolding clashes_at
  by_pair i j alike differ =
      decided (clashes more n) (λ c. c)
      (λ c.
      absurd (both_ways _
      (not_clashing more n c i j (fact_row n _ Kind.Compatible i j alike) (fact_column n _ Kind.Compatible i j alike))
      (both alike (more_differ i j differ))))

  pub still_clashes : clashes st n ≡ true → clashes (st ++ (q ∷ [])) n ≡ true
  unfolding clashes_at
  still_clashes p =
      clashing st n p λ i j least.
      by_pair i j (stays Kind.Compatible i j (first_of_and _ _ least.applies))
      (second_of_and (facts_of st n Kind.Compatible i j) _ least.applies)

module _ {n : ℕ} {st : List Statement} {closed : List ℕ} {groups : Groups} {spreads : List Spread}
    {q : Statement}
    {selected : Selected} {P : Facts} {r : Bool}
    (consistent : Consistent n closed groups spreads st) (names : Names n q)
    (states : States n st q selected P) (searched : Searched n selected P closed spreads r) where
  abbrev stands : Standing n closed groups spreads st
  stands = consistent.stands

  abbrev with_q : List Statement
  with_q = st ++ (q ∷ [])

  all_named : AllName n with_q
  all_named = named n st q stands.names names

  -- the closed table has the derived facts of st
  old_fact : (kind : Kind) (i j : ℕ) → Holds (facts_of st n) kind i j → Holds (facts n closed) kind i j
  old_fact kind i j p = rw stands.derives p

  fact_old : (kind : Kind) (i j : ℕ) → Holds (facts n closed) kind i j → Holds (facts_of st n) kind i j
  fact_old kind i j p = rw stands.derives at p

  tried_table : searched.table ≡ derived with_q n
  tried_table =
      let tries = searched.tries in
      settled_derived n with_q all_named states.selections searched.table tries.shape tries.framed
      tries.descends
      (λ kind i j s.
      stated_of st q s
      (λ m. tries.grows kind i j (old_fact kind i j (derived_stated n st stands.names kind i j m)))
      (λ e. tries.given kind i j (states.told kind i j e)))
      (tries.within (facts_of with_q n) (derived_framed n with_q all_named)
      (derived_descends n with_q all_named states.selections)
      (λ kind i j p. stays n st q stands.names names kind i j (fact_old kind i j p))
      (λ kind i j p.
      derived_stated n with_q all_named kind i j
      (subst (λ x. Stated with_q x) (sym (states.only kind i j p)) (last_stated st q))))

  -- the question states no label
  labelled : (i a : ℕ) → Stated with_q (labelling i a) → Stated st (labelling i a)
  labelled i a s =
      stated_of st q s (λ m. m) (λ e. absurd (subst NoLabelling (sym e) states.no_label))

  less_differ : (i j : ℕ) → labels_differ with_q i j ≡ true → labels_differ st i j ≡ true
  less_differ i j p = differ_of with_q i j p λ a b s s' d. differ_by (labelled i a s) (labelled j b s') d

  -- an entry of the queue that clashes
  entry_clash : QueuedClash n searched.table st searched.queue searched.from
      → clashes with_q n ≡ true
  unfolding entry_clashes clashes_at
  entry_clash e =
      let entry = entry_at searched.queue e.at in
      let alike : Holds (facts n searched.table) Kind.Compatible entry.first.0 entry.second.0 =
      first_of_and _ _ e.applies in
      by_pair n st q stands.names names entry.first.0 entry.second.0 (rw tried_table at alike)
      (second_of_and (facts n searched.table Kind.Compatible entry.first.0 entry.second.0) _ e.applies)

  -- a clash is of a pair in the queue
  pair_queued : (i j : ℕ) → Holds (facts_of with_q n) Kind.Compatible i j → labels_differ st i j ≡ true
      → Queued searched.queue searched.from (length searched.queue) i j
  unfolding clashes_at
  pair_queued i j p d =
      ⊎_elim
      (λ o.
      let before = fact_old Kind.Compatible i j o in
      absurd (both_ways _ (not_clashing st n consistent.clear i j (fact_row n _ Kind.Compatible i j before)
      (fact_column n _ Kind.Compatible i j before))
      (both before d)))
      (λ e. e)
      (searched.tries.queued Kind.Compatible i j (rw tried_table p))

  clash_entry : clashes with_q n ≡ true
      → QueuedClash n searched.table st searched.queue searched.from
  unfolding entry_clashes clashes_at
  clash_entry p =
      clashing with_q n p λ i j least.
      let alike : Holds (facts_of with_q n) Kind.Compatible i j = first_of_and _ _ least.applies in
      let differ = less_differ i j (second_of_and (facts_of with_q n Kind.Compatible i j) _ least.applies) in
      let e = pair_queued i j alike differ in
      record {
        at = e.at;
        behind = e.behind;
        ahead = e.ahead;
        applies = rw (e.first, e.second) (both (rw tried_table alike) differ);
      }

  pub tried_answer : r ≡ clashes (st ++ (q ∷ [])) n
  tried_answer =
      let told = searched.found.told st stands.labelled in
      same_tests r (clashes with_q n) (λ p. entry_clash (told.0 p)) (λ p. told.1 (clash_entry p))
