-- One label more: the derived facts stay, and a clash is one with a label that was stated. Where nothing clashes no
-- variable has two different labels.
use Prim.Native.Nat.{ℕ, ◌<◌}
use mathlib.Core.Bool.{Bool, true, false, ◌&&◌}
use mathlib.Core.List.{List, [], ◌∷◌, ◌++◌}
use mathlib.Core.Path.{◌≡◌, sym, ap, subst, ◌∙◌}
use Rattle.std.specs.List.{list_any, range_with_len}
use Rattle.std.proofs.lemmas.Bool.{both_ways, false_from_ne_true}
use Rattle.items.specs.declared.items.Statement.{Statement}
use Rattle.items.specs.Statements.{Names, AllName}
use Rattle.rules.specs.Connectives.{◌and◌}
use Rattle.rules.specs.Stated.{labelling, Stated, any_below}
use Rattle.rules.specs.declared.kinds.Kind.{Kind}
use Rattle.rules.specs.Facts.{Relation, fact, Closed}
use Rattle.rules.specs.Tables.{facts}
use Rattle.rules.specs.Derived.{derived, facts_of}
use Rattle.rules.specs.Clashes.{labels_differ, clashes_at, clashes}
use Rattle.rules.proofs.Logic.{both, first_of_and, second_of_and, decided, same_tests}
use Rattle.rules.proofs.Some.{below_by, below_one}
use Rattle.rules.proofs.Lists.{all_with}
use Rattle.rules.proofs.More.{still, last_stated, stated_of}
use Rattle.rules.proofs.Derived.{smallest, derived_shape, derived_closed, is_derived}
use Rattle.rules.proofs.Clashing.{differ_by, differ_of, clashing, not_clashing, labels_equal}
use Rattle.labels.specs.declared.spread.Spread.{Spread}
use Rattle.labels.specs.Spreads.{spread_at, has_other}
use Rattle.labels.specs.Labels.{LabelsStand, NoLabelling, other_stated}
use Rattle.labels.proofs.Kept.{no_label, subject_of, label_of, other_by, other_of, other_told, several_two}
use Rattle.answers.specs.Supports.{SingleLabels}
use Rattle.answers.proofs.Logic.{second_alike}
use Rattle.answers.proofs.Ranges.{any_in_range, same_below}

-- j is alike to i and has a label other than a
unfoldable pub meets : Relation → List Statement → ℕ → ℕ → ℕ → Bool
meets r st i a j = r Kind.Compatible i j and other_stated st j a

-- the same by the spreads of labels
abbrev pub met_at : Relation → List Spread → ℕ → ℕ → ℕ → Bool
met_at r spreads i a j = r Kind.Compatible i j && has_other (spread_at spreads j) a

pub met_sought : {n : ℕ} (r : Relation) {st : List Statement} {spreads : List Spread} → LabelsStand n st spreads
    → (i a : ℕ) → list_any (met_at r spreads i a) (range_with_len 0 n) ≡ any_below n (meets r st i a)
unfolding meets
met_sought {n} r {st} {spreads} stand i a =
    any_in_range (met_at r spreads i a) n
    ∙ same_below n (met_at r spreads i a) _ λ j h. second_alike (r Kind.Compatible i j) (other_told (stand.at j h) a)

-- what is closed by more statements, labels aside, is closed by fewer
pub fewer_closed : {n : ℕ} {st st' : List Statement} {R : Kind → ℕ → ℕ → Type 0}
    → ((x : Statement) → NoLabelling x → Stated st x → Stated st' x) → Closed n st' R → Closed n st R
fewer_closed more c =
    record {
      stated = λ kind i j m. c.stated kind i j (more (fact kind i j) (no_label kind i j) m);
      reflexive = c.reflexive;
      through = c.through;
      symmetric = c.symmetric;
      descends = λ kind f i i' j j' s p s'. c.descends kind f i i' j j' (more _ tt s) p (more _ tt s');
    }

module _ (n : ℕ) (st : List Statement) (names : AllName n st) (i a : ℕ) (h : i < n) where
  -- with the label behind the statements
  list_with_label : List Statement
  list_with_label = st ++ (labelling i a ∷ [])

  names_more : AllName n list_with_label
  unfolding list_with_label
  names_more = all_with (Names n) st (labelling i a) names h

  no_more : (x : Statement) → NoLabelling x → Stated list_with_label x → Stated st x
  unfolding list_with_label
  no_more x other m = stated_of st _ m (λ s. s) (λ e. absurd (subst NoLabelling e other))

  -- the derived facts do not depend on labels
  pub same_derived : derived st n ≡ derived (st ++ (labelling i a ∷ [])) n
  unfolding list_with_label
  same_derived =
      is_derived n list_with_label (derived st n) (derived_shape n st)
      (fewer_closed no_more (derived_closed n st names))
      (smallest n st _ (fewer_closed (λ x other s. still _ s) (derived_closed n list_with_label names_more)))

  -- where a pair clashes there is a clash
  clash_at : (x y : ℕ) → x < n → y < n → facts_of st n Kind.Compatible x y ≡ true
      → labels_differ list_with_label x y ≡ true
      → clashes list_with_label n ≡ true
  unfolding list_with_label clashes_at
  clash_at x y g g' p d =
      decided (clashes list_with_label n) (λ e. e)
      (λ e. absurd (both_ways _ (not_clashing list_with_label n e x y g g') (both (rw same_derived at p) d)))

  met : any_below n (meets (facts_of st n) st i a) ≡ true → clashes list_with_label n ≡ true
  unfolding list_with_label meets
  met p =
      below_one n _ p λ j g test.
      other_of st j a (second_of_and (facts_of st n Kind.Compatible i j) _ test) λ b s d.
      clash_at i j h g (first_of_and _ _ test) (differ_by (last_stated st _) (still _ s) d)

  -- of two labels that clash one is the last, and the other was stated
  meets_by : (x b : ℕ) → x < n → facts_of st n Kind.Compatible i x ≡ true → Stated st (labelling x b) → (a ≡ b → ⊥)
      → any_below n (meets (facts_of st n) st i a) ≡ true
  unfolding meets
  meets_by x b g p s d = below_by _ n x g (both p (other_by s d))

  clashed : clashes st n ≡ false → clashes list_with_label n ≡ true → any_below n (meets (facts_of st n) st i a) ≡ true
  unfolding list_with_label clashes_at
  clashed clear p =
      clashing list_with_label n p λ x y least.
      let alike : facts_of st n Kind.Compatible x y ≡ true = rw same_derived (first_of_and _ _ least.applies) in
      let turned = (derived_closed n st names).symmetric x y alike in
      differ_of list_with_label x y (second_of_and _ _ least.applies) λ b c s s' d.
      stated_of st _ s
      (λ old. stated_of st _ s'
      (λ old'. absurd (both_ways _ (not_clashing st n clear x y least.row least.column)
      (both alike (differ_by old old' d))))
      (λ new'. meets_by x b least.row (rw (← ap subject_of new') turned) old
      (λ e. d (sym e ∙ sym (ap label_of new')))))
      (λ new. stated_of st _ s'
      (λ old'. meets_by y c least.column (rw (← ap subject_of new) alike) old' (λ e. d (ap label_of new ∙ e)))
      (λ new'. absurd (d (ap label_of new ∙ sym (ap label_of new')))))

  pub label_clash : (t : List ℕ) → t ≡ derived st n → clashes st n ≡ false
      → any_below n (meets (facts n t) st i a) ≡ clashes (st ++ (labelling i a ∷ [])) n
  unfolding list_with_label
  label_clash t e clear = rw e (same_tests _ _ met (clashed clear))

-- i ~ i, so two different labels of i clash
pub single_labels_lem : {n : ℕ} {st : List Statement} {spreads : List Spread} → LabelsStand n st spreads
    → AllName n st → clashes st n ≡ false → SingleLabels n spreads
single_labels_lem {n} {st} stand names clear =
    record {
      single = λ i h.
          false_from_ne_true _ λ p.
          let two = several_two (stand.at i h) p in
          let self = (derived_closed n st names).reflexive Kind.Compatible i h in
          two.differs (labels_equal st n clear self two.first_stated two.second_stated);
    }
