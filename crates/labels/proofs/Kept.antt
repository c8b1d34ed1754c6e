-- Labels as kept: how they stand for the statements, and what they tell of other and of different labels.
use borrow.Author.Tests.{not-true}
use Prim.Native.Nat.{ℕ, ◌<◌, ◌≤◌}
use lib.ListN.{replicate, length-set, length-replicate, get_or-replicate}
use lib.Seq.{get_or-set_same, get_or-set_other}
use mathlib.Core.Bool.{Bool, true, false, not, true≢false, false≢true}
use mathlib.Core.List.Memᴰ
use mathlib.Core.List.{List, [], ◌∷◌, ◌++◌}
use mathlib.Core.Logic.{⊎_elim}
use mathlib.Core.Path.{◌≡◌, refl, sym, ap, subst, ◌∙◌}
use native.Mathlib.Omega.{arith}
use Rattle.std.proofs.lemmas.Bool.{false_from_ne_true, cases_eq}
use Rattle.std.specs.Prelude.{Some}
use Rattle.fields.specs.declared.numbers.Label.{Label}
use Rattle.fields.specs.Fields.{label}
use Rattle.fields.specs.Limits.{most_variables}
use Rattle.fields.specs.Tests.{same, pick}
use Rattle.fields.proofs.Choice.{is_same, not_same, same_true, same_false}
use Rattle.items.specs.declared.items.Statement.{Statement}
use Rattle.rules.specs.Stated.{labelling, Stated}
use Rattle.rules.specs.declared.kinds.Kind.{Kind}
use Rattle.rules.specs.Facts.{fact}
use Rattle.rules.specs.Clashes.{labels_differ}
use Rattle.rules.proofs.Logic.{both, first_of_and, second_of_and, decided, same_tests}
use Rattle.rules.proofs.Some.{by_labelling, one_labelling}
use Rattle.rules.proofs.More.{still, last_stated, stated_of}
use Rattle.rules.proofs.Clashing.{differ_by, differ_of}
use Rattle.labels.specs.declared.spread.Spread.{Spread}
use Rattle.labels.specs.Spreads.{has_any, is_several, only_label, has_other, differ, with_labels, spread_at}
use Rattle.labels.specs.Labels.{TwoLabels, LabelsAt, LabelsStand, spreads_with, NoLabelling, other_stated}
use Rattle.labels.specs.Labels.{OtherTold, DifferTold}

-- a fact states no label
pub no_label : (kind : Kind) (i j : ℕ) → NoLabelling (fact kind i j)
no_label Kind.Ordered i j = tt
no_label Kind.Compatible i j = tt

-- another label, by its test
pub other_by : {st : List Statement} {j a b : ℕ} → Stated st (labelling j b) → (a ≡ b → ⊥) → other_stated st j a ≡ true
unfolding other_stated
other_by {st} {j} {a} {b} s d = by_labelling _ s (both (is_same j j refl) (ap not (not_same a b d)))

pub other_of : {C : Type 0} (st : List Statement) (j a : ℕ) → other_stated st j a ≡ true
    → ((b : ℕ) → Stated st (labelling j b) → (a ≡ b → ⊥) → C) → C
unfolding other_stated
other_of st j a p next =
    one_labelling st _ p λ y b s q.
    next b (subst (λ k. Stated st (labelling k b)) (sym (same_true j y (first_of_and _ _ q))) s)
    (same_false a b (not-true _ (second_of_and (same j y) _ q)))

-- the labels of j tell whether another than a is stated
pub other_told : {st : List Statement} {j : ℕ} {s : Spread} → LabelsAt st j s → (a : ℕ)
    → has_other s a ≡ other_stated st j a
other_told {st} {j} (LabelsAt.none none) a = sym (false_from_ne_true _ λ p. other_of st j a p λ b s d. none b s)
other_told {st} {j} (LabelsAt.one {a = b} one) a =
    decided (same b.0 a)
    (λ p. rw p (sym (false_from_ne_true _ λ q.
    other_of st j a q λ c s d. d (sym (same_true _ _ p) ∙ sym (one.only c s)))))
    (λ p. rw p (sym (other_by one.stated (λ q. same_false _ _ p (sym q)))))
other_told {st} {j} (LabelsAt.several two) a =
    ⊎_elim (λ p. sym (other_by two.second_stated λ q. two.differs (sym p ∙ q)))
    (λ p. sym (other_by two.first_stated p)) (cases_eq a two.first)

-- and which is, where there is one
pub only_stated : {st : List Statement} {j : ℕ} {s : Spread} {a : Label} → LabelsAt st j s
    → only_label s ≡ Some a → Stated st (labelling j a.0)
only_stated (LabelsAt.none none) e = cc
only_stated {st} {j} {a = a} (LabelsAt.one {a = b} one) e =
    let same : b ≡ a = cc in subst (λ c. Stated st (labelling j c.0)) same one.stated
only_stated (LabelsAt.several two) e = cc

pub stated_only : {st : List Statement} {j a : ℕ} {s : Spread} → LabelsAt st j s → is_several s ≡ false
    → Stated st (labelling j a) → only_label s ≡ Some (label a)
stated_only (LabelsAt.none none) few s = absurd (none _ s)
stated_only {a = a} (LabelsAt.one {a = b} one) few s = ap (λ x. Some (label x)) (sym (one.only a s))
stated_only (LabelsAt.several two) few s = absurd (true≢false few)

-- where there are several, two differ
pub several_two : {st : List Statement} {i : ℕ} {s : Spread} → LabelsAt st i s → is_several s ≡ true → TwoLabels st i
several_two (LabelsAt.none none) e = absurd (false≢true e)
several_two (LabelsAt.one one) e = absurd (false≢true e)
several_two (LabelsAt.several two) e = two

-- a variable without a label differs from none
pub none_differ : {st : List Statement} {i : ℕ} {s : Spread} (j : ℕ) → LabelsAt st i s → has_any s ≡ false
    → labels_differ st i j ≡ false
none_differ {st} {i} j (LabelsAt.none none) e = false_from_ne_true _ λ p. differ_of st i j p λ a b s s' d. none a s
none_differ j (LabelsAt.one one) e = absurd (true≢false e)
none_differ j (LabelsAt.several two) e = absurd (true≢false e)

-- of two different labels of i one is not b
two_differ : {st : List Statement} {i j b : ℕ} → TwoLabels st i → Stated st (labelling j b)
    → labels_differ st i j ≡ true
two_differ {st} {i} {j} {b} two here =
    other_of st i b (sym (other_told (LabelsAt.several two) b)) λ a s d. differ_by s here (λ q. d (sym q))

-- the labels of i and of j tell whether two differ
module _ {st : List Statement} {i j : ℕ} where
  any_told : {s : Spread} → TwoLabels st i → LabelsAt st j s → has_any s ≡ labels_differ st i j
  any_told two (LabelsAt.none none) = sym (false_from_ne_true _ λ p. differ_of st i j p λ a b s s' d. none b s')
  any_told two (LabelsAt.one one) = sym (two_differ two one.stated)
  any_told two (LabelsAt.several two') = sym (two_differ two two'.first_stated)

  pub differ_told : {s s' : Spread} → LabelsAt st i s → LabelsAt st j s' → differ s s' ≡ labels_differ st i j
  differ_told (LabelsAt.none none) at' = sym (none_differ j (LabelsAt.none none) refl)
  differ_told (LabelsAt.one one) at' =
      other_told at' _
      ∙ same_tests _ _
      (λ p. other_of st j _ p λ b s d. differ_by one.stated s d)
      (λ p. differ_of st i j p λ c b s s' d. other_by s' λ q. d (one.only c s ∙ q))
  differ_told (LabelsAt.several two) at' = any_told two at'

-- subject and label of a labelling
abbrev pub subject_of : Statement → ℕ
subject_of (Statement.Ordering i j) = 0
subject_of (Statement.Compatibility i j) = 0
subject_of (Statement.Selection i f j) = 0
subject_of (Statement.Labelling i a) = i.0

abbrev pub label_of : Statement → ℕ
label_of (Statement.Ordering i j) = 0
label_of (Statement.Compatibility i j) = 0
label_of (Statement.Selection i f j) = 0
label_of (Statement.Labelling i a) = a.0

-- one statement more leaves two different labels, and leaves what is told of i unless it is a label of i
module _ {st : List Statement} {i : ℕ} (q : Statement) where
  still_two : TwoLabels st i → TwoLabels (st ++ (q ∷ [])) i
  still_two two =
      record {
        first = two.first;
        second = two.second;
        first_stated = still q two.first_stated;
        second_stated = still q two.second_stated;
        differs = two.differs;
      }

  kept_at : {s : Spread} → LabelsAt st i s → ((a : ℕ) → labelling i a ≡ q → ⊥) → LabelsAt (st ++ (q ∷ [])) i s
  kept_at (LabelsAt.none none) other = LabelsAt.none λ a m. stated_of st q m (none a) (other a)
  kept_at (LabelsAt.one one) other =
      LabelsAt.one (record {
        stated = still q one.stated;
        only = λ a m. stated_of st q m (one.only a) (λ p. absurd (other a p));
      })
  kept_at (LabelsAt.several two) other = LabelsAt.several (still_two two)

-- one label more of i: the first, the same again, or another
noted_at : {st : List Statement} {i : ℕ} {s : Spread} (a : ℕ) → LabelsAt st i s
    → LabelsAt (st ++ (labelling i a ∷ [])) i (with_labels s (Spread.One (label a)))
unfolding with_labels pick
noted_at {st} a (LabelsAt.none none) =
    LabelsAt.one (record {
      stated = last_stated st _;
      only = λ b m. stated_of st _ m (λ s. absurd (none b s)) (ap label_of);
    })
noted_at {st} a (LabelsAt.one {a = b} one) =
    decided (same b.0 a)
    (λ p. rw p (LabelsAt.one (record {
      stated = still _ one.stated;
      only = λ c m. stated_of st _ m (one.only c) (λ e. ap label_of e ∙ sym (same_true _ _ p));
    })))
    (λ p. rw p (LabelsAt.several (record {
      first = b.0;
      second = a;
      first_stated = still _ one.stated;
      second_stated = last_stated st _;
      differs = same_false _ _ p;
    })))
noted_at a (LabelsAt.several two) = LabelsAt.several (still_two _ two)

-- no statement, no label
pub no_labels : (n : ℕ) → n ≤ most_variables → LabelsStand n [] (replicate most_variables Spread.Nothing)
no_labels n few =
    record {
      size = length-replicate {A = Spread} most_variables Spread.Nothing;
      at = λ i h.
          rw (get_or-replicate {A = Spread} most_variables i Spread.Nothing Spread.Nothing (omega arith))
          (LabelsAt.none λ a s. Memᴰ.not-nil s);
    }

module _ {n : ℕ} {st : List Statement} {spreads : List Spread} (stand : LabelsStand n st spreads) where
  -- a statement of another kind leaves the spreads
  pub other_kind : (q : Statement) → NoLabelling q → LabelsStand n (st ++ (q ∷ [])) spreads
  other_kind q other =
      record {
        size = stand.size;
        at = λ i h. kept_at q (stand.at i h) λ a p. absurd (subst NoLabelling (sym p) other);
      }

  -- one label more is noted
  pub noted : (i a : ℕ) → i < most_variables → LabelsStand n (st ++ (labelling i a ∷ [])) (spreads_with spreads i a)
  unfolding spreads_with
  noted i a few =
      let size = stand.size in
      let more = with_labels (spread_at spreads i) (Spread.One (label a)) in
      record {
        size = length-set spreads i more ∙ size;
        at = λ x h.
            ⊎_elim
            (λ e.
            rw (e, get_or-set_same spreads i more Spread.Nothing (omega arith)) (noted_at a (stand.at i (rw (← e) h))))
            (λ d.
            rw (get_or-set_other spreads i x more Spread.Nothing d)
            (kept_at _ (stand.at x h) λ b q. absurd (d (ap subject_of q)))) (cases_eq x i);
      }

-- what is told by the spreads of the variables
pub by_other : (spreads : List Spread) (j a : ℕ) {r : Bool} → r ≡ has_other (spread_at spreads j) a
    → OtherTold spreads j a r
by_other spreads j a e = record { told = λ n st stand h. e ∙ other_told (stand.at j h) a }

pub by_differ : (spreads : List Spread) (i j : ℕ) {r : Bool} → r ≡ differ (spread_at spreads i) (spread_at spreads j)
    → DifferTold spreads i j r
by_differ spreads i j e = record { told = λ n st stand h g. e ∙ differ_told (stand.at i h) (stand.at j g) }
