-- A set with all that is ≤ a variable, and the step from one set to the next, one selection after another.
use Prim.Native.Nat.{ℕ, suc, ◌+◌, ◌<◌, ◌≤◌}
use lib.ListN.{length}
use mathlib.Core.Bool.{true, false}
use mathlib.Core.List.{List}
use mathlib.Core.Logic.{◌⊎◌, inl, inr, ⊎_elim}
use mathlib.Core.Path.{◌≡◌, refl, sym, ap, subst, ◌∙◌}
use native.Mathlib.Omega.{arith}
use Rattle.std.proofs.lemmas.Bool.{both_ways}
use Rattle.fields.specs.Tests.{same}
use Rattle.fields.proofs.Choice.{is_same, same_true}
use Rattle.items.specs.declared.items.Statement.{Statement}
use Rattle.rules.specs.Connectives.{◌or◌}
use Rattle.rules.specs.Stated.{selection, Stated, any_below}
use Rattle.rules.specs.declared.kinds.Kind.{Kind}
use Rattle.rules.specs.Facts.{Relation, Holds}
use Rattle.rules.specs.Tables.{facts}
use Rattle.rules.proofs.Logic.{both, first_of_and, second_of_and, either_first, either_second, either_of, same_tests}
use Rattle.rules.proofs.Logic.{last_or_before}
use Rattle.rules.proofs.Some.{below_by, below_one}
use Rattle.rules.proofs.Tables.{fact_row}
use Rattle.rules.proofs.Paths.{step_by, step_of}
use Rattle.rows.specs.Rows.{in_row, Members}
use Rattle.rows.proofs.Members.{grown_has, grown_keeps, grown_only}
use Rattle.selections.specs.declared.listed.Selection.{Selection}
use Rattle.selections.specs.Listed.{selection_at, Selections, Listed}
use Rattle.selections.specs.Stands.{SelectionsStand}
use Rattle.paths.specs.Sets.{Transitive, Downward, adds, ChildAdded, Adding, Stepped}

-- a row has a set, and what is ≤ j among the first x numbers
pub record Lowered (n : ℕ) (t : List ℕ) (set : List ℕ) (j x : ℕ) (row : List ℕ) : Type 0 where
  pub kept : (k : ℕ) → in_row set k ≡ true → in_row row k ≡ true
  pub below : (k : ℕ) → k < x → Holds (facts n t) Kind.Ordered k j → in_row row k ≡ true
  pub only : (k : ℕ) → in_row row k ≡ true → (in_row set k ≡ true) ⊎ Holds (facts n t) Kind.Ordered k j

module _ {n : ℕ} {t : List ℕ} {j : ℕ} where
  pub lowered_start : (set : List ℕ) → Lowered n t set j 0 set
  lowered_start set = record { kept = λ k p. p; below = λ k h p. absurd (omega arith); only = λ k p. inl p }

  module _ {set row : List ℕ} {x : ℕ} (l : Lowered n t set j x row) where
    pub lowered_with : {row' : List ℕ} → Holds (facts n t) Kind.Ordered x j
        → Members row' (λ k. in_row row k or same k x) → Lowered n t set j (x + 1) row'
    lowered_with {row'} fact grown =
        record {
          kept = λ k p. grown_keeps _ _ grown k (l.kept k p);
          below = λ k h p.
              last_or_before k x (omega (arith, h)) (λ e. subst (λ y. in_row row' y ≡ true) (sym e) (grown_has _ _ grown))
              (λ b. grown_keeps _ _ grown k (l.below k b p));
          only = λ k p.
              grown_only _ _ grown k p (l.only k)
              (λ e. inr (subst (λ y. Holds (facts n t) Kind.Ordered y j) (sym e) fact));
        }

    pub lowered_without : facts n t Kind.Ordered x j ≡ false → Lowered n t set j (x + 1) row
    lowered_without none =
        record {
          kept = l.kept;
          below = λ k h p.
              last_or_before k x (omega (arith, h))
              (λ e. absurd (both_ways _ none (subst (λ y. Holds (facts n t) Kind.Ordered y j) e p))) (λ b. l.below k b p);
          only = l.only;
        }

    -- where there are no more variables
    pub lowered_whole : n ≤ x → Members row (λ k. facts n t Kind.Ordered k j or in_row set k)
    lowered_whole h =
        record {
          bits = λ k.
              same_tests _ _
              (λ p. ⊎_elim (λ q. either_second _ q) (λ q. either_first _ q) (l.only k p))
              (λ p. either_of _ _ p
              (λ q. l.below k (omega (arith, h, fact_row n t Kind.Ordered k j q)) q) (l.kept k));
        }

-- what one selection adds
module _ {r : Relation} {f : ℕ} {set next : List ℕ} {s : Selection} where
  pub adds_child : {row : List ℕ} → same f s.feature.0 ≡ true → in_row set s.subject.0 ≡ true
      → Members row (λ k. r Kind.Ordered k s.child.0 or in_row next k) → ChildAdded r f set s next row
  adds_child feature subject grown =
      record {
        members =
            record {
              bits = λ k.
                  same_tests _ _
                  (λ p. either_of _ _ (sym (grown.bits k) ∙ p)
                  (λ q. either_first _ (both feature (both subject q))) (λ q. either_second _ q))
                  (λ p. grown.bits k ∙ either_of _ _ p
                  (λ q. either_first _ (second_of_and _ _ (second_of_and (same f s.feature.0) _ q)))
                  (λ q. either_second _ q));
            };
      }

  adds_none : ((k : ℕ) → adds r f set s k ≡ true → in_row next k ≡ true) → ChildAdded r f set s next next
  adds_none there =
      record {
        members =
            record {
              bits = λ k.
                  same_tests _ _ (λ p. either_second (adds r f set s k) p) (λ p. either_of _ _ p (there k) (λ q. q));
            };
      }

  -- nothing where the feature is another, the subject is not in the set, or the child is there already
  pub other_feature : same f s.feature.0 ≡ false → ChildAdded r f set s next next
  other_feature other = adds_none λ k p. absurd (both_ways _ other (first_of_and _ _ p))

  pub other_subject : in_row set s.subject.0 ≡ false → ChildAdded r f set s next next
  other_subject none = adds_none λ k p. absurd (both_ways _ none (first_of_and _ _ (second_of_and (same f s.feature.0) _ p)))

  pub known_child : Downward r next → in_row next s.child.0 ≡ true → ChildAdded r f set s next next
  known_child down there =
      adds_none λ k p. down.below k s.child.0 there (second_of_and _ _ (second_of_and (same f s.feature.0) _ p))

-- what the first selections add
module _ {r : Relation} {list : List Selection} {f : ℕ} {set : List ℕ} where
  pub adding_none : {row : List ℕ} → Members row (λ k. false) → Adding r list f set 0 row
  unfolding any_below
  adding_none none = record { members = none }

  pub adding_more : {m : ℕ} {next row : List ℕ} → Adding r list f set m next
      → ChildAdded r f set (selection_at list m) next row → Adding r list f set (m + 1) row
  unfolding any_below
  adding_more {m} {next} {row} before grown =
      let one : suc m ≡ m + 1 = omega arith in
      subst (λ x. Adding r list f set x row) one
      (record {
        members =
            record {
              bits = λ k.
                  grown.members.bits k
                  ∙ ap (λ b. adds r f set (selection_at list m) k or b) (before.members.bits k);
            };
      })

  -- all that is below it too
  pub adding_downward : Transitive r → {m : ℕ} {row : List ℕ} → Adding r list f set m row → Downward r row
  adding_downward transitive {m} adding =
      record {
        below = λ k y p h.
            adding.members.bits k
            ∙ below_one m _ (sym (adding.members.bits y) ∙ p) λ x b q.
            let s = selection_at list x in
            let parts = second_of_and (same f s.feature.0) _ q in
            below_by _ m x b
            (both (first_of_and (same f s.feature.0) _ q)
            (both (first_of_and _ _ parts) (transitive.through k y s.child.0 h (second_of_and _ _ parts))));
      }

  -- and all of them make the step
  pub adding_all : {n : ℕ} {row : List ℕ} → Selections n list → Adding r list f set (length list) row
      → Stepped n r list f set row
  adding_all {n} lawful adding =
      record {
        told = λ st stand.
            record {
              bits = λ k.
                  adding.members.bits k
                  ∙ same_tests _ _
                  (λ p. below_one (length list) _ p λ x b q.
                  let s = selection_at list x in
                  let parts = second_of_and (same f s.feature.0) _ q in
                  step_by st r (in_row set) (stated st stand x b (same_true _ _ (first_of_and _ _ q)))
                  (first_of_and _ _ parts) (second_of_and _ _ parts))
                  (λ p. step_of st r f k (in_row set) p λ x y s q h.
                  let l = stand.listed x f y s in
                  below_by _ (length list) l.at l.in_list
                  (both (is_same _ _ (sym l.feature))
                  (both (ap (in_row set) l.subject ∙ q) (ap (r Kind.Ordered k) l.child ∙ h))));
            };
      }
    where
      stated : (st : List Statement) → SelectionsStand n st (Listed list) → (x : ℕ) → x < length list
          → f ≡ (selection_at list x).feature.0
          → Stated st (selection (selection_at list x).subject.0 f (selection_at list x).child.0)
      stated st stand x b e =
          stand.stated _ _ _ (lawful.subject_below x b)
          (record { at = x; in_list = b; subject = refl; feature = sym e; child = refl })
