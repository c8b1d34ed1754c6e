-- Marks: two new variables with different labels, and for each variable x one feature that nothing uses. The child of x
-- there is the first new variable; that of each variable not compatible with x is the second.
use Prim.Native.Nat.{ℕ, zero, suc, ◌+◌, ◌≤◌, ◌<◌, max}
use mathlib.Core.Bool.{false, not}
use mathlib.Core.List.Memᴰ
use mathlib.Core.List.{List, [], ◌∷◌, ◌++◌}
use mathlib.Core.Logic.{⊎_elim}
use mathlib.Core.Path.{◌≡◌, refl, sym, ap, subst}
use borrow.Author.Tests.{not-true}
use native.Mathlib.Omega.{arith}
use Rattle.fields.specs.Tests.{pick}
use Rattle.items.specs.declared.items.Statement.{Statement}
use Rattle.rules.specs.declared.kinds.Kind.{Kind}
use Rattle.rules.specs.Facts.{Relation}
use Rattle.rules.specs.Stated.{selection, labelling, Stated}
use Rattle.rules.proofs.Logic.{last_or_before}
use Rattle.trees.proofs.Structures.{same_selection, same_labelling, IsSelection, is_selection, is_labelling}
use Rattle.trees.proofs.Lookups.{in_choice, chosen_in, others_in}

-- a feature above all that are stated
abbrev pub unused : List Statement → ℕ
unused [] = 0
unused (Statement.Ordering i j ∷ st) = unused st
unused (Statement.Compatibility i j ∷ st) = unused st
unused (Statement.Selection i f j ∷ st) = max (suc f.0) (unused st)
unused (Statement.Labelling i a ∷ st) = unused st

pub unused_above : {i f j : ℕ} (st : List Statement) → Stated st (selection i f j) → f < unused st
unused_above {i = i} {f = f} {j = j} [] y2 = elim y2 [ ]
unused_above {i} {f} {j} (x ∷ st) (Memᴰ.head e) = subst (λ y. f < unused (y ∷ st)) e (omega arith)
unused_above (Statement.Ordering i j ∷ st) (Memᴰ.tail s) = unused_above st s
unused_above (Statement.Compatibility i j ∷ st) (Memᴰ.tail s) = unused_above st s
unused_above (Statement.Selection i f j ∷ st) (Memᴰ.tail s) = let rest = unused_above st s in omega arith
unused_above (Statement.Labelling i a ∷ st) (Memᴰ.tail s) = unused_above st s

-- the feature of x
abbrev pub mark_of : List Statement → ℕ → ℕ
mark_of st x = unused st + x

module _ (n : ℕ) (st : List Statement) (r : Relation) where
  -- those below m that are not compatible with x
  unfoldable pub marks_against : ℕ → ℕ → List Statement
  marks_against x zero = []
  marks_against x (suc y) =
      pick (not (r Kind.Compatible x y)) (selection y (mark_of st x) (suc n) ∷ marks_against x y) (marks_against x y)

  -- of all x below m
  unfoldable pub marks : ℕ → List Statement
  marks zero = []
  marks (suc x) = selection x (mark_of st x) n ∷ (marks_against x n ++ marks x)

  unfoldable pub marked : List Statement
  marked = labelling n 0 ∷ labelling (suc n) 1 ∷ (marks n ++ st)

  -- a statement of the marks
  pub data Mark (z : Statement) : Type 0 where
    own : (x : ℕ) → x < n → z ≡ selection x (mark_of st x) n → Mark z
    against : (x y : ℕ) → x < n → y < n → r Kind.Compatible x y ≡ false → z ≡ selection y (mark_of st x) (suc n)
        → Mark z

  pub mark_selection : {z : Statement} → Mark z → IsSelection z
  mark_selection (own x h e) = is_selection e
  mark_selection (against x y h h' c e) = is_selection e

  -- the marks are these and no others
  mark_against : {z : Statement} (x m : ℕ) → x < n → m ≤ n → Stated (marks_against x m) z → Mark z
  unfolding marks_against
  mark_against {z = z} x zero h k s = elim s [ ]
  mark_against x (suc y) h k s =
      in_choice (not (r Kind.Compatible x y)) s (λ e same_mark. against x y h k (not-true _ e) same_mark)
      (mark_against x y h (omega arith))

  mark_of_stated : {z : Statement} (m : ℕ) → m ≤ n → Stated (marks m) z → Mark z
  unfolding marks
  mark_of_stated {z = z} zero h y3 = elim y3 [ ]
  mark_of_stated (suc x) h (Memᴰ.head e) = own x h e
  mark_of_stated (suc x) h (Memᴰ.tail s) =
      ⊎_elim (mark_against x n h (omega arith)) (mark_of_stated x (omega arith)) (Memᴰ.append_cases (marks_against x n) s)

  against_mark : (x y m : ℕ) → y < m → r Kind.Compatible x y ≡ false
      → Stated (marks_against x m) (selection y (mark_of st x) (suc n))
  unfolding marks_against
  against_mark x y zero h e = elim h [ ]
  against_mark x y (suc z) h e =
      last_or_before y z h
      (λ last. subst (λ w. Stated (marks_against x (suc w)) (selection y (mark_of st x) (suc n))) last
      (chosen_in _ _ _ (ap not e)))
      (λ before. others_in _ _ (against_mark x y z before e))

  mark_in : {z : Statement} (x m : ℕ) → x < m
      → Stated (selection x (mark_of st x) n ∷ marks_against x n) z → Stated (marks m) z
  unfolding marks
  mark_in {z = z} x zero h s = elim h [ ]
  mark_in {z} x (suc m) h s =
      last_or_before x m h
      (λ last. subst (λ w. Stated (marks (suc w)) z) last (Memᴰ.append_left (marks x) s))
      (λ before. Memᴰ.tail (Memᴰ.append_right (marks_against m n) (mark_in x m before s)))

  -- a statement of the marked list
  pub from_marked : {C : Type 0} {z : Statement} → Stated marked z
      → (z ≡ labelling n 0 → C) → (z ≡ labelling (suc n) 1 → C) → (Mark z → C) → (Stated st z → C) → C
  unfolding marked
  from_marked (Memᴰ.head e) first second mark old = first e
  from_marked (Memᴰ.tail (Memᴰ.head e)) first second mark old = second e
  from_marked (Memᴰ.tail (Memᴰ.tail s)) first second mark old =
      ⊎_elim (λ m. mark (mark_of_stated n (omega arith) m)) old (Memᴰ.append_cases (marks n) s)

  pub old_in : {z : Statement} → Stated st z → Stated marked z
  unfolding marked
  old_in s = Memᴰ.tail (Memᴰ.tail (Memᴰ.append_right (marks n) s))

  pub own_in : (x : ℕ) → x < n → Stated marked (selection x (mark_of st x) n)
  unfolding marked
  own_in x h = Memᴰ.tail (Memᴰ.tail (Memᴰ.append_left st (mark_in x n h (Memᴰ.head refl))))

  pub against_in : (x y : ℕ) → x < n → y < n → r Kind.Compatible x y ≡ false
      → Stated marked (selection y (mark_of st x) (suc n))
  unfolding marked
  against_in x y h k e =
      Memᴰ.tail (Memᴰ.tail (Memᴰ.append_left st (mark_in x n h (Memᴰ.tail (against_mark x y n k e)))))

  pub first_stated : Stated marked (labelling n 0)
  unfolding marked
  first_stated = Memᴰ.head refl

  pub second_stated : Stated marked (labelling (suc n) 1)
  unfolding marked
  second_stated = Memᴰ.tail (Memᴰ.head refl)

  -- where a selection comes from
  pub data Origin (k g m : ℕ) : Type 0 where
    old : Stated st (selection k g m) → Origin k g m
    own : k < n → g ≡ mark_of st k → m ≡ n → Origin k g m
    against : (x : ℕ) → x < n → k < n → r Kind.Compatible x k ≡ false → g ≡ mark_of st x → m ≡ suc n → Origin k g m

  mark_origin : (k g m : ℕ) → Mark (selection k g m) → Origin k g m
  mark_origin k g m (own x h e) = same_selection e (λ ek eg em. own (omega arith) (omega arith) em)
  mark_origin k g m (against x y h h' c e) =
      same_selection e λ ek eg em.
      against x h (omega arith) (subst (λ w. r Kind.Compatible x w ≡ false) (sym ek) c) eg em

  pub selection_origin : (k g m : ℕ) → Stated marked (selection k g m) → Origin k g m
  selection_origin k g m s =
      from_marked s (λ e. absurd (is_labelling e)) (λ e. absurd (is_labelling e))
      (mark_origin k g m) (λ o. old o)

  -- where a label comes from
  pub data LabelOrigin (k a : ℕ) : Type 0 where
    old_label : Stated st (labelling k a) → LabelOrigin k a
    first_labelling : k ≡ n → a ≡ 0 → LabelOrigin k a
    second_label : k ≡ suc n → a ≡ 1 → LabelOrigin k a

  pub label_origin : (k a : ℕ) → Stated marked (labelling k a) → LabelOrigin k a
  label_origin k a s =
      from_marked s
      (λ e. same_labelling e (λ ek ea. first_labelling ek ea)) (λ e. same_labelling e (λ ek ea. second_label ek ea))
      (λ m. absurd (mark_selection m)) (λ o. old_label o)
