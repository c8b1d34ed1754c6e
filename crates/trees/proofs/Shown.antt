-- The least solution of the marked structure shows which facts of old variables are missing.
use Prim.Native.Nat.{ℕ, suc, ◌<◌}
use mathlib.Core.Bool.{false}
use mathlib.Core.List.{List, [], ◌∷◌}
use mathlib.Core.Logic.{⊎_elim}
use mathlib.Core.Path.{◌≡◌, refl, subst, ◌∙◌}
use native.Mathlib.Omega.{arith}
use Rattle.items.specs.declared.items.Statement.{Statement}
use Rattle.rules.specs.declared.kinds.Kind.{Kind}
use Rattle.rules.specs.Facts.{Relation, Holds}
use Rattle.rules.specs.Stated.{selection, labelling}
use Rattle.rules.proofs.Logic.{decided}
use Rattle.rules.proofs.Lists.{named}
use Rattle.trees.specs.Trees.{labelled, Below, Compatible}
use Rattle.trees.specs.Assignments.{Assignment}
use Rattle.trees.proofs.Structures.{Laws, right_variable}
use Rattle.trees.proofs.Sets.{step, least, one_in, step_in, root_label}
use Rattle.trees.proofs.Least.{least_keeps}
use Rattle.trees.proofs.Marks.{mark_of, marked, own_in, against_in, first_stated, second_stated, Origin, old, own}
use Rattle.trees.proofs.Marks.{against, selection_origin, LabelOrigin, old_label, first_labelling, second_label}
use Rattle.trees.proofs.Marks.{label_origin}
use Rattle.trees.proofs.Marked.{marked_laws, not_unused}

module _ {n : ℕ} {st : List Statement} {r : Relation} (L : Laws n st r) where
  abbrev pub shown : Assignment
  shown = least (marked n st r) r

  -- x has the first label under its mark, what is not compatible with x the second
  own_label : (x : ℕ) → x < n → shown x (mark_of st x ∷ []) ≡ labelled 0
  own_label x h =
      (least_keeps (marked_laws L) (selection x (mark_of st x) n) (own_in n st r x h)).subtree []
      ∙ least_keeps (marked_laws L) (labelling n 0) (first_stated n st r)

  other_label : (x y : ℕ) → x < n → y < n → r Kind.Compatible x y ≡ false → shown y (mark_of st x ∷ []) ≡ labelled 1
  other_label x y h k e =
      (least_keeps (marked_laws L) (selection y (mark_of st x) (suc n)) (against_in n st r x y h k e)).subtree []
      ∙ least_keeps (marked_laws L) (labelling (suc n) 1) (second_stated n st r)

  -- what has the first label under the mark of x is above x
  above_mark : (x y k k' m : ℕ) → Holds r Kind.Ordered k' y → Holds r Kind.Ordered k m
      → Origin n st r k' (mark_of st x) m → LabelOrigin n st r k 0 → Holds r Kind.Ordered x y
  above_mark x y k k' m q p (old s) from = absurd (not_unused L x s refl)
  above_mark x y k k' m q p (own h e c) from = subst (λ w. Holds r Kind.Ordered w y) (omega arith) q
  above_mark x y k k' m q p (against z h h' d e c) (old_label s) =
      absurd (omega (arith, right_variable L Kind.Ordered p (named n st L.fit s)))
  above_mark x y k k' m q p (against z h h' d e c) (first_labelling e' c') =
      absurd (⊎_elim (λ f. omega arith) (λ b. omega (arith, b.0)) (L.apart Kind.Ordered k m p))
  above_mark x y k k' m q p (against z h h' d e c) (second_label e' c') = absurd (omega arith)

  pub shows_ordered : (x y : ℕ) → x < n → Below (shown x) (shown y) → Holds r Kind.Ordered x y
  shows_ordered x y h b =
      root_label (marked_laws L) (step (marked n st r) r (mark_of st x) (y ∷ []))
      (b.labels (mark_of st x ∷ []) 0 (own_label x h)) λ k s u.
      step_in (marked_laws L) u λ k' m s' w p.
      one_in (marked_laws L) w λ q.
      above_mark x y k k' m q p (selection_origin n st r _ _ _ s') (label_origin n st r _ _ s)

  pub shows_compatible : (x y : ℕ) → x < n → y < n → Compatible (shown x) (shown y) → Holds r Kind.Compatible x y
  shows_compatible x y h k b =
      decided (r Kind.Compatible x y) (λ e. e) λ e.
      let labels_equal = b.labels (mark_of st x ∷ []) 0 1 (own_label x h) (other_label x y h k e) in
      absurd (omega arith)
