-- The marked structure is closed and extends the old one.
use Prim.Native.Nat.{ℕ, suc, ◌≤◌, ◌<◌}
use mathlib.Core.Bool.{Bool, true, false}
use mathlib.Core.List.{List}
use mathlib.Core.Logic.{inl, inr, ⊎_elim}
use mathlib.Core.Path.{◌≡◌, refl, sym, subst}
use native.Mathlib.Omega.{arith}
use Rattle.std.proofs.lemmas.Bool.{both_ways}
use Rattle.fields.specs.Tests.{less}
use Rattle.fields.proofs.Choice.{is_less, not_less}
use Rattle.items.specs.declared.items.Statement.{Statement}
use Rattle.items.specs.Statements.{Names}
use Rattle.rules.specs.declared.kinds.Kind.{Kind}
use Rattle.rules.specs.Facts.{fact, Relation, Holds, Closed}
use Rattle.rules.specs.Stated.{selection, labelling, Stated}
use Rattle.rules.proofs.Supported.{under_by, over_by, label_by, Carries, carried}
use Rattle.rules.proofs.Lists.{named, names_more, all_by}
use Rattle.trees.proofs.Structures.{descends, one_label, symmetric, through, Laws, left_variable, right_variable}
use Rattle.trees.proofs.Structures.{is_labelling}
use Rattle.trees.proofs.Extensions.{Ranked, Extends, Extension}
use Rattle.trees.proofs.Marks.{unused_above, mark_of, marked, Mark, mark_selection, from_marked, old_in, Origin}
use Rattle.trees.proofs.Marks.{old, own, against, selection_origin, LabelOrigin, old_label, first_labelling}
use Rattle.trees.proofs.Marks.{second_label, label_origin}

module _ {n : ℕ} {st : List Statement} {r : Relation} (L : Laws n st r) where
  -- related variables are compatible
  as_compatible : (kind : Kind) {x y : ℕ} → Holds r kind x y → Holds r Kind.Compatible x y
  as_compatible Kind.Ordered {x} {y} p = through L Kind.Compatible p (L.self Kind.Compatible y)
  as_compatible Kind.Compatible p = p

  -- an old selection has no new feature
  pub not_unused : {k m : ℕ} (x : ℕ) {g : ℕ} → Stated st (selection k g m) → g ≡ mark_of st x → ⊥
  not_unused x s e = let old_one = unused_above st s in omega arith

  -- F2 and F4
  marked_descends : (kind : Kind) (g x x' y y' : ℕ) → Origin n st r x g x' → Holds r kind x y → Origin n st r y g y'
      → Holds r kind x' y'
  marked_descends kind g x x' y y' (old s) p (old s') = descends L kind s p s'
  marked_descends kind g x x' y y' (old s) p (own h e c) = absurd (not_unused y s e)
  marked_descends kind g x x' y y' (old s) p (against z h h' d e c) = absurd (not_unused z s e)
  marked_descends kind g x x' y y' (own h e c) p (old s') = absurd (not_unused x s' e)
  marked_descends kind g x x' y y' (own h e c) p (own h' e' c') = rw (c, c') (L.self kind n)
  marked_descends kind g x x' y y' (own h e c) p (against z h' h'' d e' c') =
      absurd (both_ways _ d (subst (λ w. Holds r Kind.Compatible w y) (omega arith) (as_compatible kind p)))
  marked_descends kind g x x' y y' (against z h h' d e c) p (old s') = absurd (not_unused z s' e)
  marked_descends kind g x x' y y' (against z h h' d e c) p (own h'' e' c') =
      absurd (both_ways _ d
      (subst (λ w. Holds r Kind.Compatible w x) (omega arith) (symmetric L (as_compatible kind p))))
  marked_descends kind g x x' y y' (against z h h' d e c) p (against z' h'' h''' d' e' c') =
      rw (c, c') (L.self kind (suc n))

  -- F5: a new variable is compatible with itself alone
  new_alone : (x y : ℕ) → Holds r Kind.Compatible x y → n ≤ x → x ≡ y
  new_alone x y p h = ⊎_elim (λ e. e) (λ b. absurd (omega (arith, b.0))) (L.apart Kind.Compatible x y p)

  subject_inside : {k a : ℕ} → Stated st (labelling k a) → k < n
  subject_inside s = named n st L.fit s

  marked_agree : (x y a b : ℕ) → Holds r Kind.Compatible x y → LabelOrigin n st r x a → LabelOrigin n st r y b → a ≡ b
  marked_agree x y a b p (old_label s) (old_label s') = one_label L p s s'
  marked_agree x y a b p (first_labelling e c) (first_labelling e' c') = omega arith
  marked_agree x y a b p (second_label e c) (second_label e' c') = omega arith
  marked_agree x y a b p (first_labelling e c) (old_label s) =
      omega (arith, subject_inside s, new_alone x y p (omega arith))
  marked_agree x y a b p (second_label e c) (old_label s) =
      omega (arith, subject_inside s, new_alone x y p (omega arith))
  marked_agree x y a b p (old_label s) (first_labelling e c) =
      omega (arith, subject_inside s, new_alone y x (symmetric L p) (omega arith))
  marked_agree x y a b p (old_label s) (second_label e c) =
      omega (arith, subject_inside s, new_alone y x (symmetric L p) (omega arith))
  marked_agree x y a b p (first_labelling e c) (second_label e' c') = omega (arith, new_alone x y p (omega arith))
  marked_agree x y a b p (second_label e c) (first_labelling e' c') = omega (arith, new_alone x y p (omega arith))

  marked_stated : (kind : Kind) (x y : ℕ) → Stated (marked n st r) (fact kind x y) → Holds r kind x y
  marked_stated Kind.Ordered x y s =
      from_marked n st r s (λ e. absurd (is_labelling e)) (λ e. absurd (is_labelling e))
      (λ m. absurd (mark_selection n st r m)) (λ o. L.closed.stated Kind.Ordered x y o)
  marked_stated Kind.Compatible x y s =
      from_marked n st r s (λ e. absurd (is_labelling e)) (λ e. absurd (is_labelling e))
      (λ m. absurd (mark_selection n st r m)) (λ o. L.closed.stated Kind.Compatible x y o)

  marked_names : (z : Statement) → Stated (marked n st r) z → Names (suc (suc n)) z
  marked_names z s =
      from_marked n st r s (λ e. subst (Names (suc (suc n))) (sym e) (omega arith))
      (λ e. subst (Names (suc (suc n))) (sym e) (omega arith)) (mark_names z)
      (λ o. names_more (omega arith) z (named n st L.fit o))
    where
      mark_names : (z : Statement) → Mark n st r z → Names (suc (suc n)) z
      mark_names z (own x h e) = subst (Names (suc (suc n))) (sym e) (omega arith, omega arith)
      mark_names z (against x y h h' c e) = subst (Names (suc (suc n))) (sym e) (omega arith, omega arith)

  marked_closed : Closed (suc (suc n)) (marked n st r) (Holds r)
  marked_closed =
      record {
        stated = marked_stated;
        reflexive = λ kind i h. L.self kind i;
        through = L.closed.through;
        symmetric = L.closed.symmetric;
        descends = λ kind g x x' y y' s p s'. marked_descends kind g x x' y y'
            (selection_origin n st r x g x' s) p (selection_origin n st r y g y' s');
      }

  pub marked_laws : Laws (suc (suc n)) (marked n st r) r
  marked_laws =
      record {
        fit = all_by (Names (suc (suc n))) (marked n st r) marked_names;
        closed = marked_closed;
        self = L.self;
        apart = λ kind x y p.
            ⊎_elim (λ e. inl e) (λ b. inr (omega (arith, b.0), omega (arith, b.1))) (L.apart kind x y p);
        labels_agree = λ x y a b p s s'.
            marked_agree x y a b p (label_origin n st r x a s) (label_origin n st r y b s');
      }

  -- a child or a subject that is old comes from an old statement
  old_child : (k g m : ℕ) → m < n → Origin n st r k g m → Stated st (selection k g m)
  old_child k g m h (old s) = s
  old_child k g m h (own a e c) = absurd (omega arith)
  old_child k g m h (against x a b d e c) = absurd (omega arith)

  old_subject : (k a : ℕ) → k < n → LabelOrigin n st r k a → Stated st (labelling k a)
  old_subject k a h (old_label s) = s
  old_subject k a h (first_labelling e c) = absurd (omega arith)
  old_subject k a h (second_label e c) = absurd (omega arith)

  -- so no question over old variables becomes supported
  carries : Carries n (marked n st r) r st r
  carries =
      record {
        pairs = λ kind x y h h' p. p;
        unders = λ x g y k m h h' s a b.
            under_by r (old_child k g m (right_variable L Kind.Ordered b h') (selection_origin n st r k g m s)) a b;
        overs = λ x g y k m h h' s a b.
            over_by r (old_child k g m (left_variable L Kind.Ordered b h') (selection_origin n st r k g m s)) a b;
        labels = λ x a k h s b.
            label_by r (old_subject k a (left_variable L Kind.Ordered b h) (label_origin n st r k a s)) b;
      }

  module _ (K : Ranked st r) where
    -- the new variables have the least rank
    abbrev rank_by : Bool → ℕ → ℕ
    rank_by true x = suc (K.rank x)
    rank_by false x = 0

    old_rank : (x : ℕ) → x < n → rank_by (less x n) x ≡ suc (K.rank x)
    old_rank x h = rw (is_less x n h) refl

    new_rank : (x : ℕ) → n ≤ x → rank_by (less x n) x ≡ 0
    new_rank x h = rw (not_less x n h) refl

    marked_rises : (x y : ℕ) → Holds r Kind.Ordered x y → rank_by (less x n) x ≤ rank_by (less y n) y
    marked_rises x y p =
        ⊎_elim (λ e. subst (λ w. rank_by (less x n) x ≤ rank_by (less w n) w) e (omega arith))
        (λ b. omega (arith, old_rank x b.0, old_rank y b.1, K.rises p)) (L.apart Kind.Ordered x y p)

    marked_falls : (k g m : ℕ) → Origin n st r k g m → rank_by (less m n) m < rank_by (less k n) k
    marked_falls k g m (old s) =
        let names = named n st L.fit s in
        omega (arith, old_rank k names.0, old_rank m names.1, K.falls s)
    marked_falls k g m (own h e c) = omega (arith, old_rank k h, new_rank m (omega arith))
    marked_falls k g m (against x h h' d e c) = omega (arith, old_rank k h', new_rank m (omega arith))

    marked_ranked : Ranked (marked n st r) r
    marked_ranked =
        record {
          rank = λ x. rank_by (less x n) x;
          rises = λ p. marked_rises _ _ p;
          falls = λ s. marked_falls _ _ _ (selection_origin n st r _ _ _ s);
        }

  pub marked_extends : Extends n st r (suc (suc n)) (marked n st r) r
  marked_extends =
      record {
        larger = omega arith;
        keeps = old_in n st r;
        same_facts = λ kind x y a b. refl;
        conserves = carried carries;
        ranked = marked_ranked;
      }

  abbrev pub marked_extension : Extension n st r
  marked_extension =
      record { size = suc (suc n); statements = marked n st r; facts = r; laws = marked_laws; extends = marked_extends }
