-- The skip rule: where fewer than two different labels are stated, nothing clashes.
use borrow.Author.Tests.{not-false}
use Prim.Native.Nat.{ℕ, zero, suc, ◌<◌, ◌≤◌}
use lib.ListN.{length, take}
use mathlib.Core.Bool.{false, not, true≢false}
use mathlib.Core.List.{List, [], ◌∷◌, ◌++◌}
use mathlib.Core.Path.{◌≡◌, refl, sym, ap, subst, ◌∙◌}
use native.Mathlib.Numerals.{add-one}
use native.Mathlib.Omega.{arith}
use Rattle.std.specs.List.{fold}
use Rattle.std.proofs.lemmas.List.Sums.{fold_more}
use Rattle.std.proofs.lemmas.Bool.{false_from_ne_true}
use Rattle.fields.specs.declared.numbers.Label.{Label}
use Rattle.fields.specs.Tests.{same, pick}
use Rattle.fields.proofs.Choice.{same_true}
use Rattle.items.specs.declared.items.Statement.{Statement}
use Rattle.items.specs.Statements.{AllName}
use Rattle.rules.specs.Stated.{labelling, Stated, if_labelling}
use Rattle.rules.specs.Clashes.{clashes_at, clashes}
use Rattle.rules.proofs.Logic.{second_of_and, decided, last_or_before}
use Rattle.rules.proofs.Lists.{named}
use Rattle.rules.proofs.More.{stated_of}
use Rattle.rules.proofs.Clashing.{differ_of, clashing}
use Rattle.labels.specs.declared.spread.Spread.{Spread}
use Rattle.labels.specs.Labels.{LabelsAt, LabelsStand}
use Rattle.labels.specs.Spreads.{with_labels, spread_at, spread_below, can_clash}
use Rattle.labels.proofs.Kept.{label_of}

-- every label that st states is b
OneLabel : List Statement → ℕ → Type 0
OneLabel st b = (i a : ℕ) → Stated st (labelling i a) → a ≡ b

one_clear : (st : List Statement) (n b : ℕ) → OneLabel st b → clashes st n ≡ false
unfolding OneLabel clashes_at
one_clear st n b one =
    false_from_ne_true _ λ p. clashing st n p λ x y least.
    differ_of st x y (second_of_and _ _ least.applies) λ a c s s' d.
    d (one x a s ∙ sym (one y c s'))

-- what a spread tells of the labels of the variables below m
abbrev Means : ℕ → List Statement → Spread → Type 0
Means m st Spread.Nothing = (i a : ℕ) → i < m → Stated st (labelling i a) → ⊥
Means m st (Spread.One b) = (i a : ℕ) → i < m → Stated st (labelling i a) → a ≡ b.0
Means m st Spread.Several = Unit {0}

module _ (m : ℕ) (st : List Statement) where
  -- a property of the labels of m and of the variables below
  up_to : (P : ℕ → Type 0) → ((a : ℕ) → Stated st (labelling m a) → P a)
      → ((i a : ℕ) → i < m → Stated st (labelling i a) → P a) → (i a : ℕ) → i < suc m → Stated st (labelling i a) → P a
  up_to P here below i a h s =
      last_or_before i m h (λ e. here a (subst (λ k. Stated st (labelling k a)) e s)) (λ b. below i a b s)

  first_means : {s : Spread} → LabelsAt st m s → Means m st Spread.Nothing → Means (suc m) st s
  first_means (LabelsAt.none none) means = up_to (λ a. ⊥) none means
  first_means (LabelsAt.one {a = b} one) means = up_to (λ a. a ≡ b.0) one.only (λ i a h s. absurd (means i a h s))
  first_means (LabelsAt.several two) means = tt

  one_means : {s : Spread} (b : Label) → LabelsAt st m s → Means m st (Spread.One b)
      → Means (suc m) st (with_labels (Spread.One b) s)
  unfolding with_labels pick
  one_means b (LabelsAt.none none) means = up_to (λ a. a ≡ b.0) (λ a s. absurd (none a s)) means
  one_means b (LabelsAt.one {a = c} one) means =
      decided (same b.0 c.0)
      (λ p. rw p (up_to (λ a. a ≡ b.0) (λ a s. one.only a s ∙ sym (same_true _ _ p)) means))
      (λ p. rw p tt)
  one_means b (LabelsAt.several two) means = tt

  more_means : {s' : Spread} (s : Spread) → LabelsAt st m s' → Means m st s → Means (suc m) st (with_labels s s')
  unfolding with_labels
  more_means Spread.Nothing at means = first_means at means
  more_means (Spread.One b) at means = one_means b at means
  more_means Spread.Several at means = tt

-- one after another they make what is gathered of all
pub all_below : (spreads : List Spread) (n : ℕ) → n ≤ length spreads
    → fold with_labels Spread.Nothing (take n spreads) ≡ spread_below n spreads
unfolding spread_below
all_below spreads zero h = refl
all_below spreads (suc m) h =
    rw (add-one m) at (fold_more with_labels Spread.Nothing spreads m Spread.Nothing (omega arith))
    ∙ ap (λ s. with_labels s (spread_at spreads m)) (all_below spreads m (omega arith))

spread_means : {n : ℕ} {st : List Statement} {spreads : List Spread} → LabelsStand n st spreads
    → (m : ℕ) → m ≤ n → Means m st (spread_below m spreads)
unfolding spread_below
spread_means stand zero h = λ i a g s. absurd (omega arith)
spread_means {n} {st} {spreads} stand (suc m) h =
    more_means m st (spread_below m spreads) (stand.at m (omega arith)) (spread_means stand m (omega arith))

-- with a question behind the statements
by_spread : (n : ℕ) (st : List Statement) (q : Statement) → AllName n (st ++ (q ∷ [])) → (s : Spread) → Means n st s
    → can_clash s q ≡ false → clashes (st ++ (q ∷ [])) n ≡ false
unfolding OneLabel
by_spread n st q fit Spread.Nothing means e =
    one_clear _ n (label_of q) λ i a m.
    stated_of st q m (λ s. absurd (means i a (named n _ fit m) s)) (ap label_of)
by_spread n st q fit (Spread.One b) means e =
    one_clear _ n b.0 λ i a m.
    stated_of st q m (means i a (named n _ fit m)) λ p.
    sym (same_true _ _ (not-false _ (subst (λ x. if_labelling (λ i c. not (same b.0 c)) x ≡ false) (sym p) e)))
by_spread n st q fit Spread.Several means e = absurd (true≢false e)

pub skip : {n : ℕ} {st : List Statement} {spreads : List Spread} → LabelsStand n st spreads → (q : Statement)
    → AllName n (st ++ (q ∷ [])) → can_clash (spread_below n spreads) q ≡ false → clashes (st ++ (q ∷ [])) n ≡ false
skip {n} {st} {spreads} stand q fit e =
    by_spread n st q fit (spread_below n spreads) (spread_means stand n (omega arith)) e
