-- How selections of statements stand in a list, one statement after another.
use Prim.Native.Nat.{ℕ, ◌+◌, ◌<◌, ◌≤◌}
use lib.ListN.{length, length-append, get_or-append}
use mathlib.Core.List.Memᴰ
use mathlib.Core.List.{List, [], ◌∷◌, ◌++◌}
use mathlib.Core.Logic.{◌⊎◌, inl, inr, ⊎_elim}
use lib.Seq.{get_or-append-add}
use mathlib.Core.Path.{◌≡◌, refl, subst}
use native.Mathlib.Omega.{arith}
use Rattle.std.proofs.lemmas.List.{get_or_push}
use Rattle.fields.specs.Limits.{most_variables, most_items}
use Rattle.items.specs.declared.items.Statement.{Statement}
use Rattle.items.specs.Statements.{Names, AllName}
use Rattle.rules.specs.Stated.{selection}
use Rattle.selections.specs.declared.listed.Selection.{Selection}
use Rattle.selections.specs.Listed.{selection_of, selection_at, Selections, Listed}
use Rattle.selections.specs.Stands.{Selected, SelectionsStand}
use Rattle.selections.proofs.Appended.{entries_of, below_both, at_either}

-- what a statement adds to the list: an entry where it is a selection
abbrev pub selection_in : Statement → List Selection
selection_in (Statement.Ordering i j) = []
selection_in (Statement.Compatibility i j) = []
selection_in (Statement.Selection i f j) = selection_of i.0 f.0 j.0 ∷ []
selection_in (Statement.Labelling i a) = []

-- and what all of them make
abbrev pub selections_of : List Statement → List Selection
selections_of = entries_of selection_in

-- i[f]j is in a list where its fields stand at one place
abbrev Is : ℕ → ℕ → ℕ → Selection → Type 0
Is i f j s = (s.subject.0 ≡ i) × (s.feature.0 ≡ f) × (s.child.0 ≡ j)

module _ {list : List Selection} {i f j : ℕ} where
  is_at : (l : Listed list i f j) → Is i f j (selection_at list l.at)
  is_at l = (l.subject, l.feature, l.child)

  listed_at : (k : ℕ) → k < length list → Is i f j (selection_at list k) → Listed list i f j
  listed_at k h p = record { at = k; in_list = h; subject = p.0; feature = p.1; child = p.2 }

-- statements behind statements: what is selected by the one or the other
pub both_selected : {n : ℕ} {st st' : List Statement} {selected selected' all : Selected}
    → SelectionsStand n st selected → SelectionsStand n st' selected' → ((i f j : ℕ) → selected i f j → all i f j)
    → ((i f j : ℕ) → selected' i f j → all i f j) → ((i f j : ℕ) → all i f j → selected i f j ⊎ selected' i f j)
    → SelectionsStand n (st ++ st') all
both_selected {st = st} stand stand' first second either =
    record {
      listed = λ i f j m.
          ⊎_elim (λ s. first i f j (stand.listed i f j s)) (λ s. second i f j (stand'.listed i f j s))
          (Memᴰ.append_cases st m);
      stated = λ i f j h p.
          ⊎_elim (λ s. Memᴰ.append_left _ (stand.stated i f j h s))
          (λ s. Memᴰ.append_right st (stand'.stated i f j h s)) (either i f j p);
    }

-- a list behind a list
module _ {n : ℕ} {list list' : List Selection} where
  pub both_selections : Selections n list → Selections n list' → length list + length list' ≤ most_items
      → Selections n (list ++ list')
  both_selections a b short =
      record {
        few = a.few;
        short = omega (arith, length-append list list');
        subject_below =
            below_both (λ (s : Selection). s.subject.0) (selection_of 0 0 0) list list' a.subject_below b.subject_below;
        child_below =
            below_both (λ (s : Selection). s.child.0) (selection_of 0 0 0) list list' a.child_below b.child_below;
      }

  pub both_selections_stand : {st st' : List Statement} → SelectionsStand n st (Listed list)
      → SelectionsStand n st' (Listed list') → SelectionsStand n (st ++ st') (Listed (list ++ list'))
  both_selections_stand stand stand' =
      let size = length-append list list' in
      both_selected stand stand'
      (λ i f j l. let h = l.in_list in
      listed_at l.at (omega arith) (rw (get_or-append list list' (selection_of 0 0 0) l.at h) (is_at l)))
      (λ i f j l. let h = l.in_list in
      listed_at (length list + l.at) (omega arith)
      (rw (get_or-append-add list list' l.at (selection_of 0 0 0)) (is_at l)))
      (λ i f j l.
      at_either (Is i f j) (selection_of 0 0 0) list list' l.at l.in_list (is_at l)
      (λ m h p. inl (listed_at m h p)) (λ m h p. inr (listed_at m h p)))

-- no statement
pub no_selections : (n : ℕ) → n ≤ most_variables → Selections n []
no_selections n few =
    record {
      few = few;
      short = omega arith;
      subject_below = λ k h. absurd (omega (arith, h));
      child_below = λ k h. absurd (omega (arith, h));
    }

pub no_selections_stand : (n : ℕ) → SelectionsStand n [] (Listed [])
no_selections_stand n =
    record {
      listed = λ i f j m. absurd (Memᴰ.not-nil m);
      stated = λ i f j h l. absurd (omega (arith, l.in_list));
    }

-- one statement: its entries, if any, are lawful and hold its selection
statement_lawful : (n : ℕ) (q : Statement) → n ≤ most_variables → Names n q → Selections n (selection_in q)
statement_lawful n (Statement.Ordering i j) few names = no_selections n few
statement_lawful n (Statement.Compatibility i j) few names = no_selections n few
statement_lawful n (Statement.Selection i f j) few names =
    record {
      few = few;
      short = omega arith;
      subject_below = λ k h. rw (get_or_push [] (selection_of i.0 f.0 j.0) (selection_of 0 0 0) k (omega arith)) names.0;
      child_below = λ k h. rw (get_or_push [] (selection_of i.0 f.0 j.0) (selection_of 0 0 0) k (omega arith)) names.1;
    }
statement_lawful n (Statement.Labelling i a) few names = no_selections n few

abbrev pub ListedIn : Statement → Selected
ListedIn q = Listed (selection_in q)

pub one_listed : (i f j : ℕ) → ListedIn (selection i f j) i f j
one_listed i f j = listed_at 0 (omega arith) (refl, refl, refl)

pub only_listed : {i f j x g y : ℕ} → ListedIn (selection i f j) x g y → (i ≡ x) × (f ≡ g) × (j ≡ y)
only_listed {i} {f} {j} {x} {g} {y} l =
    rw (get_or_push [] (selection_of i f j) (selection_of 0 0 0) l.at (omega (arith, l.in_list))) at (is_at l)

is_stated_lem : (q : Statement) (i f j : ℕ) → ListedIn q i f j → selection i f j ≡ q
is_stated_lem (Statement.Ordering x y) i f j l = absurd (omega (arith, l.in_list))
is_stated_lem (Statement.Compatibility x y) i f j l = absurd (omega (arith, l.in_list))
is_stated_lem (Statement.Selection x g y) i f j l = let e = only_listed l in rw (e.0, e.1, e.2) refl
is_stated_lem (Statement.Labelling x a) i f j l = absurd (omega (arith, l.in_list))

pub statement_selections : (n : ℕ) (q : Statement) → SelectionsStand n (q ∷ []) (ListedIn q)
statement_selections n q =
    record {
      listed = λ i f j m. subst (λ s. ListedIn s i f j) (Memᴰ.eq_of_singleton m) (one_listed i f j);
      stated = λ i f j h l. Memᴰ.head (is_stated_lem q i f j l);
    }

-- one statement more: any that is no selection adds nothing, to whatever holds the selections
pub other_than_selection : {n : ℕ} {st : List Statement} {selected : Selected} (q : Statement) → selection_in q ≡ []
    → SelectionsStand n st selected → SelectionsStand n (st ++ (q ∷ [])) selected
other_than_selection {n} q none stand =
    both_selected stand (statement_selections n q) (λ i f j p. p)
    (λ i f j l. let h = rw none at l.in_list in absurd (omega (arith, h))) (λ i f j p. inl p)

module _ {n : ℕ} {list : List Selection} (lawful : Selections n list) (i f j : ℕ) where
  pub more_selections : Names n (selection i f j) → length list < most_items
      → Selections n (list ++ (selection_of i f j ∷ []))
  more_selections names room =
      both_selections lawful (statement_lawful n (selection i f j) lawful.few names) (omega arith)

  pub more_selections_stand : {st : List Statement} → SelectionsStand n st (Listed list)
      → SelectionsStand n (st ++ (selection i f j ∷ [])) (Listed (list ++ (selection_of i f j ∷ [])))
  more_selections_stand stand = both_selections_stand stand (statement_selections n (selection i f j))

-- so the selections of any statements stand in the list made of them
pub all_selections : (n : ℕ) (st : List Statement) → n ≤ most_variables → AllName n st
    → length (selections_of st) ≤ most_items → Selections n (selections_of st)
all_selections n [] few names short = no_selections n few
all_selections n (q ∷ st) few names short =
    let size = length-append (selection_in q) (selections_of st) in
    both_selections (statement_lawful n q few names.0) (all_selections n st few names.1 (omega arith))
    (omega arith)

pub all_selections_stand : (n : ℕ) (st : List Statement) → SelectionsStand n st (Listed (selections_of st))
all_selections_stand n [] = no_selections_stand n
all_selections_stand n (q ∷ st) = both_selections_stand (statement_selections n q) (all_selections_stand n st)
