-- The label told of a variable at a path: where nothing clashes, what the path leads to has one label at most, and at a root
-- it is the one that is supported.
use Prim.Native.Nat.{ℕ, ◌≤◌}
use mathlib.Core.Bool.{true, false, true≢false, false≢true}
use mathlib.Core.List.{List, []}
use mathlib.Core.Logic.{◌↔◌}
use mathlib.Core.Option.{Option, none, some, none-ne-some}
use mathlib.Core.Path.{◌≡◌, refl, sym, ap, ◌∙◌}
use Rattle.std.specs.Prelude.{Option as Found, None, Some, is_some}
use Rattle.items.specs.declared.items.Statement.{Statement}
use Rattle.items.specs.Statements.{AllName}
use Rattle.sheet.specs.Sheets.{Sheet}
use Rattle.rules.specs.declared.clashes.Clash.{Clash}
use Rattle.rules.specs.Stated.{labelling, Stated}
use Rattle.rules.specs.Facts.{Relation}
use Rattle.rules.specs.Derived.{derived, facts_of}
use Rattle.rules.specs.Clashes.{clash_of, clashes}
use Rattle.rules.specs.Verdicts.{verdict_by, verdict_of}
use Rattle.rules.specs.Support.{under_label}
use Rattle.rules.specs.Roots.{label_at, label_below, told_by, path_label}
use Rattle.rules.specs.Paths.{at_path}
use Rattle.rules.proofs.Paths.{path_together, path_beyond}
use Rattle.rules.proofs.Logic.{decided}
use Rattle.rules.proofs.Labels.{first_from, first_found}
use Rattle.rules.proofs.Supported.{label_by, label_under}
use Rattle.rules.proofs.Clashing.{labels_equal}

-- a label that is told is stated where the path leads to
pub told_from : {C : Type 0} (st : List Statement) (r : Relation) (i : ℕ) (p : List ℕ) (a : ℕ) → label_at st r i p ≡ some a
    → ((k : ℕ) → Stated st (labelling k a) → at_path st r i p k ≡ true → C) → C
unfolding label_at
told_from st r i p a e next = first_from (at_path st r i p) st e next

-- what is told at a root is supported
pub told_is_supported : (st : List Statement) (r : Relation) (i a : ℕ) → label_below st r i ≡ some a
    → under_label st r i a ≡ true
unfolding at_path
told_is_supported st r i a e = told_from st r i [] a e λ k s p. label_by r s p

module _ (n : ℕ) (st : List Statement) (names : AllName n st) (clear : clashes st n ≡ false) where
  -- what a path leads to has one label, and where one is stated it is told
  pub stated_is_told : (i : ℕ) (p : List ℕ) (k a : ℕ) → Stated st (labelling k a)
      → at_path st (facts_of st n) i p k ≡ true → label_at st (facts_of st n) i p ≡ some a
  unfolding label_at
  stated_is_told i p k a s q =
      first_found (at_path st (facts_of st n) i p) st s q λ b told.
      told_from st (facts_of st n) i p b told λ m s' q'.
      told ∙ ap some (labels_equal st n clear (path_together n st names i p m k q' q) s' s)

  -- what is supported at a root is told
  pub supported_is_told : (i a : ℕ) → under_label st (facts_of st n) i a ≡ true
      → label_below st (facts_of st n) i ≡ some a
  unfolding at_path
  supported_is_told i a e = label_under st (facts_of st n) i a e λ k s p. stated_is_told i [] k a s p

  pub told_exactly : (i a : ℕ) → (label_below st (facts_of st n) i ≡ some a)
      ↔ (under_label st (facts_of st n) i a ≡ true)
  told_exactly i a = (told_is_supported st (facts_of st n) i a, supported_is_told i a)

-- where a clash is told, no label is; where none is, the one below
by_clash : (c : Found Clash) (told : Option ℕ) → is_some c ≡ false → told_by (verdict_by c) told ≡ told
by_clash None told e = refl
by_clash (Some clash) told e = absurd (true≢false e)

on_clash : (c : Found Clash) (told : Option ℕ) → is_some c ≡ true → told_by (verdict_by c) told ≡ none
on_clash None told e = absurd (false≢true e)
on_clash (Some clash) told e = refl

module _ (s : Sheet) (i : ℕ) (p : List ℕ) where
  abbrev there : Option ℕ
  there = label_at s.stated (facts_of s.stated s.n) i p

  pub path_told : clashes s.stated s.n ≡ false → path_label s i p ≡ label_at s.stated (facts_of s.stated s.n) i p
  unfolding path_label verdict_of clashes
  path_told e = by_clash (clash_of s.stated s.n) there e

  pub path_on_clash : clashes s.stated s.n ≡ true → path_label s i p ≡ none
  unfolding path_label verdict_of clashes
  path_on_clash e = on_clash (clash_of s.stated s.n) there e

  -- what is no variable has none
  beyond : (told : Option ℕ) → path_label s i p ≡ told → s.n ≤ i → told ≡ none
  beyond none e h = refl
  beyond (some a) e h =
      decided (clashes s.stated s.n) (λ c. absurd (none-ne-some a (sym (path_on_clash c) ∙ e))) λ c.
      told_from s.stated (facts_of s.stated s.n) i p a (sym (path_told c) ∙ e) λ k stated q. absurd (path_beyond s.stated s.n (derived s.stated s.n) i p h k q)

  pub label_beyond : s.n ≤ i → path_label s i p ≡ none
  label_beyond h = beyond _ refl h
