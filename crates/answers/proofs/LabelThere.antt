-- The label that a search among what a path leads to finds is the one that is told there: it is stated for one of these, and
-- where the search finds none, none is.
use Prim.Native.Nat.{ℕ, ◌<◌}
use mathlib.Core.Bool.{Bool, true, false}
use mathlib.Core.List.{List}
use mathlib.Core.Option.{none, some, Option as Maybe}
use mathlib.Core.Path.{◌≡◌, refl, sym, ◌∙◌}
use Rattle.std.specs.Prelude.{Option, None, Some, MatchOption}
use Rattle.fields.specs.declared.numbers.Label.{Label}
use Rattle.fields.specs.Fields.{label}
use Rattle.fields.specs.Tests.{pick}
use Rattle.fields.proofs.Choice.{chosen}
use Rattle.items.specs.declared.items.Statement.{Statement}
use Rattle.items.specs.Statements.{AllName}
use Rattle.rules.specs.Tables.{facts}
use Rattle.rules.specs.Derived.{derived}
use Rattle.rules.specs.Clashes.{clashes}
use Rattle.rules.specs.Paths.{at_path}
use Rattle.rules.specs.Roots.{label_at}
use Rattle.rules.proofs.Paths.{path_inside}
use Rattle.rules.proofs.Roots.{told_from, stated_is_told}
use Rattle.labels.specs.declared.spread.Spread.{Spread}
use Rattle.labels.specs.Spreads.{spread_at, only_label}
use Rattle.labels.specs.Roots.{label_in}
use Rattle.labels.specs.Labels.{LabelsStand}
use Rattle.labels.proofs.Kept.{only_stated, stated_only}
use Rattle.answers.specs.Roots.{label_from}
use Rattle.answers.proofs.OneLabel.{single_labels_lem}

-- a choice of an answer or none
some_chosen : (b : Bool) (x : Option Label) {a : Label} → Some a ≡ pick b x None → (b ≡ true) × (x ≡ Some a)
unfolding pick
some_chosen true x e = (refl, sym e)
some_chosen false x e = cc

-- a search among n variables finds the first answer that there is, or there is none
abbrev pub Searched : ℕ → (ℕ → Option Label) → Option Label → Type 0
Searched n at c =
    MatchOption c ((k : ℕ) → k < n → None ≡ at k)
    (λ a. (k : ℕ) × (k < n) × (Some a ≡ at k) × ((z : ℕ) → z < k → None ≡ at z))

module _ {n : ℕ} {t : List ℕ} {spreads : List Spread} {st : List Statement} (stand : LabelsStand n st spreads)
    (names : AllName n st) (is : t ≡ derived st n) (clear : clashes st n ≡ false) (i : ℕ) (p : List ℕ) where
  -- one that is found
  found_there : (k : ℕ) (a : Label) → k < n → Some a ≡ label_from (at_path st (facts n t) i p) spreads k
      → some a.0 ≡ label_at st (facts n t) i p
  found_there k a h e =
      let parts = some_chosen (at_path st (facts n t) i p k) (only_label (spread_at spreads k)) e in
      rw is (sym (stated_is_told n st names clear i p k a.0 (only_stated (stand.at k h) parts.1) (rw is at parts.0)))

  -- one that is told would be found
  none_there : ((k : ℕ) → k < n → None ≡ label_from (at_path st (facts n t) i p) spreads k)
      → (told : Maybe ℕ) → label_at st (facts n t) i p ≡ told → none ≡ told
  none_there missing none e = refl
  none_there missing (some a) e =
      told_from st (facts n t) i p a e λ k s q.
      let h = path_inside st n t i p k q in
      let single = (single_labels_lem stand names clear).single k h in
      let only = stated_only (stand.at k h) single s in
      let other : None ≡ Some (label a) = missing k h ∙ sym (chosen _ _ None q (sym only)) in
      cc

  pub label_there : (c : Option Label) → Searched n (label_from (at_path st (facts n t) i p) spreads) c
      → label_in c ≡ label_at st (facts n t) i p
  label_there None missing = none_there missing _ refl
  label_there (Some a) found = found_there found.0 a found.1 found.2
