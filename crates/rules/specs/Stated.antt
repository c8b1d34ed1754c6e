-- What is stated: statements by plain numbers, and whether some statement of a kind passes a test.
use Rattle.std.specs.Prelude.{ℕ, zero, suc, Bool, false}
use mathlib.Core.List.{List, [], ◌∷◌, Memᴰ}
use Rattle.std.proofs.Math.Option.{Option, none, some}
use Rattle.fields.specs.Fields.{variable, feature, label}
use Rattle.fields.specs.Tests.{pick}
use Rattle.items.specs.declared.items.Statement.{Statement}
use Rattle.rules.specs.Connectives.{◌or◌}

-- i ≤ j
abbrev pub ordering : ℕ → ℕ → Statement
ordering i j = Statement.Ordering (variable i) (variable j)

-- i ~ j
abbrev pub compatibility : ℕ → ℕ → Statement
compatibility i j = Statement.Compatibility (variable i) (variable j)

-- i[f]j
abbrev pub selection : ℕ → ℕ → ℕ → Statement
selection i f j = Statement.Selection (variable i) (feature f) (variable j)

-- a(i)
abbrev pub labelling : ℕ → ℕ → Statement
labelling i a = Statement.Labelling (variable i) (label a)

-- x is one of the statements st
abbrev pub Stated : List Statement → Statement → Type 0
Stated st x = Memᴰ x st

-- a test of the fields of one kind of statement: no other kind passes it
abbrev pub if_ordering : (ℕ → ℕ → Bool) → Statement → Bool
if_ordering test (Statement.Ordering i j) = test i.0 j.0
if_ordering test (Statement.Compatibility i j) = false
if_ordering test (Statement.Selection i f j) = false
if_ordering test (Statement.Labelling i a) = false

abbrev pub if_compatibility : (ℕ → ℕ → Bool) → Statement → Bool
if_compatibility test (Statement.Ordering i j) = false
if_compatibility test (Statement.Compatibility i j) = test i.0 j.0
if_compatibility test (Statement.Selection i f j) = false
if_compatibility test (Statement.Labelling i a) = false

abbrev pub if_selection : (ℕ → ℕ → ℕ → Bool) → Statement → Bool
if_selection test (Statement.Ordering i j) = false
if_selection test (Statement.Compatibility i j) = false
if_selection test (Statement.Selection i f j) = test i.0 f.0 j.0
if_selection test (Statement.Labelling i a) = false

abbrev pub if_labelling : (ℕ → ℕ → Bool) → Statement → Bool
if_labelling test (Statement.Ordering i j) = false
if_labelling test (Statement.Compatibility i j) = false
if_labelling test (Statement.Selection i f j) = false
if_labelling test (Statement.Labelling i a) = test i.0 a.0

-- some element passes
unfoldable pub any : {A : Type 0} → (A → Bool) → List A → Bool
any test [] = false
any test (x ∷ xs) = test x or any test xs

-- some number below m passes
unfoldable pub any_below : ℕ → (ℕ → Bool) → Bool
any_below zero test = false
any_below (suc m) test = test m or any_below m test

-- some statement of the kind passes
unfoldable pub some_ordering : List Statement → (ℕ → ℕ → Bool) → Bool
some_ordering st test = any (if_ordering test) st

unfoldable pub some_compatibility : List Statement → (ℕ → ℕ → Bool) → Bool
some_compatibility st test = any (if_compatibility test) st

unfoldable pub some_selection : List Statement → (ℕ → ℕ → ℕ → Bool) → Bool
some_selection st test = any (if_selection test) st

unfoldable pub some_labelling : List Statement → (ℕ → ℕ → Bool) → Bool
some_labelling st test = any (if_labelling test) st

-- the first label whose subject passes, if there is one
unfoldable pub first_label : List Statement → (ℕ → Bool) → Option ℕ
first_label [] test = none
first_label (Statement.Ordering i j ∷ st) test = first_label st test
first_label (Statement.Compatibility i j ∷ st) test = first_label st test
first_label (Statement.Selection i f j ∷ st) test = first_label st test
first_label (Statement.Labelling i a ∷ st) test = pick (test i.0) (some a.0) (first_label st test)
