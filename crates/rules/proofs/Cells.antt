-- Cells of the fact table: what a cell says, and that a cell below 4 is what it says.
use Prim.Native.Nat.{ℕ, zero, suc, ◌<◌}
use mathlib.Core.Bool.{Bool, true, false}
use mathlib.Core.Path.{◌≡◌, refl, sym, ap₂, ◌∙◌}
use native.Mathlib.Omega.{arith}
use Rattle.fields.specs.Tests.{less, same, pick}
use Rattle.rules.specs.Connectives.{◌or◌}
use Rattle.rules.specs.declared.kinds.Kind.{Kind}
use Rattle.rules.specs.Tables.{says, cell_of}

-- a cell of two tests says as they do
pub says_ordered_lem : (a b : Bool) → says Kind.Ordered (cell_of a b) ≡ a
unfolding says cell_of pick same ◌or◌
says_ordered_lem true true = refl
says_ordered_lem true false = refl
says_ordered_lem false true = refl
says_ordered_lem false false = refl

pub says_compatible_lem : (a b : Bool) → says Kind.Compatible (cell_of a b) ≡ b
unfolding says cell_of pick less
says_compatible_lem true true = refl
says_compatible_lem true false = refl
says_compatible_lem false true = refl
says_compatible_lem false false = refl

pub said : (test : Kind → Bool) (kind : Kind)
    → says kind (cell_of (test Kind.Ordered) (test Kind.Compatible)) ≡ test kind
said test Kind.Ordered = says_ordered_lem _ _
said test Kind.Compatible = says_compatible_lem _ _

pub small_cell : (a b : Bool) → cell_of a b < 4
unfolding cell_of pick
small_cell true true = omega arith
small_cell true false = omega arith
small_cell false true = omega arith
small_cell false false = omega arith

-- a cell of nothing says nothing
pub says_nothing : (kind : Kind) → says kind 0 ≡ false
unfolding says same less ◌or◌
says_nothing Kind.Ordered = refl
says_nothing Kind.Compatible = refl

as_said : (cell : ℕ) → cell < 4 → cell_of (says Kind.Ordered cell) (says Kind.Compatible cell) ≡ cell
unfolding says cell_of pick same less ◌or◌
as_said zero h = refl
as_said (suc zero) h = refl
as_said (suc (suc zero)) h = refl
as_said (suc (suc (suc zero))) h = refl
as_said (suc (suc (suc (suc cell)))) h = absurd (omega arith)

-- two cells that say the same are the same
pub same_cell : (x y : ℕ) → x < 4 → y < 4 → ((kind : Kind) → says kind x ≡ says kind y) → x ≡ y
same_cell x y h g e = sym (as_said x h) ∙ ap₂ cell_of (e Kind.Ordered) (e Kind.Compatible) ∙ as_said y g
