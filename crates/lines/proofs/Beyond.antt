-- What stands behind the longest sheet changes nothing that is printed: a program need not read on.
use Rattle.std.specs.Prelude.{Result, Ok, Err}
use Prim.Native.Nat.{ℕ, ◌+◌}
use lib.ListN.{take}
use mathlib.Core.List.{List}
use mathlib.Core.Path.{◌≡◌, refl}
use Rattle.fields.specs.declared.refusals.Refusal.{Refusal}
use Rattle.sheet.specs.declared.whole.Accepted.{Accepted}
use Rattle.sheet.specs.Sheets.{read_sheet, sheet_of, longest}
use Rattle.sheet.proofs.Beyond.{beyond_unread, beyond_accepted}
use Rattle.lines.specs.Lines.{printed}

pub beyond_printed : (b : List ℕ) → printed (take (longest + 1) b) ≡ printed b
unfolding printed sheet_of
beyond_printed b = go (read_sheet b) refl
  where
    go : (r : Result Accepted Refusal) → read_sheet b ≡ r → printed (take (longest + 1) b) ≡ printed b
    go (Ok a) e = rw (beyond_accepted b a e) refl
    go (Err r) e = rw (beyond_unread b, e) refl
