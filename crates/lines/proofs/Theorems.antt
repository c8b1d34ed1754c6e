-- What a reader of printed lines rests on.
use Rattle.std.specs.List.{concat}
use Prim.Native.Nat.{ℕ}
use mathlib.Core.List.{List}
use mathlib.Core.Path.{◌≡◌}
use Rattle.sheet.specs.Sheets.{sheet_of}
use Rattle.lines.specs.Lines.{outcome_told, printed}
use Rattle.lines.specs.Alike.{SameTold}
use Rattle.lines.proofs.Telling.{same_text}

-- the same text is printed only where all that it tells is the same
pub told_by_text : (b b' : List ℕ) → concat (printed b) ≡ concat (printed b') → SameTold b b'
unfolding printed
told_by_text b b' e = same_text (sheet_of b) (sheet_of b') (outcome_told b) (outcome_told b') e
