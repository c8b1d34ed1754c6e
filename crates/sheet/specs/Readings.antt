-- A reading in progress: its bytes, and where it stands behind a field that was looked for.
use Rattle.std.specs.Prelude.{ℕ, List, Ok, Err}
use Rattle.std.specs.Borrow.{Bor}
use Rattle.fields.specs.declared.numbers.Cursor.{Cursor}
use Rattle.fields.specs.Fields.{Read}
use Rattle.sheet.specs.declared.reading.Reader.{Reader}

abbrev pub bytes_of : Reader → List ℕ
bytes_of r = r.sheet.now

abbrev pub started : Bor (List ℕ) → Cursor → Reader
started s c = record { sheet = s; next = c }

-- the same sheet, at another offset
abbrev pub moved : Reader → Cursor → Reader
moved r c = started r.sheet c

-- behind what was read, and where it was refused, where it was looked for
abbrev pub end_of : {T : Type 0} → Read T → Cursor → Cursor
end_of (Ok field) from = field.next
end_of (Err r) from = from
