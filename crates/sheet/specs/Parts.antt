-- A record's own bytes, by its number.
use Rattle.std.specs.Prelude.{ℕ, ◌-◌, List, [], take, drop}
use Rattle.fields.specs.declared.refusals.Place.{Place}
use Rattle.fields.specs.Fields.{then_value, then_field}
use Rattle.fields.specs.Tests.{less, pick}
use Rattle.sheet.specs.declared.headers.Header.{Header}
use Rattle.items.specs.Items.{item_at, items_end}
use Rattle.sheet.specs.Sheets.{read_sheet}

-- the bytes of the record behind so many records
unfoldable pub part_at : List ℕ → Header → ℕ → List ℕ
part_at s h which =
    then_value (items_end which Place.Record s h.variables h.first) (λ r. []) λ start.
    then_field (item_at Place.Record s h.variables start) (λ r. []) λ x end.
    take (end.at - start.at) (drop start.at s)

-- a record's own bytes: none for a refused sheet, or a number not below the record count
unfoldable pub record_bytes : List ℕ → ℕ → List ℕ
record_bytes s which =
    then_value (read_sheet s) (λ r. []) λ a. pick (less which a.header.records) (part_at s a.header which) []
