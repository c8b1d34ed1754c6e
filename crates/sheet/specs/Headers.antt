-- The header: a map byte, then by rising bit the fields whose bit stands.
use Rattle.std.specs.Prelude.{ℕ, ◌*◌, Bool, List, Option, unwrap_or, Result, Ok, Err}
use Rattle.fields.specs.declared.numbers.Cursor.{Cursor}
use Rattle.fields.specs.declared.refusals.Refusal.{Refusal}
use Rattle.fields.specs.Fields.{Read, cursor, found, then_field, judged, byte_field, word_field, field_if}
use Rattle.fields.specs.Refusals.{bad_header_map, header_map_refusal, bad_variable_count, variable_count_refusal}
use Rattle.fields.specs.Refusals.{bad_count, count_refusal}
use Rattle.fields.specs.Limits.{most_variables, most_items}
use Rattle.fields.specs.Tests.{pick, has}
use Rattle.sheet.specs.declared.headers.Header.{Header}

abbrev pub header : ℕ → ℕ → ℕ → ℕ → Cursor → Header
header map n records questions first =
    record { map = map; variables = n; records = records; questions = questions; first = first }

unfoldable pub header_map : List ℕ → Read ℕ
header_map s = judged bad_header_map header_map_refusal (byte_field s (cursor 0))

unfoldable pub variable_count : List ℕ → Cursor → Read ℕ
variable_count s c = judged bad_variable_count variable_count_refusal (byte_field s c)

-- a record or question count
unfoldable pub count_field : List ℕ → Cursor → Read ℕ
count_field s c =
    then_field (word_field s c) Err λ count next.
    pick (bad_count count) (Err (count_refusal c)) (found count next)

-- it is there only where its bit stands
unfoldable pub count_if : Bool → List ℕ → Cursor → Read (Option ℕ)
count_if stands s c = field_if stands (count_field s c) c

-- a count that is missing is 0
unfoldable pub header_of : List ℕ → Result Header Refusal
header_of s =
    then_field (header_map s) Err λ map c.
    then_field (variable_count s c) Err λ n c'.
    then_field (count_if (has 2 map) s c') Err λ records c''.
    then_field (count_if (has 4 map) s c'') Err λ questions first.
    Ok (header map n (unwrap_or records 0) (unwrap_or questions 0) first)

-- how many bytes a fact table over n variables takes
unfoldable pub size_for : ℕ → ℕ
size_for n = n * n

-- the table size
abbrev pub table_size : Header → ℕ
table_size h = size_for h.variables

-- the largest there is
abbrev pub largest_table : ℕ
largest_table = most_variables * most_variables

-- how many replies a sheet gets
unfoldable pub reply_count : Header → ℕ
reply_count h = h.questions

-- the most there are
abbrev pub most_replies : ℕ
most_replies = most_items
