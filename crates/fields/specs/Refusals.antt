-- The refusals, row by row: its number, its condition, and the offset that is told.
use Rattle.std.specs.Prelude.{ℕ, ◌+◌, Bool, false, not, ◌||◌, List, length}
use Rattle.fields.specs.declared.numbers.Cursor.{Cursor}
use Rattle.fields.specs.declared.refusals.Fault.{Fault}
use Rattle.fields.specs.declared.refusals.Place.{Place}
use Rattle.fields.specs.declared.refusals.Refusal.{Refusal}
use Rattle.fields.specs.Limits.{most_variables, most_items, most_features}
use Rattle.fields.specs.Tests.{less, same, has}

-- the number of each fault
abbrev pub number_of : Fault → ℕ
number_of Fault.Cut = 1
number_of Fault.HeaderMap = 2
number_of Fault.VariableCount = 3
number_of Fault.Count = 4
number_of Fault.ItemMap = 5
number_of Fault.VariableRange = 6
number_of Fault.Trailing = 7
number_of Fault.ShortTable = 8
number_of Fault.ShortReplies = 9
number_of Fault.PathLength = 10

abbrev pub refusal : Fault → ℕ → Refusal
refusal fault at = record { fault = fault; at = at }

-- 1, anywhere: a field that is due is missing or incomplete; told at the sheet's length
unfoldable pub ends : List ℕ → ℕ → ℕ → Bool
ends s at width = less (length s) (at + width)

abbrev pub cut : List ℕ → Refusal
cut s = refusal Fault.Cut (length s)

-- 2, header map: without bit 0, or with a bit that a header does not define, 3 to 7; told at 0
unfoldable pub bad_header_map : ℕ → Bool
bad_header_map map = not (has 1 map) || less 7 map

abbrev pub header_map_refusal : Refusal
header_map_refusal = refusal Fault.HeaderMap 0

-- 3, variable count: 0, or more than the limit; told at 1
unfoldable pub bad_variable_count : ℕ → Bool
bad_variable_count n = same n 0 || less most_variables n

abbrev pub variable_count_refusal : Refusal
variable_count_refusal = refusal Fault.VariableCount 1

-- 4, record or question count: more than the limit; told at its high byte
unfoldable pub bad_count : ℕ → Bool
bad_count count = less most_items count

abbrev pub count_refusal : Cursor → Refusal
count_refusal field = refusal Fault.Count field.at

-- 5, item map: 0, with a bit that its place does not define, 4 to 7 in a record and 5 to 7 in a question, or with several
-- bits in a question; told at the map
abbrev pub defined_bits : Place → ℕ
defined_bits Place.Record = 15
defined_bits Place.Question = 31

unfoldable pub several_bits : ℕ → Bool
several_bits map = not (same map 1 || (same map 2 || (same map 4 || (same map 8 || same map 16))))

abbrev pub too_many_bits : Place → ℕ → Bool
too_many_bits Place.Record map = false
too_many_bits Place.Question map = several_bits map

unfoldable pub bad_item_map : Place → ℕ → Bool
bad_item_map place map = same map 0 || (less (defined_bits place) map || too_many_bits place map)

abbrev pub item_map_refusal : Cursor → Refusal
item_map_refusal field = refusal Fault.ItemMap field.at

-- 6, variable: n or more; told at its byte
unfoldable pub bad_variable : ℕ → ℕ → Bool
bad_variable n variable = not (less variable n)

abbrev pub variable_refusal : Cursor → Refusal
variable_refusal field = refusal Fault.VariableRange field.at

-- 7, behind the last question: something follows; told at its first byte
unfoldable pub remain : List ℕ → Cursor → Bool
remain s end = less end.at (length s)

abbrev pub trailing_refusal : Cursor → Refusal
trailing_refusal end = refusal Fault.Trailing end.at

-- 8, a lent table: shorter than the table size; told at 0
unfoldable pub short_table : ℕ → ℕ → Bool
short_table size lent = less lent size

abbrev pub table_refusal : Refusal
table_refusal = refusal Fault.ShortTable 0

-- 9, the reply buffer: shorter than the question count; told at 0
unfoldable pub short_replies : ℕ → ℕ → Bool
short_replies questions lent = less lent questions

abbrev pub replies_refusal : Refusal
replies_refusal = refusal Fault.ShortReplies 0

-- 10, the count of a path: 0, or more than the limit; told at the count
unfoldable pub bad_path_length : ℕ → Bool
bad_path_length count = same count 0 || less most_features count

abbrev pub path_length_refusal : Cursor → Refusal
path_length_refusal field = refusal Fault.PathLength field.at
