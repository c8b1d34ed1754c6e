-- All rows of the refusals: those of the sheet, then the lent buffers against it.
use Rattle.std.specs.Prelude.{ℕ, ◌||◌, List, Result, Ok, Err}
use Rattle.fields.specs.declared.refusals.Refusal.{Refusal}
use Rattle.fields.specs.Fields.{then_value}
use Rattle.fields.specs.Refusals.{short_table, table_refusal, short_replies, replies_refusal}
use Rattle.fields.specs.Tests.{pick}
use Rattle.sheet.specs.Headers.{table_size, reply_count}
use Rattle.sheet.specs.declared.whole.Accepted.{Accepted}
use Rattle.sheet.specs.Sheets.{read_sheet}

-- rows 8 and 9, behind the whole sheet: either table too short for it, then the reply buffer
abbrev pub lent_to : Accepted → ℕ → ℕ → ℕ → Result Accepted Refusal
lent_to a facts work replies =
    pick (short_table (table_size a.header) facts || short_table (table_size a.header) work) (Err table_refusal)
    (pick (short_replies (reply_count a.header) replies) (Err replies_refusal)
    (Ok a))

-- all rows in their order, for bytes and three lent lengths
unfoldable pub judged : List ℕ → ℕ → ℕ → ℕ → Result Accepted Refusal
judged b facts work replies =
    then_value (read_sheet b) Err λ a. lent_to a facts work replies
