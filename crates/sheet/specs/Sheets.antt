-- The whole sheet, and what it states and asks.
use Rattle.std.specs.Prelude.{ℕ, ◌+◌, ◌*◌, List, [], ◌∷◌, ◌++◌, map, Result, Ok, Err}
use Rattle.fields.specs.declared.numbers.Cursor.{Cursor}
use Rattle.fields.specs.declared.refusals.Place.{Place}
use Rattle.fields.specs.declared.refusals.Refusal.{Refusal}
use Rattle.fields.specs.Fields.{then_value}
use Rattle.fields.specs.Refusals.{remain, trailing_refusal}
use Rattle.fields.specs.Limits.{most_items}
use Rattle.fields.specs.Tests.{pick}
use Rattle.sheet.specs.declared.headers.Header.{Header}
use Rattle.sheet.specs.Headers.{header_of}
use Rattle.items.specs.declared.items.Item.{Item}
use Rattle.items.specs.declared.items.Statement.{Statement}
use Rattle.items.specs.Items.{items_end, items_of, most}
use Rattle.items.specs.Statements.{statements_of, AllName}
use Rattle.items.specs.Questions.{Query, question_of, query_of, AllAsk}
use Rattle.sheet.specs.declared.whole.Accepted.{Accepted}

abbrev pub accepted : Header → Cursor → Accepted
accepted h asked = record { header = h; asked = asked }

-- behind the header: as many records and as many questions as it says, then nothing
unfoldable pub body_of : List ℕ → Header → Result Accepted Refusal
body_of s h =
    then_value (items_end h.records Place.Record s h.variables h.first) Err λ asked.
    then_value (items_end h.questions Place.Question s h.variables asked) Err λ end.
    pick (remain s end) (Err (trailing_refusal end)) (Ok (accepted h asked))

-- every list of bytes is accepted, with its header and the offset of its questions, or refused
unfoldable pub read_sheet : List ℕ → Result Accepted Refusal
read_sheet s = then_value (header_of s) Err λ h. body_of s h

-- the longest sheet: a header of 6 bytes, and as many records and questions as there may be, each of the longest
abbrev pub longest : ℕ
longest = 6 + most_items * (most Place.Record + most Place.Question)

-- what an accepted sheet says: n variables, the statements of its records, what its questions ask
pub record Sheet : Type 0 where
  pub n : ℕ
  pub stated : List Statement
  pub asked : List Query

abbrev pub sheet : ℕ → List Statement → List Query → Sheet
sheet n stated asked = record { n = n; stated = stated; asked = asked }

abbrev pub all_statements : List Item → List Statement
all_statements [] = []
all_statements (x ∷ xs) = statements_of x ++ all_statements xs

-- what a question of a sheet asks, of its item
abbrev pub asks : List ℕ → Item → Query
asks s x = query_of s (question_of x)

unfoldable pub sheet_at : List ℕ → Accepted → Sheet
sheet_at s a =
    let h = a.header in
    sheet h.variables
    (all_statements (items_of h.records Place.Record s h.variables h.first))
    (map (asks s) (items_of h.questions Place.Question s h.variables a.asked))

-- of a refused list of bytes: no variable, no statement, no question
unfoldable pub sheet_of : List ℕ → Sheet
sheet_of s = then_value (read_sheet s) (λ r. sheet 0 [] []) (sheet_at s)

-- what a sheet states and asks is over its own variables
pub record Named (x : Sheet) : Type 0 where
  pub stated : AllName x.n x.stated
  pub asked : AllAsk x.n x.asked
