-- The printed outcome of a sheet: its lines, each a list of bytes.
use Rattle.std.specs.Prelude.{ℕ, List, [], ◌∷◌, ◌++◌, map, codes}
use Rattle.std.specs.List.{range_with_len, enumerate_from}
use Rattle.std.proofs.Math.Option.{Option, none, some}
use Rattle.numerals.specs.Numerals.{numeral}
use Rattle.fields.specs.Fields.{then_value}
use Rattle.fields.specs.Refusals.{number_of}
use Rattle.sheet.specs.Sheets.{read_sheet, sheet_of}
use Rattle.rules.specs.declared.replies.Reply.{Reply}
use Rattle.rules.specs.Roots.{root_label}
use Rattle.rules.specs.Replies.{replies_of}
use Rattle.outcomes.specs.declared.outcomes.Outcome.{Outcome}
use Rattle.promise.specs.Checks.{of_refusal, sheet_outcome}

-- words one space apart, and a newline behind the last
abbrev pub line : List (List ℕ) → List ℕ
line [] = codes "\n"
line (word ∷ []) = word ++ codes "\n"
line (word ∷ (next ∷ others)) = word ++ (codes " " ++ line (next ∷ others))

-- the first line: the outcome, with n on a consistent sheet
unfoldable pub outcome_line : ℕ → Outcome → List ℕ
outcome_line n (Outcome.Consistent orderings compatibilities) =
    line (codes "consistent" ∷ numeral n ∷ numeral orderings ∷ numeral compatibilities ∷ [])
outcome_line n (Outcome.Clash i j) = line (codes "clash" ∷ numeral i.0 ∷ numeral j.0 ∷ [])
outcome_line n (Outcome.Refused fault at) = line (codes "refused" ∷ numeral (number_of fault) ∷ numeral at ∷ [])

-- a label, or a dash where there is none
abbrev pub label_word : Option ℕ → List ℕ
label_word (some a) = numeral a
label_word none = codes "-"

-- the word of each reply
abbrev pub reply_word : Reply → List ℕ
reply_word Reply.Always = codes "always"
reply_word Reply.Never = codes "never"
reply_word Reply.Open = codes "open"

-- variable i and its label
unfoldable pub var_line : (ℕ → Option ℕ) → ℕ → List ℕ
var_line labels i = line (codes "var" ∷ numeral i ∷ label_word (labels i) ∷ [])

-- question q and the reply to it
unfoldable pub ask_line : ℕ → Reply → List ℕ
ask_line q reply = line (codes "ask" ∷ numeral q ∷ reply_word reply ∷ [])

-- behind the first line: on a consistent sheet one for each variable, then one for each question
unfoldable pub other_lines : ℕ → Outcome → (ℕ → Option ℕ) → List Reply → List (List ℕ)
other_lines n (Outcome.Consistent orderings compatibilities) labels replies =
    map (var_line labels) (range_with_len 0 n) ++ map (λ asked. ask_line asked.0 asked.1) (enumerate_from 0 replies)
other_lines n (Outcome.Clash i j) labels replies = []
other_lines n (Outcome.Refused fault at) labels replies = []

-- all lines that tell an outcome: n, the labels of the variables, and the replies
abbrev pub lines_of : ℕ → Outcome → (ℕ → Option ℕ) → List Reply → List (List ℕ)
lines_of n o labels replies = outcome_line n o ∷ other_lines n o labels replies

-- the outcome of any bytes, where the lent buffers are long enough
abbrev pub outcome_told : List ℕ → Outcome
outcome_told b = then_value (read_sheet b) of_refusal λ a. sheet_outcome (sheet_of b)

-- the whole output for any bytes
unfoldable pub printed : List ℕ → List (List ℕ)
printed b =
    let s = sheet_of b in
    lines_of s.n (outcome_told b) (root_label s) (replies_of s)
