-- What questions ask.
use Rattle.std.specs.Prelude.{ℕ, ◌<◌, List, Option, Some, None}
use Rattle.fields.specs.declared.numbers.Variable.{Variable}
use Rattle.items.specs.declared.items.Item.{Item}
use Rattle.items.specs.declared.items.Question.{Question}
use Rattle.items.specs.declared.items.Statement.{Statement}
use Rattle.items.specs.Statements.{statement_of, Names, All}
use Rattle.items.specs.declared.paths.Path.{Path}
use Rattle.items.specs.Paths.{features_at}

-- what is asked: whether a statement holds, or whether a variable has a path
pub data Query : Type 0 where
  holds : Statement → Query
  has_path : Variable → List ℕ → Query

-- what a question asks, as it is read: its path, else the statement of its one field
abbrev pub question_by : Item → Option Path → Question
question_by x (Some path) = Question.HasPath x.subject path
question_by x None = Question.Holds (statement_of x)

unfoldable pub question_of : Item → Question
question_of x = question_by x x.path

-- and what that is, of the sheet that it stands in
abbrev pub query_of : List ℕ → Question → Query
query_of s (Question.Holds x) = holds x
query_of s (Question.HasPath i path) = has_path i (features_at path.count s path.first)

-- every variable that is asked about is below n
abbrev pub Asks : ℕ → Query → Type 0
Asks n (holds x) = Names n x
Asks n (has_path i p) = i.0 < n

abbrev pub AllAsk : ℕ → List Query → Type 0
AllAsk n qs = All (Asks n) qs
