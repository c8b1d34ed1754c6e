-- When questions can be replied to, and what the replies are.
use Rattle.std.specs.Prelude.{ℕ, ◌<◌, ◌≤◌, length, List, Ok, None, ◌≡◌}
use Rattle.sheet.specs.Headers.{reply_count}
use Rattle.fields.specs.declared.numbers.Cursor.{Cursor}
use Rattle.fields.specs.declared.numbers.Variable.{Variable}
use Rattle.fields.specs.Limits.{most_features}
use Rattle.items.specs.declared.items.Question.{Question}
use Rattle.items.specs.declared.items.Statement.{Statement}
use Rattle.items.specs.Paths.{features_end}
use Rattle.items.specs.Questions.{Query, has_path}
use Rattle.sheet.specs.declared.whole.Accepted.{Accepted}
use Rattle.sheet.specs.Sheets.{sheet, read_sheet}
use Rattle.rules.specs.declared.replies.Reply.{Reply}
use Rattle.rules.specs.Replies.{reply_to}
use Rattle.rules.specs.Tables.{facts}
use Rattle.facts.specs.declared.growth.Growth.{Growth}
use Rattle.selections.specs.declared.grouped.Groups.{Groups}
use Rattle.selections.specs.Listed.{Selections, Listed}
use Rattle.selections.specs.Stands.{SelectionsStand}
use Rattle.answers.specs.Supports.{SingleLabels}
use Rattle.closure.specs.declared.closed.Closed.{Closed}
use Rattle.closure.specs.Trials.{IsCopy, Trying, Standing}
use Rattle.closure.specs.Making.{variables_of, table_of, spreads_of}
use Rattle.paths.specs.Sets.{Transitive}

-- closed statements that do not clash, a growth with a copy of their table, and their groups
pub record Replying (c : Closed) (g : Growth) (groups : Groups) : Type 0 where
  pub copy : IsCopy c g
  pub trying : Trying g.n (table_of c) groups
  pub consistent : c.clash ≡ None
  pub selections : Selections g.n c.selections.now
  pub single : SingleLabels g.n (spreads_of c)

-- closed statements, and a variable of theirs
pub record Following (c : Closed) (i : ℕ) : Type 0 where
  pub variable : i < variables_of c
  pub selections : Selections (variables_of c) c.selections.now
  pub transitive : Transitive (facts (variables_of c) (table_of c))

-- a path as it was read has no more features than there may be, and they end in the sheet
abbrev pub IsRead : List ℕ → Question → Type 0
IsRead s (Question.Holds x) = Unit {0}
IsRead s (Question.HasPath i path) =
    (path.count ≤ most_features) × ((end : Cursor) × (features_end path.count s path.first ≡ Ok end))

-- statements that stand in these, and of which the closed table is derived
pub record Held (n : ℕ) (c : Closed) (groups : Groups) (st : List Statement) : Type 0 where
  pub standing : Standing n (table_of c) groups (spreads_of c) st
  pub listed : SelectionsStand n st (Listed c.selections.now)

-- whatever statements they are among some, r is the reply of the sheet that states them
pub record ReplyTold (n : ℕ) (Some : List Statement → Type 0) (q : Query) (r : Reply) : Type 0 where
  pub told : (st : List Statement) (asked : List Query) → Some st → r ≡ reply_to (sheet n st asked) q

-- whatever groups and statements are held, r is the reply to a path
pub record PathReplied (c : Closed) (i : Variable) (p : List ℕ) (r : Reply) : Type 0 where
  pub told : (groups : Groups) → ReplyTold (variables_of c) (Held (variables_of c) c groups) (has_path i p) r

-- an accepted sheet, and as many reply bytes as it has questions
pub record Asked (s : List ℕ) (a : Accepted) (replies : List ℕ) : Type 0 where
  pub accepted : read_sheet s ≡ Ok a
  pub room : length replies ≡ reply_count a.header
