-- The steps of a check of an accepted sheet, on buffers of exactly the size in use.
use Rattle.std.specs.Prelude.{ℕ, length, replicate, List, map, None, ◌≡◌}
use Rattle.sheet.specs.Headers.{size_for, table_size}
use Rattle.items.specs.declared.items.Statement.{Statement}
use Rattle.sheet.specs.declared.whole.Accepted.{Accepted}
use Rattle.sheet.specs.Sheets.{Sheet}
use Rattle.rules.specs.Derived.{facts_of}
use Rattle.rules.specs.Tables.{table_bytes}
use Rattle.rules.specs.Verdicts.{verdict_of}
use Rattle.rules.specs.Replies.{replies_of, reply_number}
use Rattle.selections.specs.declared.grouped.Groups.{Groups}
use Rattle.selections.specs.Listed.{Selections}
use Rattle.answers.specs.Supports.{SingleLabels}
use Rattle.closure.specs.declared.closed.Closed.{Closed}
use Rattle.closure.specs.Making.{variables_of, table_of, spreads_of}
use Rattle.closure.specs.Trials.{Trying}
use Rattle.engine.specs.Replying.{Asked, Held}
use Rattle.outcomes.specs.declared.outcomes.Outcome.{Outcome}
use Rattle.promise.specs.Checks.{sheet_outcome, where_consistent}

-- an accepted sheet, two tables of its size, and as many reply bytes as it has questions
pub record Accepting (s : List ℕ) (a : Accepted) (facts work replies : List ℕ) : Type 0 where
  pub questions : Asked s a replies
  pub facts_size : length facts ≡ table_size a.header
  pub work_size : length work ≡ table_size a.header

-- closed statements of a sheet, the groups that they were closed by, and room for a copy and the replies
pub record Answering (s : List ℕ) (a : Accepted) (c : Closed) (groups : Groups) (stated : List Statement)
    (work replies : List ℕ) : Type 0 where
  pub questions : Asked s a replies
  pub sizes : variables_of c ≡ a.header.variables
  pub same_size : length (table_of c) ≡ length work
  pub selections : Selections a.header.variables c.selections.now
  pub trying : Trying a.header.variables (table_of c) groups
  pub single : c.clash ≡ None → SingleLabels a.header.variables (spreads_of c)
  pub held : Held a.header.variables c groups stated

-- the outcome of a sheet, its table, and where nothing clashes a cleared second table and the replies
pub record Filled (s : Sheet) (work replies facts' work' replies' : List ℕ) (r : Outcome) : Type 0 where
  pub outcome : r ≡ sheet_outcome s
  pub facts_are : facts' ≡ table_bytes s.n (facts_of s.stated s.n)
  pub work_is : work' ≡ where_consistent (verdict_of s) (replicate (size_for s.n) 0) work
  pub replies_are : replies' ≡ where_consistent (verdict_of s) (map reply_number (replies_of s)) replies
