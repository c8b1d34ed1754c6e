-- Replies to questions.
use Rattle.std.specs.Prelude.{◌≡◌, ℕ, ◌<◌, Bool, List, [], ◌∷◌, ◌++◌, map, false, Result, MatchResult}
use Rattle.fields.specs.Tests.{pick}
use Rattle.items.specs.declared.items.Statement.{Statement}
use Rattle.items.specs.Questions.{Query, holds, has_path}
use Rattle.sheet.specs.Sheets.{Sheet}
use Rattle.rules.specs.declared.replies.Reply.{Reply}
use Rattle.rules.specs.declared.replies.NoReply.{NoReply}
use Rattle.rules.specs.Derived.{facts_of}
use Rattle.rules.specs.Clashes.{clashes}
use Rattle.rules.specs.Support.{supported}
use Rattle.rules.specs.Paths.{path_supported}

-- what its records state clashes; other ways to fail join here
abbrev pub fails : Sheet → Bool
fails s = clashes s.stated s.n

-- the sheet that states x too
abbrev pub with_statement : Sheet → Statement → Sheet
with_statement s x = record { n = s.n; stated = s.stated ++ (x ∷ []); asked = s.asked }

-- what its records state supports x
abbrev pub supports : Sheet → Statement → Bool
supports s x = supported s.stated (facts_of s.stated s.n) x

-- what is asked is supported
abbrev pub follows : Sheet → Query → Bool
follows s (holds x) = supports s x
follows s (has_path i p) = path_supported s.n s.stated (facts_of s.stated s.n) i.0 p

-- what is asked fails by a trial of a statement: a path never fails, since any can be added
abbrev pub tried : (Statement → Bool) → Query → Bool
tried trial (holds x) = trial x
tried trial (has_path i p) = false

-- always by support, else never by a trial, else open
unfoldable pub reply_by : Sheet → (Statement → Bool) → Query → Reply
reply_by s trial q = pick (follows s q) Reply.Always (pick (tried trial q) Reply.Never Reply.Open)

-- the trial: the sheet that states x too fails
abbrev pub fails_with : Sheet → Statement → Bool
fails_with s x = fails (with_statement s x)

abbrev pub reply_to : Sheet → Query → Reply
reply_to s q = reply_by s (fails_with s) q

-- one reply a question
unfoldable pub replies_of : Sheet → List Reply
replies_of s = map (reply_to s) s.asked

-- the number of each reply
abbrev pub reply_number : Reply → ℕ
reply_number Reply.Always = 0
reply_number Reply.Never = 1
reply_number Reply.Open = 2

-- the reply that a byte stands for, or that it stands for none
abbrev pub IsReplyByte : ℕ → Result Reply NoReply → Type 0
IsReplyByte byte r = MatchResult r (λ reply. reply_number reply ≡ byte) (λ none. (none.0 ≡ byte) × (2 < byte))
