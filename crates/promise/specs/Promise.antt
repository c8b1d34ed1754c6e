-- What the number that a check returns and the bytes that it leaves mean: demands 1 to 3, of any bytes and buffers.
use Rattle.std.specs.Prelude.{ℕ, ◌<◌, true, length, get_or, take, drop, List, ◌↔◌, ◌≡◌, Result, Ok, Err}
use Rattle.std.proofs.Math.Option.{some}
use Rattle.fields.specs.declared.refusals.Refusal.{Refusal}
use Rattle.fields.specs.Refusals.{number_of}
use Rattle.sheet.specs.Headers.{size_for}
use Rattle.items.specs.Questions.{Query}
use Rattle.sheet.specs.declared.whole.Accepted.{Accepted}
use Rattle.sheet.specs.Numbered.{question_in}
use Rattle.sheet.specs.Sheets.{Sheet, sheet_of}
use Rattle.rules.specs.Clashes.{clashes_at}
use Rattle.rules.specs.Demand.{Derives, LeastClash}
use Rattle.rules.specs.Derived.{facts_of}
use Rattle.rules.specs.Replies.{follows}
use Rattle.rules.specs.Tables.{table_bytes}
use Rattle.trees.specs.Assignments.{Assignment, Keeps, Breaks, Meets, Counts}
use Rattle.trees.specs.Demand.{Met, Unmet, Some, Every}
use Rattle.outcomes.specs.Outcomes.{kind_in, first_in, second_in}
use Rattle.outcomes.specs.Judged.{judged}

-- no row of the refusals applies to the bytes and the lent lengths, or one does
abbrev pub IsAccepted : Result Accepted Refusal → Type 0
IsAccepted read = (a : Accepted) × (read ≡ Ok a)

abbrev pub IsRefused : Result Accepted Refusal → Type 0
IsRefused read = (r : Refusal) × (read ≡ Err r)

-- the first bytes of a table hold exactly the facts that F1 to F4 derive: the smallest closed set
pub record FactsTold (s : Sheet) (table : List ℕ) : Type 0 where
  pub derives : Derives s.n s.stated (facts_of s.stated s.n)
  pub bytes : take (size_for s.n) table ≡ table_bytes s.n (facts_of s.stated s.n)

-- a refusal told by number and place, and no lent byte changed
pub record RefusalTold (q : Refusal) (facts₀ work₀ replies₀ facts' work' replies' : List ℕ) (r : ℕ) : Type 0 where
  pub number : first_in r ≡ number_of q.fault
  pub place : second_in r ≡ q.at
  pub facts_kept : facts' ≡ facts₀
  pub work_kept : work' ≡ work₀
  pub replies_kept : replies' ≡ replies₀

-- one reply byte a question, each of 0 to 2, and none behind them changed
pub record OneReplyEach (s : Sheet) (replies₀ replies' : List ℕ) : Type 0 where
  pub each : (k : ℕ) → k < length s.asked → get_or replies' k 0 < 3
  pub others : drop (length s.asked) replies' ≡ drop (length s.asked) replies₀

-- F5 applies to some pair
abbrev pub F5Applies : Sheet → Type 0
F5Applies s =
    (i : ℕ) × ((j : ℕ) × ((i < s.n) × (j < s.n) × (clashes_at s.stated (facts_of s.stated s.n) i j ≡ true)))

-- what is asked is supported
abbrev pub Supported : Sheet → Query → Type 0
Supported s q = follows s q ≡ true

-- a reply byte is 0, 1 or 2 exactly when each of the assignments C keeps the question, each breaks it, or there are
-- two, one of each
pub record ByteMeans (C : Assignment → Type 0) (q : Query) (byte : ℕ) : Type 0 where
  pub always : (byte ≡ 0) ↔ Every C λ v. Keeps v q
  pub never : (byte ≡ 1) ↔ Every C λ v. Breaks v q
  pub undecided : (byte ≡ 2) ↔ ((Some C λ v. Keeps v q) × (Some C λ v. Breaks v q))

pub record Means (b facts₀ work₀ replies₀ facts' replies' : List ℕ) (r : ℕ) : Type 0 where
  -- kind 2: a row of the refusals applies
  pub refused : (kind_in r ≡ 2) ↔ IsRefused (judged b (length facts₀) (length work₀) (length replies₀))
  -- kind 0: none does, and some assignment of trees counts
  pub consistent : (kind_in r ≡ 0)
      ↔ (IsAccepted (judged b (length facts₀) (length work₀) (length replies₀)) × Met (Counts (sheet_of b)))
  -- kind 1: none does, and no assignment at all meets the sheet
  pub clash : (kind_in r ≡ 1)
      ↔ (IsAccepted (judged b (length facts₀) (length work₀) (length replies₀)) × Unmet (Meets (sheet_of b)))
  -- where none does, the first table holds the derived facts
  pub derived : IsAccepted (judged b (length facts₀) (length work₀) (length replies₀)) → FactsTold (sheet_of b) facts'
  -- the pair that clashes is the first to which F5 applies
  pub least : kind_in r ≡ 1
      → LeastClash (sheet_of b).stated (facts_of (sheet_of b).stated (sheet_of b).n) (sheet_of b).n (first_in r) (second_in r)
  -- and where the sheet is consistent, each reply byte is true of the assignments that count
  pub replies : kind_in r ≡ 0 → (k : ℕ) (q : Query) → question_in (sheet_of b).asked k ≡ some q
      → ByteMeans (Counts (sheet_of b)) q (get_or replies' k 0)
