-- Demand 2: the derived facts are the smallest closed set, the clash told is the first there is, and replies are by
-- support and trial.
use Rattle.std.specs.Prelude.{ℕ, ◌<◌, Bool, true, false, List, None, Some, ◌↔◌, ◌≡◌}
use Rattle.items.specs.declared.items.Statement.{Statement}
use Rattle.items.specs.Questions.{Query}
use Rattle.sheet.specs.Sheets.{Sheet}
use Rattle.rules.specs.declared.replies.Reply.{Reply}
use Rattle.rules.specs.declared.kinds.Kind.{Kind}
use Rattle.rules.specs.Facts.{Relation, Holds, Into, Within, Closed}
use Rattle.rules.specs.Tables.{Shape}
use Rattle.rules.specs.Derived.{derived, facts_of}
use Rattle.rules.specs.Clashes.{clash_between, clashes_at, clash_of}
use Rattle.rules.specs.Replies.{follows, tried, fails_with, reply_to}

-- r is the smallest closed set of facts among those that a test gives
pub record Derives (n : ℕ) (st : List Statement) (r : Relation) : Type 0 where
  pub closed : Closed n st (Holds r)
  pub smallest : (u : Relation) → Closed n st (Holds u) → Within r u

-- F5 applies to i and j, and to no pair before them
pub record LeastClash (st : List Statement) (r : Relation) (n i j : ℕ) : Type 0 where
  pub row : i < n
  pub column : j < n
  pub applies : clashes_at st r i j ≡ true
  pub least_row : (x y : ℕ) → x < i → y < n → clashes_at st r x y ≡ false
  pub least_column : (y : ℕ) → y < j → clashes_at st r i y ≡ false

-- F5 applies to no pair
abbrev pub NoClash : List Statement → Relation → ℕ → Type 0
NoClash st r n = (i j : ℕ) → i < n → j < n → clashes_at st r i j ≡ false

-- what the reply r says of two tests, of support and of a trial
pub record Decided (support trial : Bool) (r : Reply) : Type 0 where
  pub always : (r ≡ Reply.Always) ↔ (support ≡ true)
  pub never : (r ≡ Reply.Never) ↔ ((support ≡ false) × (trial ≡ true))
  pub undecided : (r ≡ Reply.Open) ↔ ((support ≡ false) × (trial ≡ false))

-- what is asked is decided by its support, and by the trial of the sheet that states it too
abbrev pub Replied : Sheet → Query → Type 0
Replied s q = Decided (follows s q) (tried (fails_with s) q) (reply_to s q)

pub record Demand2 (s : Sheet) : Type 0 where
  pub derives : Derives s.n s.stated (facts_of s.stated s.n)
  pub shape : Shape s.n (derived s.stated s.n)
  pub clash : (i j : ℕ) → (clash_of s.stated s.n ≡ Some (clash_between i j))
      ↔ LeastClash s.stated (facts_of s.stated s.n) s.n i j
  pub no_clash : (clash_of s.stated s.n ≡ None)
      ↔ NoClash s.stated (facts_of s.stated s.n) s.n
  pub replies : (q : Query) → Replied s q

-- the derived facts are in every closed set, given by a test or not
abbrev pub Smallest : Sheet → Type 1
Smallest s =
    (R : Kind → ℕ → ℕ → Type 0) → Closed s.n s.stated R → Into (facts_of s.stated s.n) R
