-- Worked cases: bytes of a sheet beside what the definitions must give for them.
use Rattle.std.specs.Prelude.{ℕ, zero, suc, List, [], ◌∷◌, map, None, Some, ◌≡◌}
use Rattle.std.specs.Prelude as Prelude
use Rattle.std.proofs.Math.Option.{Option, none, some}
use Rattle.fields.specs.declared.refusals.Refusal.{Refusal}
use Rattle.fields.specs.Fields.{then_value}
use Rattle.fields.specs.Refusals.{number_of}
use Rattle.sheet.specs.Sheets.{Sheet, read_sheet, sheet_of}
use Rattle.rules.specs.declared.clashes.Clash.{Clash}
use Rattle.rules.specs.declared.kinds.Kind.{Kind}
use Rattle.rules.specs.Tables.{count_facts}
use Rattle.rules.specs.Derived.{facts_of}
use Rattle.rules.specs.Clashes.{clash_of}
use Rattle.rules.specs.Replies.{replies_of, reply_number}
use Rattle.rules.specs.Roots.{root_label}

-- with two numbers: how many facts i ≤ j and i ~ j, the pair that clashes, or number and offset of the refusal
pub data Outcome : Type 0 where
  consistent clash refused : ℕ → ℕ → Outcome

-- bytes, and what is told of them: labels one a variable, replies one a question
pub record Case : Type 0 where
  pub bytes : List ℕ
  pub variables : ℕ
  pub outcome : Outcome
  pub labels : List (Option ℕ)
  pub replies : List ℕ

abbrev pub row : List ℕ → ℕ → Outcome → List (Option ℕ) → List ℕ → Case
row bytes n outcome labels replies =
    record { bytes = bytes; variables = n; outcome = outcome; labels = labels; replies = replies }

-- the labels told of as many variables, from i on
unfoldable pub labels_from : ℕ → ℕ → Sheet → List (Option ℕ)
labels_from zero i s = []
labels_from (suc left) i s = root_label s i ∷ labels_from left (suc i) s

-- the numbers of both kinds of fact
unfoldable pub counts_of : Sheet → Outcome
counts_of s =
    consistent (count_facts s.n (facts_of s.stated s.n) Kind.Ordered)
    (count_facts s.n (facts_of s.stated s.n) Kind.Compatible)

-- where no labels clash there are counts and replies
abbrev pub of_sheet : List ℕ → Sheet → Prelude.Option Clash → Case
of_sheet bytes s None =
    row bytes s.n (counts_of s) (labels_from s.n 0 s) (map reply_number (replies_of s))
of_sheet bytes s (Some pair) =
    row bytes s.n (clash pair.first.0 pair.second.0) (labels_from s.n 0 s) []

abbrev pub of_accepted : List ℕ → Sheet → Case
of_accepted bytes s = of_sheet bytes s (clash_of s.stated s.n)

abbrev pub of_refused : List ℕ → Refusal → Case
of_refused bytes r = row bytes 0 (refused (number_of r.fault) r.at) [] []

-- what the definitions give for any bytes
unfoldable pub worked : List ℕ → Case
worked bytes = then_value (read_sheet bytes) (of_refused bytes) (λ a. of_accepted bytes (sheet_of bytes))

-- C1 to C12 of the scope, and behind them rows for what those leave unseen; a label is 'none' where none is told, a reply
-- 0 for always, 1 for never, 2 for open
unfoldable pub table : List Case
table =
    -- C1: one variable
    row (1 ∷ 1 ∷ [])
    1 (consistent 1 1) (none ∷ []) []
    -- C2: 2 ≤ 0, 2[1]3, 5(0), 6(1); asked 2 ≤ 0, 2 ≤ 1, 0 ~ 1
    ∷ row (7 ∷ 4 ∷ 0 ∷ 3 ∷ 0 ∷ 3
    ∷ 5 ∷ 2 ∷ 0 ∷ 0 ∷ 1 ∷ 3 ∷ 8 ∷ 0 ∷ 0 ∷ 5 ∷ 8 ∷ 1 ∷ 0 ∷ 6 ∷ 1 ∷ 2 ∷ 0
    ∷ 1 ∷ 2 ∷ 1 ∷ 2 ∷ 0 ∷ 1 ∷ [])
    4 (consistent 5 6) (some 5 ∷ some 6 ∷ none ∷ none ∷ []) (0 ∷ 2 ∷ 1 ∷ [])
    -- C3: 5(0), 6(0)
    ∷ row (3 ∷ 1 ∷ 0 ∷ 2
    ∷ 8 ∷ 0 ∷ 0 ∷ 5 ∷ 8 ∷ 0 ∷ 0 ∷ 6 ∷ [])
    1 (clash 0 0) (none ∷ []) []
    -- C4: 5(0), 6(1), 0 ~ 2, 2 ~ 1
    ∷ row (3 ∷ 3 ∷ 0 ∷ 4
    ∷ 8 ∷ 0 ∷ 0 ∷ 5 ∷ 8 ∷ 1 ∷ 0 ∷ 6 ∷ 2 ∷ 0 ∷ 2 ∷ 2 ∷ 2 ∷ 1 ∷ [])
    3 (consistent 3 7) (some 5 ∷ some 6 ∷ none ∷ []) []
    -- C5: 0 ≤ 2, 1 ≤ 2, 5(0), 6(1)
    ∷ row (3 ∷ 3 ∷ 0 ∷ 4
    ∷ 1 ∷ 0 ∷ 2 ∷ 1 ∷ 1 ∷ 2 ∷ 8 ∷ 0 ∷ 0 ∷ 5 ∷ 8 ∷ 1 ∷ 0 ∷ 6 ∷ [])
    3 (clash 0 1) (none ∷ none ∷ none ∷ []) []
    -- C6: 0[1]0, 0 ≤ 1, 1[1]1
    ∷ row (3 ∷ 2 ∷ 0 ∷ 3
    ∷ 4 ∷ 0 ∷ 0 ∷ 1 ∷ 0 ∷ 1 ∷ 0 ∷ 1 ∷ 4 ∷ 1 ∷ 0 ∷ 1 ∷ 1 ∷ [])
    2 (consistent 3 4) (none ∷ none ∷ []) []
    -- C7: 0[1]1, 0[1]2, 5(1), 6(2)
    ∷ row (3 ∷ 3 ∷ 0 ∷ 4
    ∷ 4 ∷ 0 ∷ 0 ∷ 1 ∷ 1 ∷ 4 ∷ 0 ∷ 0 ∷ 1 ∷ 2 ∷ 8 ∷ 1 ∷ 0 ∷ 5 ∷ 8 ∷ 2 ∷ 0 ∷ 6 ∷ [])
    3 (clash 1 2) (none ∷ none ∷ none ∷ []) []
    -- C8: 5(0), 0 ≤ 1; asked 5(1), 6(1)
    ∷ row (7 ∷ 2 ∷ 0 ∷ 2 ∷ 0 ∷ 2
    ∷ 8 ∷ 0 ∷ 0 ∷ 5 ∷ 1 ∷ 0 ∷ 1 ∷ 8 ∷ 1 ∷ 0 ∷ 5 ∷ 8 ∷ 1 ∷ 0 ∷ 6 ∷ [])
    2 (consistent 3 4) (some 5 ∷ some 5 ∷ []) (0 ∷ 1 ∷ [])
    -- C9: 0[1]1, 0 ≤ 2, 2 ≤ 0; asked 2[1]1
    ∷ row (7 ∷ 3 ∷ 0 ∷ 3 ∷ 0 ∷ 1
    ∷ 4 ∷ 0 ∷ 0 ∷ 1 ∷ 1 ∷ 1 ∷ 0 ∷ 2 ∷ 1 ∷ 2 ∷ 0 ∷ 4 ∷ 2 ∷ 0 ∷ 1 ∷ 1 ∷ [])
    3 (consistent 5 5) (none ∷ none ∷ none ∷ []) (0 ∷ [])
    -- C10: 0[1]1, 0 ≤ 2; asked 2[1]1
    ∷ row (7 ∷ 3 ∷ 0 ∷ 2 ∷ 0 ∷ 1
    ∷ 4 ∷ 0 ∷ 0 ∷ 1 ∷ 1 ∷ 1 ∷ 0 ∷ 2 ∷ 4 ∷ 2 ∷ 0 ∷ 1 ∷ 1 ∷ [])
    3 (consistent 4 5) (none ∷ none ∷ none ∷ []) (2 ∷ [])
    -- C11: one variable; asked 0[9]0
    ∷ row (5 ∷ 1 ∷ 0 ∷ 1
    ∷ 4 ∷ 0 ∷ 0 ∷ 9 ∷ 0 ∷ [])
    1 (consistent 1 1) (none ∷ []) (2 ∷ [])
    -- C12: 0[1]0, 1 ≤ 0; asked 0[1]1
    ∷ row (7 ∷ 2 ∷ 0 ∷ 2 ∷ 0 ∷ 1
    ∷ 4 ∷ 0 ∷ 0 ∷ 1 ∷ 0 ∷ 1 ∷ 1 ∷ 0 ∷ 4 ∷ 0 ∷ 0 ∷ 1 ∷ 1 ∷ [])
    2 (consistent 3 4) (none ∷ none ∷ []) (2 ∷ [])
    -- two bare variables; asked 0 ≤ 1: in the smallest trees it holds
    ∷ row (5 ∷ 2 ∷ 0 ∷ 1
    ∷ 1 ∷ 0 ∷ 1 ∷ [])
    2 (consistent 2 2) (none ∷ none ∷ []) (2 ∷ [])
    -- F1.2: 0 ≤ 1, 1 ≤ 2
    ∷ row (3 ∷ 3 ∷ 0 ∷ 2
    ∷ 1 ∷ 0 ∷ 1 ∷ 1 ∷ 1 ∷ 2 ∷ [])
    3 (consistent 6 9) (none ∷ none ∷ none ∷ []) []
    -- F2: 0[1]0, 1[1]2, 0 ≤ 1; asked 0 ≤ 2
    ∷ row (7 ∷ 3 ∷ 0 ∷ 3 ∷ 0 ∷ 1
    ∷ 4 ∷ 0 ∷ 0 ∷ 1 ∷ 0 ∷ 4 ∷ 1 ∷ 0 ∷ 1 ∷ 2 ∷ 1 ∷ 0 ∷ 1 ∷ 1 ∷ 0 ∷ 2 ∷ [])
    3 (consistent 5 7) (none ∷ none ∷ none ∷ []) (0 ∷ [])
    -- F4 from a stated ~: 0[1]0, 1[1]2, 0 ~ 1, 5(0), 6(2)
    ∷ row (3 ∷ 3 ∷ 0 ∷ 5
    ∷ 4 ∷ 0 ∷ 0 ∷ 1 ∷ 0 ∷ 4 ∷ 1 ∷ 0 ∷ 1 ∷ 2 ∷ 2 ∷ 0 ∷ 1 ∷ 8 ∷ 0 ∷ 0 ∷ 5
    ∷ 8 ∷ 2 ∷ 0 ∷ 6 ∷ [])
    3 (clash 0 2) (none ∷ none ∷ none ∷ []) []
    -- two features: 0[1]1, 0[2]2, 5(1), 6(2)
    ∷ row (3 ∷ 3 ∷ 0 ∷ 4
    ∷ 4 ∷ 0 ∷ 0 ∷ 1 ∷ 1 ∷ 4 ∷ 0 ∷ 0 ∷ 2 ∷ 2 ∷ 8 ∷ 1 ∷ 0 ∷ 5 ∷ 8 ∷ 2 ∷ 0 ∷ 6 ∷ [])
    3 (consistent 3 3) (none ∷ some 5 ∷ some 6 ∷ []) []
    -- a feature is not passed downward: 0 ≤ 1, 1[1]2; asked 0[1]2
    ∷ row (7 ∷ 3 ∷ 0 ∷ 2 ∷ 0 ∷ 1
    ∷ 1 ∷ 0 ∷ 1 ∷ 4 ∷ 1 ∷ 0 ∷ 1 ∷ 2 ∷ 4 ∷ 0 ∷ 0 ∷ 1 ∷ 2 ∷ [])
    3 (consistent 4 5) (none ∷ none ∷ none ∷ []) (2 ∷ [])
    -- a label is not passed along ~, and what is stated is always: 5(0), 0 ~ 1; asked 5(1), 0 ~ 1
    ∷ row (7 ∷ 2 ∷ 0 ∷ 2 ∷ 0 ∷ 2
    ∷ 8 ∷ 0 ∷ 0 ∷ 5 ∷ 2 ∷ 0 ∷ 1 ∷ 8 ∷ 1 ∷ 0 ∷ 5 ∷ 2 ∷ 0 ∷ 1 ∷ [])
    2 (consistent 2 4) (some 5 ∷ none ∷ []) (2 ∷ 0 ∷ [])
    -- the least of two columns is told: 5(0), 6(1), 6(2), 0 ~ 2, 0 ~ 1
    ∷ row (3 ∷ 3 ∷ 0 ∷ 5
    ∷ 8 ∷ 0 ∷ 0 ∷ 5 ∷ 8 ∷ 1 ∷ 0 ∷ 6 ∷ 8 ∷ 2 ∷ 0 ∷ 6 ∷ 2 ∷ 0 ∷ 2 ∷ 2 ∷ 0 ∷ 1 ∷ [])
    3 (clash 0 1) (none ∷ none ∷ none ∷ []) []
    -- a label comes up by F2, and none comes down: 0[1]1, 2[1]3, 0 ≤ 2, 5(1), 6(2)
    ∷ row (3 ∷ 4 ∷ 0 ∷ 5
    ∷ 4 ∷ 0 ∷ 0 ∷ 1 ∷ 1 ∷ 4 ∷ 2 ∷ 0 ∷ 1 ∷ 3 ∷ 1 ∷ 0 ∷ 2 ∷ 8 ∷ 1 ∷ 0 ∷ 5 ∷ 8 ∷ 2 ∷ 0 ∷ 6 ∷ [])
    4 (consistent 6 8) (none ∷ some 5 ∷ some 6 ∷ some 5 ∷ []) []
    -- one label of two below: 5(0), 5(1), 0 ≤ 2, 1 ≤ 2
    ∷ row (3 ∷ 3 ∷ 0 ∷ 4
    ∷ 8 ∷ 0 ∷ 0 ∷ 5 ∷ 8 ∷ 1 ∷ 0 ∷ 5 ∷ 1 ∷ 0 ∷ 2 ∷ 1 ∷ 1 ∷ 2 ∷ [])
    3 (consistent 5 9) (some 5 ∷ some 5 ∷ some 5 ∷ []) []
    -- paths come up from what is below, by shared children: 0[1]1, 0 ≤ 2, 1[2]1; asked 2.1, 2.1.2.2, 2.2, 1.1
    ∷ row (7 ∷ 3 ∷ 0 ∷ 3 ∷ 0 ∷ 4
    ∷ 4 ∷ 0 ∷ 0 ∷ 1 ∷ 1 ∷ 1 ∷ 0 ∷ 2 ∷ 4 ∷ 1 ∷ 0 ∷ 2 ∷ 1
    ∷ 16 ∷ 2 ∷ 1 ∷ 0 ∷ 1 ∷ 16 ∷ 2 ∷ 3 ∷ 0 ∷ 1 ∷ 0 ∷ 2 ∷ 0 ∷ 2 ∷ 16 ∷ 2 ∷ 1 ∷ 0 ∷ 2 ∷ 16 ∷ 1 ∷ 1 ∷ 0 ∷ 1 ∷ [])
    3 (consistent 4 5) (none ∷ none ∷ none ∷ []) (0 ∷ 0 ∷ 2 ∷ 2 ∷ [])
    ∷ []

-- the definitions give each row from its bytes
infixr 5 ◌next◌
pub data AllWorked : List Case → Type 0 where
  done : AllWorked []
  ◌next◌ : {c : Case} {cases : List Case} → worked c.bytes ≡ c → AllWorked cases → AllWorked (c ∷ cases)
