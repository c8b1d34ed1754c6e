-- Demand 3: what the answers mean of trees, over the assignments C that they are about.
use Rattle.std.specs.Prelude.{ℕ, ◌<◌, Bool, true, false, [], ◌↔◌, ◌≡◌}
use Rattle.std.proofs.Math.Option.{some}
use Rattle.items.specs.declared.items.Statement.{Statement}
use Rattle.items.specs.Questions.{Query, Asks}
use Rattle.sheet.specs.Sheets.{Sheet}
use Rattle.rules.specs.declared.replies.Reply.{Reply}
use Rattle.rules.specs.Clashes.{clashes}
use Rattle.rules.specs.Roots.{path_label}
use Rattle.rules.specs.Replies.{fails, reply_to}
use Rattle.trees.specs.Trees.{labelled, Path}
use Rattle.trees.specs.Assignments.{Assignment, Satisfies, Falsifies, Keeps, Breaks, Meets, Counts}

-- there is one; there is one that is such; each is such; there is none
abbrev pub Met : (Assignment → Type 0) → Type 0
Met C = (v : Assignment) × C v

abbrev pub Some : (Assignment → Type 0) → (Assignment → Type 0) → Type 0
Some C P = (v : Assignment) × (C v × P v)

abbrev pub Every : (Assignment → Type 0) → (Assignment → Type 0) → Type 0
Every C P = (v : Assignment) → C v → P v

abbrev pub Unmet : (Assignment → Type 0) → Type 0
Unmet C = Every C λ v. ⊥

-- the reply r to q exactly when it is true
pub record Answers (C : Assignment → Type 0) (q : Query) (r : Reply) : Type 0 where
  pub is_always : (r ≡ Reply.Always) ↔ Every C λ v. Keeps v q
  pub is_never : (r ≡ Reply.Never) ↔ Every C λ v. Breaks v q
  pub is_open : (r ≡ Reply.Open) ↔ ((Some C λ v. Keeps v q) × (Some C λ v. Breaks v q))

-- two tests of a statement pass exactly where all satisfy it, and where none does
pub record Tested (C : Assignment → Type 0) (x : Statement) (support trial : Bool) : Type 0 where
  pub always : (support ≡ true) ↔ Every C λ v. Satisfies v x
  pub never : (trial ≡ true) ↔ Every C λ v. Falsifies v x

-- each has the label a at the path p of i, and at its root
abbrev pub LabelIs : (Assignment → Type 0) → ℕ → Path → ℕ → Type 0
LabelIs C i p a = Every C λ v. v i p ≡ labelled a

abbrev pub RootIs : (Assignment → Type 0) → ℕ → ℕ → Type 0
RootIs C i a = LabelIs C i [] a

-- each answer exactly when it is true: a clash where no trees at all meet the sheet; where some count, consistent, the
-- label of each variable at each path, and the reply to every question over the sheet's variables, with any feature,
-- label or path
pub record Demand3 (s : Sheet) : Type 0 where
  pub clash : (clashes s.stated s.n ≡ true) ↔ Unmet (Meets s)
  pub consistent : (fails s ≡ false) ↔ Met (Counts s)
  pub labels : fails s ≡ false → (i : ℕ) (p : Path) (a : ℕ) → i < s.n
      → (path_label s i p ≡ some a) ↔ LabelIs (Counts s) i p a
  pub answers : fails s ≡ false → (q : Query) → Asks s.n q → Answers (Counts s) q (reply_to s q)
