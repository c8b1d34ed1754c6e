-- Assignments of trees to variables: which meet a sheet, which keep or break a question, and which count.
use Rattle.std.specs.Prelude.{ℕ, ◌<◌, List}
use Rattle.items.specs.declared.items.Statement.{Statement}
use Rattle.items.specs.Questions.{Query, holds, has_path}
use Rattle.items.specs.Statements.{All}
use Rattle.sheet.specs.Sheets.{Sheet}
use Rattle.trees.specs.Trees.{Tree, IsTree, Present, Below, Compatible, Child, Labelled}

abbrev pub Assignment : Type 0
Assignment = ℕ → Tree

-- the trees are as a statement says, and the opposite
abbrev pub Satisfies : Assignment → Statement → Type 0
Satisfies v (Statement.Ordering i j) = Below (v i.0) (v j.0)
Satisfies v (Statement.Compatibility i j) = Compatible (v i.0) (v j.0)
Satisfies v (Statement.Selection i f j) = Child (v i.0) f.0 (v j.0)
Satisfies v (Statement.Labelling i a) = Labelled (v i.0) a.0

abbrev pub Falsifies : Assignment → Statement → Type 0
Falsifies v x = Satisfies v x → ⊥

abbrev pub SatisfiesAll : Assignment → List Statement → Type 0
SatisfiesAll v xs = All (Satisfies v) xs

abbrev pub FalsifiesAll : Assignment → List Statement → Type 0
FalsifiesAll v xs = All (Falsifies v) xs

-- what is asked holds for the trees, and the opposite
abbrev pub Keeps : Assignment → Query → Type 0
Keeps v (holds x) = Satisfies v x
Keeps v (has_path i p) = Present (v i.0 p)

abbrev pub Breaks : Assignment → Query → Type 0
Breaks v q = Keeps v q → ⊥

-- to each variable a tree, and nothing stated is broken
pub record Meets (s : Sheet) (v : Assignment) : Type 0 where
  pub trees : (i : ℕ) → i < s.n → IsTree (v i)
  pub kept : SatisfiesAll v s.stated

-- the assignments that 'consistent' and the replies are about: the one place to say which
abbrev pub Counts : Sheet → Assignment → Type 0
Counts s v = Meets s v
