-- A path as it was read, and as it is handed on.
use Prim.Native.Nat.{ℕ}
use mathlib.Core.List.{List}
use mathlib.Core.Logic.{⊎_elim}
use mathlib.Core.Option.{none}
use mathlib.Core.Path.{◌≡◌, sym, subst, ◌∙◌}
use Rattle.std.specs.Prelude.{Option, None, Some, Ok}
use Rattle.fields.specs.declared.fields.Field.{Field}
use Rattle.fields.specs.declared.numbers.Cursor.{Cursor}
use Rattle.fields.specs.declared.numbers.Variable.{Variable}
use Rattle.fields.specs.declared.refusals.Place.{Place}
use Rattle.fields.proofs.Chains.{told}
use Rattle.fields.proofs.Extents.{Held}
use Rattle.items.specs.declared.items.Item.{Item}
use Rattle.items.specs.declared.items.Question.{Question}
use Rattle.items.specs.declared.paths.Path.{Path}
use Rattle.items.specs.Items.{question_at}
use Rattle.items.specs.Paths.{features_in, features_at, path_at}
use Rattle.items.specs.Questions.{question_by, question_of, query_of, Asks}
use Rattle.items.proofs.Lawful.{Reads, item_spans}
use Rattle.items.proofs.PathFields.{PathFits}
use Rattle.items.proofs.Places.{path_features}
use Rattle.std.proofs.lemmas.Bool.{cases_lt}
use Rattle.sheet.specs.declared.whole.Accepted.{Accepted}
use Rattle.sheet.specs.Numbered.{question_in, numbered}
use Rattle.sheet.specs.Sheets.{read_sheet, sheet_of}
use Rattle.sheet.proofs.Asked.{Numbered, by_number, number_beyond}
use Rattle.sheet.proofs.Theorems.{accepted_asked}
use Rattle.promise.proofs.Shown.{at_question}
use Rattle.engine.specs.Replying.{IsRead}
use Rattle.engine.proofs.Answered.{read_item}

-- what an item asks
module _ {s : List ℕ} {n : ℕ} {c next : Cursor} {x : Item} (r : Reads Place.Question s n c x next) where
  by_path : (path : Option Path) → Held (PathFits s next) path → IsRead s (question_by x path)
  by_path (Some path) fits = (fits.few, (next, fits.features))
  by_path None fits = tt

  pub item_read : IsRead s (question_of x)
  unfolding question_of
  item_read = by_path x.path r.path

pub question_read : (s : List ℕ) (n : ℕ) (c : Cursor) {q : Field Question} → question_at s n c ≡ Ok q → IsRead s q.value
question_read s n c {q} e =
    read_item s n c q e λ x i same.
    subst (IsRead s) same (item_read (told (item_spans Place.Question s n c) i))

-- its features are those that are handed on
pub same_features : (s : List ℕ) (i : Variable) (path : Path) → IsRead s (Question.HasPath i path)
    → features_in path.count (path_at s path.first path.count) ≡ features_at path.count s path.first
same_features s i path (few, (end, e)) = path_features s path.first end path.count few e

-- by its number
module _ (s : List ℕ) (a : Accepted) (accepted : read_sheet s ≡ Ok a) (k : ℕ) where
  pub is_numbered : {q : Question} → numbered s a k ≡ Some q → Numbered s a accepted k q
  is_numbered {q} e =
      ⊎_elim
      (λ h. by_number s a accepted k h λ q' n.
      let same : ◌≡◌ {A = Option Question} (Some q') (Some q) = sym n.read ∙ e in
      let is : q' ≡ q = cc in
      subst (Numbered s a accepted k) is n)
      (λ h. let none = (number_beyond s a accepted k h).0 in absurd (cc)) (cases_lt k a.header.questions)

  pub not_numbered : numbered s a k ≡ None → question_in (sheet_of s).asked k ≡ none
  not_numbered e =
      ⊎_elim (λ h. by_number s a accepted k h λ q n. let other = n.read in absurd (cc))
      (λ h. (number_beyond s a accepted k h).1) (cases_lt k a.header.questions)

  -- it was read, and asks for variables of the sheet
  pub numbered_read : {q : Question} → Numbered s a accepted k q → IsRead s q
  numbered_read n = subst (IsRead s) n.question_is (item_read n.reads)

  pub numbered_asks : {q : Question} → Numbered s a accepted k q → Asks a.header.variables (query_of s q)
  numbered_asks {q} n =
      at_question (Asks a.header.variables) (sheet_of s).asked k (query_of s q) (accepted_asked s a accepted) n.asked
