-- A question by its number: among all that a sheet asks, and in its bytes.
use Rattle.std.specs.Prelude.{ℕ, zero, suc, List, [], ◌∷◌, Option as Found, None, Some}
use Rattle.std.proofs.Math.Option.{Option, none, some}
use Rattle.fields.specs.declared.refusals.Place.{Place}
use Rattle.fields.specs.Fields.{then_value, then_field}
use Rattle.fields.specs.Tests.{less, pick}
use Rattle.items.specs.declared.items.Question.{Question}
use Rattle.items.specs.Items.{items_end, question_at}
use Rattle.items.specs.Questions.{Query}
use Rattle.sheet.specs.declared.whole.Accepted.{Accepted}

-- question k of a sheet
abbrev pub question_in : List Query → ℕ → Option Query
question_in [] k = none
question_in (q ∷ qs) zero = some q
question_in (q ∷ qs) (suc k) = question_in qs k

-- as it is read: behind so many others, if the header says that there are more
unfoldable pub numbered : List ℕ → Accepted → ℕ → Found Question
numbered s a k =
    let h = a.header in
    pick (less k h.questions)
    (then_value (items_end k Place.Question s h.variables a.asked) (λ r. None) λ start.
    then_field (question_at s h.variables start) (λ r. None) λ q next. Some q)
    None
