-- How many lines there are, and which stands at which number.
use Rattle.std.specs.Prelude.{get_or}
use Rattle.std.proofs.lemmas.List.{get_or-map, length-map}
use Prim.Native.Nat.{ℕ, zero, suc, ◌+◌, ◌-◌, ◌<◌, ◌≤◌}
use lib.ListN.{length}
use mathlib.Core.List.{List, []}
use mathlib.Core.Option.{Option}
use mathlib.Core.Path.{◌≡◌, refl, ap, ◌∙◌}
use native.Mathlib.Omega.{arith}
use Rattle.fields.specs.declared.numbers.Variable.{Variable}
use Rattle.fields.specs.declared.refusals.Fault.{Fault}
use Rattle.rules.specs.declared.replies.Reply.{Reply}
use Rattle.outcomes.specs.declared.outcomes.Outcome.{Outcome}
use Rattle.lines.specs.declared.printout.Printout.{Printout}
use Rattle.lines.specs.Lines.{outcome_line, var_line, ask_line, other_lines, lines_of}
use Rattle.lines.proofs.Runs.{runs_count, variable_in, question_in}
use Rattle.lines.specs.Printouts.{reply_told, labels_in, replies_in, lines_in}

module _ (n : ℕ) (labels : ℕ → Option ℕ) (replies : List Reply) where
  abbrev question_line : ℕ × Reply → List ℕ
  question_line asked = ask_line asked.0 asked.1

  -- on a consistent sheet a line for each variable and question behind the first, else none
  pub lines_count : (o c : ℕ) → length (lines_of n (Outcome.Consistent o c) labels replies) ≡ 1 + n + length replies
  unfolding other_lines
  lines_count o c = omega (arith, runs_count (var_line labels) question_line n replies)

  -- a line behind the first is that of a variable,
  pub at_variable : (o : Outcome) (k : ℕ) → k < length (lines_of n o labels replies) → 0 < k → k ≤ n
      → get_or (lines_of n o labels replies) k [] ≡ var_line labels (k - 1)
  unfolding other_lines
  at_variable o zero h some few = absurd (omega arith)
  at_variable (Outcome.Clash i j) (suc k) h some few = absurd (omega arith)
  at_variable (Outcome.Refused f at) (suc k) h some few = absurd (omega arith)
  at_variable (Outcome.Consistent o c) (suc k) h some few =
      let e : suc k - 1 ≡ k = omega arith in
      rw e (variable_in (var_line labels) question_line n replies k [] (omega arith))

  -- or that of a question
  at_question : (o : Outcome) (k : ℕ) → k < length (lines_of n o labels replies) → n < k
      → get_or (lines_of n o labels replies) k [] ≡ ask_line (k - 1 - n) (get_or replies (k - 1 - n) Reply.Open)
  unfolding other_lines
  at_question o zero h many = absurd (omega arith)
  at_question (Outcome.Clash i j) (suc k) h many = absurd (omega arith)
  at_question (Outcome.Refused f at) (suc k) h many = absurd (omega arith)
  at_question (Outcome.Consistent o c) (suc k) h many =
      let e : suc k - 1 ≡ k = omega arith in
      let here = runs_count (var_line labels) question_line n replies in
      rw e (question_in (var_line labels) question_line n replies k [] (omega arith) (omega (arith, h, here)))

  -- and there only one of a consistent sheet
  is_question : (o : Outcome) (k : ℕ) → k < length (lines_of n o labels replies) → n < k
      → k - 1 - n < length replies
  unfolding other_lines
  is_question (Outcome.Clash i j) k h many = absurd (omega arith)
  is_question (Outcome.Refused f at) k h many = absurd (omega arith)
  is_question (Outcome.Consistent o c) k h many = omega (arith, h, lines_count o c)

-- of a printout
module _ (p : Printout) where
  pub consistent_count : (o c : ℕ) → p.outcome ≡ Outcome.Consistent o c
      → length (lines_in p) ≡ 1 + p.variables + length p.replies.now
  unfolding lines_in
  consistent_count o c e =
      rw e (omega (arith, lines_count p.variables (labels_in p) (replies_in p) o c, length-map p.replies.now reply_told))

  pub clash_count : (i j : Variable) → p.outcome ≡ Outcome.Clash i j → length (lines_in p) ≡ 1
  unfolding lines_in other_lines
  clash_count i j e = rw e refl

  pub refused_count : (fault : Fault) (at : ℕ) → p.outcome ≡ Outcome.Refused fault at → length (lines_in p) ≡ 1
  unfolding lines_in other_lines
  refused_count fault at e = rw e refl

  pub first_at : get_or (lines_in p) 0 [] ≡ outcome_line p.variables p.outcome
  unfolding lines_in
  first_at = refl

  module _ (k : ℕ) (there : k < length (lines_in p)) where
    pub variable_at : 0 < k → k ≤ p.variables → get_or (lines_in p) k [] ≡ var_line (labels_in p) (k - 1)
    unfolding lines_in
    variable_at some few = at_variable p.variables (labels_in p) (replies_in p) p.outcome k there some few

    module _ (many : p.variables < k) where
      pub question_there : k - 1 - p.variables < length p.replies.now
      unfolding lines_in
      question_there =
          omega (
            arith,
            is_question p.variables (labels_in p) (replies_in p) p.outcome k there many,
            length-map p.replies.now reply_told,
          )

      pub question_at : (d : ℕ) → get_or (lines_in p) k []
          ≡ ask_line (k - 1 - p.variables) (reply_told (get_or p.replies.now (k - 1 - p.variables) d))
      unfolding lines_in
      question_at d =
          at_question p.variables (labels_in p) (replies_in p) p.outcome k there many
          ∙ ap (ask_line (k - 1 - p.variables)) (
          get_or-map reply_told p.replies.now (k - 1 - p.variables) d Reply.Open question_there)

pub ruleset which_line = (consistent_count, clash_count, refused_count, first_at, variable_at, question_there, question_at)
