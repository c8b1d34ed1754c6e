-- One thing for each variable and behind them one for each question: lines, or the words of lines.
use Rattle.std.specs.Prelude.{get_or, drop}
use Rattle.std.specs.List.{range_with_len, enumerate_from}
use Rattle.std.proofs.lemmas.List.{drop_at, get_or_append_left, get_or-append_right, get_or-map, length-append, length-map}
use Rattle.std.proofs.lemmas.List.FromFn.{length-map-range_with_len, get_or-map-range_with_len}
use Rattle.std.proofs.lemmas.List.FromFn.{length-enumerate_from, get_or-enumerate_from}
use Prim.Native.Nat.{ℕ, ◌+◌, ◌-◌, ◌<◌, ◌≤◌}
use lib.ListN.{length}
use mathlib.Core.List.{List, ◌++◌, map}
use mathlib.Core.Path.{◌≡◌, ap, ◌∙◌}
use native.Mathlib.Omega.{arith}
use Rattle.rules.specs.declared.replies.Reply.{Reply}

module _ {A : Type 0} (of_variable : ℕ → A) (of_question : ℕ × Reply → A) (n : ℕ) (replies : List Reply) where
  abbrev pub variables : List A
  variables = map of_variable (range_with_len 0 n)

  abbrev pub questions : List A
  questions = map of_question (enumerate_from 0 replies)

  variables_count : length variables ≡ n
  variables_count = length-map-range_with_len of_variable 0 n

  pub runs_count : length (variables ++ questions) ≡ n + length replies
  runs_count =
      omega (
        arith,
        length-append variables questions,
        variables_count,
        length-map (enumerate_from 0 replies) of_question,
        length-enumerate_from 0 replies,
      )

  -- that of variable i stands at i,
  pub variable_in : (i : ℕ) (d : A) → i < n → get_or (variables ++ questions) i d ≡ of_variable i
  variable_in i d h =
      get_or_append_left variables questions d i (omega (arith, variables_count))
      ∙ get_or-map-range_with_len of_variable 0 n i i d h (omega arith)

  -- and from n on those of the questions
  pub questions_from : drop n (variables ++ questions) ≡ questions
  questions_from = drop_at variables questions n variables_count

  pub question_in : (k : ℕ) (d : A) → n ≤ k → k - n < length replies
      → get_or (variables ++ questions) k d ≡ of_question (k - n, get_or replies (k - n) Reply.Open)
  question_in k d past here =
      let from : 0 + (k - n) ≡ k - n = omega arith in
      get_or-append_right variables questions n k d variables_count past
      ∙ get_or-map of_question (enumerate_from 0 replies) (k - n) (0, Reply.Open) d
      (omega (arith, here, length-enumerate_from 0 replies))
      ∙ ap of_question (get_or-enumerate_from 0 replies (k - n) (0, Reply.Open) here)
      ∙ ap (λ q. of_question (q, get_or replies (k - n) Reply.Open)) from
