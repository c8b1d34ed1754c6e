-- The words of all that is printed, and what is the same where these are.
use Rattle.std.specs.Prelude.{codes, get_or, drop}
use Rattle.std.specs.List.{All, concat, range_with_len, enumerate_from}
use Rattle.std.proofs.Common.{rules}
use Rattle.std.proofs.lemmas.List.{map-append}
use Rattle.std.proofs.lemmas.List.Elements.{All-nil, All-cons, All-append, All-map}
use Rattle.std.proofs.lemmas.Simd.{map-map}
use Prim.Native.Nat.{ℕ, ◌+◌, ◌<◌}
use mathlib.Core.List.{List, [], ◌∷◌, ◌++◌, map}
use mathlib.Core.Path.{◌≡◌, refl, sym, ap, ◌∙◌}
use native.Mathlib.Omega.{arith}
use Rattle.numerals.specs.Numerals.{numeral}
use Rattle.numerals.proofs.Theorems.{numeral_injective}
use Rattle.fields.specs.Refusals.{number_of}
use Rattle.sheet.specs.Sheets.{Sheet}
use Rattle.rules.specs.declared.replies.Reply.{Reply}
use Rattle.rules.specs.Roots.{root_label}
use Rattle.rules.specs.Replies.{replies_of}
use Rattle.outcomes.specs.declared.outcomes.Outcome.{Outcome}
use Rattle.lines.specs.Lines.{line, outcome_line, label_word, reply_word, var_line, ask_line, other_lines, lines_of}
use Rattle.lines.specs.Alike.{Alike}
use Rattle.lines.proofs.Runs.{variable_in, questions_from}
use Rattle.lines.proofs.Words.{Words, same_lines}
use Rattle.lines.proofs.Spelling.{number_fits, label_fits, same_label, reply_fits, same_reply}

-- the words of the line of a question
abbrev ask_words : ℕ × Reply → List (List ℕ)
ask_words asked = codes "ask" ∷ numeral asked.0 ∷ reply_word asked.1 ∷ []

module _ (s : Sheet) where
  -- of that of variable i
  abbrev var_words : ℕ → List (List ℕ)
  var_words i = codes "var" ∷ numeral i ∷ label_word (root_label s i) ∷ []

  abbrev of_variables : List (List (List ℕ))
  of_variables = map var_words (range_with_len 0 s.n)

  abbrev of_questions : List (List (List ℕ))
  of_questions = map ask_words (enumerate_from 0 (replies_of s))

  -- of the first line, and of those behind it
  abbrev outcome_words : Outcome → List (List ℕ)
  outcome_words (Outcome.Consistent c d) = codes "consistent" ∷ numeral s.n ∷ numeral c ∷ numeral d ∷ []
  outcome_words (Outcome.Clash i j) = codes "clash" ∷ numeral i.0 ∷ numeral j.0 ∷ []
  outcome_words (Outcome.Refused fault at) = codes "refused" ∷ numeral (number_of fault) ∷ numeral at ∷ []

  abbrev other_words : Outcome → List (List (List ℕ))
  other_words (Outcome.Consistent c d) = of_variables ++ of_questions
  other_words (Outcome.Clash i j) = []
  other_words (Outcome.Refused fault at) = []

  -- of all lines
  abbrev words_of : Outcome → List (List (List ℕ))
  words_of o = outcome_words o ∷ other_words o

  -- all lines are made of these,
  made_of : (o : Outcome) → lines_of s.n o (root_label s) (replies_of s) ≡ map line (words_of o)
  unfolding outcome_line var_line ask_line other_lines
  made_of (Outcome.Consistent c d) = simp (map-append, map-map) refl
  made_of (Outcome.Clash i j) = refl
  made_of (Outcome.Refused fault at) = refl

  -- which are words
  first_fits : (o : Outcome) → Words (outcome_words o)
  first_fits (Outcome.Consistent c d) = search (rules, number_fits)
  first_fits (Outcome.Clash i j) = search (rules, number_fits)
  first_fits (Outcome.Refused fault at) = search (rules, number_fits)

  others_fit : (o : Outcome) → All Words (other_words o)
  others_fit (Outcome.Consistent c d) =
      All-append Words of_variables of_questions
      (All-map Words var_words (range_with_len 0 s.n) (λ k d h. search (rules, number_fits, label_fits)))
      (All-map Words ask_words (enumerate_from 0 (replies_of s)) (λ k d h. search (rules, number_fits, reply_fits)))
  others_fit (Outcome.Clash i j) = All-nil Words
  others_fit (Outcome.Refused fault at) = All-nil Words

  all_fit : (o : Outcome) → All Words (words_of o)
  all_fit o = All-cons Words (outcome_words o) (other_words o) (first_fits o) (others_fit o)

  -- those of variable i stand at i, and from n on those of the questions
  variable_words : (i : ℕ) → i < s.n → get_or (of_variables ++ of_questions) i [] ≡ var_words i
  variable_words i h = variable_in var_words ask_words s.n (replies_of s) i [] h

  question_words : drop s.n (of_variables ++ of_questions) ≡ of_questions
  question_words = questions_from var_words ask_words s.n (replies_of s)

-- replies are told by their lines
same_replies : (q : ℕ) (rs ts : List Reply) → map ask_words (enumerate_from q rs) ≡ map ask_words (enumerate_from q ts)
    → rs ≡ ts
same_replies q [] [] e = refl
same_replies q [] (t ∷ ts) e = cc
same_replies q (r ∷ rs) [] e = cc
same_replies q (r ∷ rs) (t ∷ ts) e = cc (same_reply r t (cc e), same_replies (q + 1) rs ts (ap (drop 1) e))

module _ (s s' : Sheet) where
  -- all is told by the words,
  same_words : (o o' : Outcome) → words_of s o ≡ words_of s' o' → Alike s s' o o'
  same_words (Outcome.Consistent c d) (Outcome.Consistent c' d') e =
      let as_many : s.n ≡ s'.n = numeral_injective s.n s'.n (cc e) in
      record {
        kind = refl;
        first = numeral_injective c c' (cc e);
        second = numeral_injective d d' (cc e);
        variables = λ k. as_many;
        labels = λ k i h.
            let there = variable_words s' i (omega arith) in
            same_label (root_label s i) (root_label s' i)
            (cc (sym (variable_words s i h) ∙ ap (λ x. get_or x i []) (ap (drop 1) e) ∙ there));
        replies = λ k.
            same_replies 0 (replies_of s) (replies_of s')
            (sym (question_words s) ∙ ap (drop s.n) (ap (drop 1) e) ∙ rw as_many (question_words s'));
      }
  same_words (Outcome.Clash i j) (Outcome.Clash i' j') e =
      record {
        kind = refl;
        first = numeral_injective i.0 i'.0 (cc e);
        second = numeral_injective j.0 j'.0 (cc e);
        variables = λ k. absurd (omega arith);
        labels = λ k. absurd (omega arith);
        replies = λ k. absurd (omega arith);
      }
  same_words (Outcome.Refused fault at) (Outcome.Refused fault' at') e =
      record {
        kind = refl;
        first = numeral_injective (number_of fault) (number_of fault') (cc e);
        second = numeral_injective at at' (cc e);
        variables = λ k. absurd (omega arith);
        labels = λ k. absurd (omega arith);
        replies = λ k. absurd (omega arith);
      }
  same_words (Outcome.Consistent c d) (Outcome.Clash i j) e = absurd (cc e)
  same_words (Outcome.Consistent c d) (Outcome.Refused fault at) e = absurd (cc e)
  same_words (Outcome.Clash i j) (Outcome.Consistent c d) e = absurd (cc e)
  same_words (Outcome.Clash i j) (Outcome.Refused fault at) e = absurd (cc e)
  same_words (Outcome.Refused fault at) (Outcome.Consistent c d) e = absurd (cc e)
  same_words (Outcome.Refused fault at) (Outcome.Clash i j) e = absurd (cc e)

  -- and these by the text
  pub same_text : (o o' : Outcome) → concat (lines_of s.n o (root_label s) (replies_of s))
      ≡ concat (lines_of s'.n o' (root_label s') (replies_of s')) → Alike s s' o o'
  same_text o o' e =
      let same = sym (ap concat (made_of s o)) ∙ e ∙ ap concat (made_of s' o') in
      same_words o o' (same_lines (words_of s o) (words_of s' o') (all_fit s o) (all_fit s' o') same)
