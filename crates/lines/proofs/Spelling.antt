-- Numbers, labels and replies as words, from which they can be told.
use Rattle.std.specs.Prelude.{codes}
use Rattle.std.specs.List.{All}
use Rattle.std.proofs.Common.{rules}
use Rattle.std.proofs.lemmas.List.Elements.{All-head, All-weaker, recursion_from_All}
use Prim.Native.Nat.{ℕ, ◌-◌}
use lib.ListN.{length}
use mathlib.Core.List.{[]}
use mathlib.Core.Option.{Option, some, none}
use mathlib.Core.Path.{◌≡◌, refl, sym, ap, subst, ◌∙◌}
use native.Mathlib.Omega.{arith}
use Rattle.numerals.specs.Numerals.{IsDigit, numeral}
use Rattle.numerals.proofs.Theorems.{numeral_digits, numeral_injective}
use Rattle.rules.specs.declared.replies.Reply.{Reply}
use Rattle.lines.specs.Printouts.{reply_told}
use Rattle.lines.specs.Lines.{label_word, reply_word}
use Rattle.lines.proofs.Words.{InWord, IsWord}

-- a numeral is a word,
pub number_fits : (n : ℕ) → IsWord (numeral n)
number_fits n =
    recursion_from_All InWord (numeral n)
    (All-weaker IsDigit InWord (λ b d. (omega arith, omega arith)) (numeral n) (numeral_digits n))

-- and no dash
dash_no_numeral : (n : ℕ) → ¬ (numeral n ≡ codes "-")
dash_no_numeral n e = let h = All-head IsDigit 45 [] (subst (All IsDigit) e (numeral_digits n)) in omega arith

-- what stands for a label is a word,
pub label_fits : (a : Option ℕ) → IsWord (label_word a)
label_fits (some a) = number_fits a
label_fits none = search rules

-- another one for each
pub same_label : (a b : Option ℕ) → label_word a ≡ label_word b → a ≡ b
same_label (some a) (some b) e = ap some (numeral_injective a b e)
same_label (some a) none e = absurd (dash_no_numeral a e)
same_label none (some b) e = absurd (dash_no_numeral b (sym e))
same_label none none e = refl

-- what stands for a reply is a word,
pub reply_fits : (r : Reply) → IsWord (reply_word r)
reply_fits Reply.Always = search rules
reply_fits Reply.Never = search rules
reply_fits Reply.Open = search rules

-- and its length says which reply: 6, 5 or 4
by_length : (r : Reply) → reply_told (6 - length (reply_word r)) ≡ r
by_length Reply.Always = refl
by_length Reply.Never = refl
by_length Reply.Open = refl

pub same_reply : (r t : Reply) → reply_word r ≡ reply_word t → r ≡ t
same_reply r t e = sym (by_length r) ∙ ap (λ w. reply_told (6 - length w)) e ∙ by_length t
