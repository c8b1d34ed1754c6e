-- Lines of words: which they are can be told from the text that they make.
use Prim.Native.Nat.{ℕ, ◌<◌}
use lib.ListN.{length, drop}
use mathlib.Core.List.{List, [], ◌∷◌, ◌++◌, map}
use mathlib.Core.Logic.{◌≢◌}
use mathlib.Core.Path.{◌≡◌, refl, sym, ap, ap₂, ◌∙◌}
use native.Mathlib.Omega.{arith}
use Rattle.std.specs.List.{All, AllByRecursion, concat}
use Rattle.std.proofs.lemmas.List.{append_assoc, length-append}
use Rattle.std.proofs.lemmas.List.Elements.{All-head, All-tail, All-from_recursion}
use Rattle.numerals.proofs.Parts.{same_parts}
use Rattle.lines.specs.Lines.{line}

-- a byte that can be in a word: no space and no newline
abbrev pub InWord : ℕ → Type 0
InWord b = (b ≢ 32) × (b ≢ 10)

-- a word, of any length
abbrev pub IsWord : List ℕ → Type 0
IsWord = AllByRecursion InWord

-- one word or more
abbrev pub Words : List (List ℕ) → Type 0
Words [] = ⊥
Words (w ∷ ws) = IsWord w × AllByRecursion IsWord ws

-- what stands between words, and behind the last
no_space : ¬ (InWord 32)
no_space h = h.0 refl

no_newline : ¬ (InWord 10)
no_newline h = h.1 refl

-- behind equal words the texts go on the same, from a byte that can be in no word
parts : (w v x y : List ℕ) (c d : ℕ) (s t : List ℕ) → ¬ (InWord c) → ¬ (InWord d) → IsWord w → IsWord v
    → (w ++ c ∷ s) ++ x ≡ (v ++ d ∷ t) ++ y → (w ≡ v) × (c ∷ (s ++ x) ≡ d ∷ (t ++ y))
parts w v x y c d s t other other' fit fit' e =
    same_parts InWord c d (s ++ x) (t ++ y) other other' w v (All-from_recursion InWord w fit)
    (All-from_recursion InWord v fit') (sym (append_assoc w (c ∷ s) x) ∙ e ∙ append_assoc v (d ∷ t) y)

-- where a line ends it does not go on
apart : (x y : List ℕ) → ¬ (10 ∷ x ≡ 32 ∷ y)
apart x y e = cc

-- equal texts that begin with a line begin with the same words, and go on the same
pub same_line : (ws vs : List (List ℕ)) (x y : List ℕ) → Words ws → Words vs → line ws ++ x ≡ line vs ++ y
    → (ws ≡ vs) × (x ≡ y)
same_line [] vs x y fit fit' e = absurd fit
same_line (w ∷ ws) [] x y fit fit' e = absurd fit'
same_line (w ∷ []) (v ∷ []) x y fit fit' e =
    let same = parts w v x y 10 10 [] [] no_newline no_newline fit.0 fit'.0 e in
    (ap (λ v. v ∷ []) same.0, ap (drop 1) same.1)
same_line (w ∷ []) (v ∷ (v' ∷ vs)) x y fit fit' e =
    absurd (apart _ _ (parts w v x y 10 32 [] (line (v' ∷ vs)) no_newline no_space fit.0 fit'.0 e).1)
same_line (w ∷ (w' ∷ ws)) (v ∷ []) x y fit fit' e =
    absurd (apart _ _ (sym (parts w v x y 32 10 (line (w' ∷ ws)) [] no_space no_newline fit.0 fit'.0 e).1))
same_line (w ∷ (w' ∷ ws)) (v ∷ (v' ∷ vs)) x y fit fit' e =
    let same = parts w v x y 32 32 (line (w' ∷ ws)) (line (v' ∷ vs)) no_space no_space fit.0 fit'.0 e in
    let rest = same_line (w' ∷ ws) (v' ∷ vs) x y fit.1 fit'.1 (ap (drop 1) same.1) in
    (ap₂ ◌∷◌ same.0 rest.0, rest.1)

-- no line is empty
some_bytes : (ws : List (List ℕ)) → 0 < length (line ws)
some_bytes [] = omega arith
some_bytes (w ∷ []) = omega (arith, length-append w (10 ∷ []))
some_bytes (w ∷ (v ∷ ws)) = omega (arith, length-append w (32 ∷ line (v ∷ ws)))

-- equal texts of lines have the same words in the same lines
pub same_lines : (xss yss : List (List (List ℕ))) → All Words xss → All Words yss
    → concat (map line xss) ≡ concat (map line yss) → xss ≡ yss
same_lines [] [] all all' e = refl
same_lines [] (vs ∷ yss) all all' e =
    absurd (omega (arith, some_bytes vs, length-append (line vs) (concat (map line yss)), ap length e))
same_lines (ws ∷ xss) [] all all' e =
    absurd (omega (arith, some_bytes ws, length-append (line ws) (concat (map line xss)), ap length e))
same_lines (ws ∷ xss) (vs ∷ yss) all all' e =
    let same = same_line ws vs (concat (map line xss)) (concat (map line yss)) (All-head Words ws xss all)
    (All-head Words vs yss all') e in
    ap₂ ◌∷◌ same.0 (same_lines xss yss (All-tail Words ws xss all) (All-tail Words vs yss all') same.1)
