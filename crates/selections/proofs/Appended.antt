-- Lists end to end: where an entry stands; the entries of statements in turn.
use Prim.Native.Nat.{ℕ, ◌+◌, ◌-◌, ◌<◌}
use lib.ListN.{length, get_or, length-append, get_or-append}
use lib.Seq.{get_or-append-add}
use mathlib.Core.List.{List, [], ◌∷◌, ◌++◌}
use mathlib.Core.Logic.{⊎_elim}
use mathlib.Core.Path.{◌≡◌}
use native.Mathlib.Omega.{arith}
use Rattle.std.proofs.lemmas.Bool.{cases_lt}
use Rattle.items.specs.declared.items.Statement.{Statement}

-- a list made of the entries of each statement
abbrev pub entries_of : {A : Type 0} → (Statement → List A) → List Statement → List A
entries_of entries [] = []
entries_of entries (q ∷ st) = entries q ++ entries_of entries st

-- a place of two lists is one of the first or one of the second
place_in : {A C : Type 0} (xs ys : List A) (k : ℕ) → k < length (xs ++ ys) → (k < length xs → C)
    → ((m : ℕ) → m < length ys → k ≡ length xs + m → C) → C
place_in xs ys k h first second =
    let size = length-append xs ys in
    ⊎_elim first (λ past. second (k - length xs) (omega arith) (omega arith)) (cases_lt k (length xs))

-- a bound of a number of all entries
pub below_both : {A : Type 0} {b : ℕ} (number : A → ℕ) (d : A) (xs ys : List A)
    → ((k : ℕ) → k < length xs → number (get_or xs k d) < b) → ((k : ℕ) → k < length ys → number (get_or ys k d) < b)
    → (k : ℕ) → k < length (xs ++ ys) → number (get_or (xs ++ ys) k d) < b
below_both number d xs ys first second k h =
    place_in xs ys k h (λ l. rw (get_or-append xs ys d k l) (first k l))
    (λ m l q. rw (q, get_or-append-add xs ys m d) (second m l))

-- an entry of two lists that has a property is one of the first or one of the second
pub at_either : {A : Type 0} (P : A → Type 0) (d : A) (xs ys : List A) {C : Type 0} (k : ℕ) → k < length (xs ++ ys)
    → P (get_or (xs ++ ys) k d) → ((m : ℕ) → m < length xs → P (get_or xs m d) → C)
    → ((m : ℕ) → m < length ys → P (get_or ys m d) → C) → C
at_either P d xs ys k h p first second =
    place_in xs ys k h
    (λ l. first k l (rw (get_or-append xs ys d k l) at p))
    (λ m l q. second m l (rw (q, get_or-append-add xs ys m d) at p))
