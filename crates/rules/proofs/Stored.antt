-- What stands at a place of a list after one store.
use Prim.Native.Nat.{ℕ, ◌<◌}
use lib.ListN.{length, get_or, set}
use lib.Seq.{get_or-set_same, get_or-set_other}
use mathlib.Core.List.{List}
use mathlib.Core.Logic.{⊎_elim}
use mathlib.Core.Path.{◌≡◌}
use Rattle.std.proofs.lemmas.Bool.{cases_eq}

pub stored : {A C : Type 0} (l : List A) (i : ℕ) (v : A) (x : ℕ) (d : A) → i < length l
    → (x ≡ i → get_or (set l i v) x d ≡ v → C) → ((x ≡ i → ⊥) → get_or (set l i v) x d ≡ get_or l x d → C) → C
stored l i v x d h here elsewhere =
    ⊎_elim (λ e. here e (rw e (get_or-set_same l i v d h))) (λ e. elsewhere e (get_or-set_other l i x v d e))
    (cases_eq x i)
