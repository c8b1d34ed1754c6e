-- One statement behind a list: what was stated still is, and what is stated was or is the last.
use mathlib.Core.List.Memᴰ
use mathlib.Core.List.{List, [], ◌∷◌, ◌++◌}
use mathlib.Core.Logic.{⊎_elim}
use mathlib.Core.Path.{◌≡◌, refl}
use Rattle.items.specs.declared.items.Statement.{Statement}
use Rattle.rules.specs.Stated.{Stated}

pub still : {st : List Statement} {x : Statement} (q : Statement) → Stated st x → Stated (st ++ (q ∷ [])) x
still q m = Memᴰ.append_left (q ∷ []) m

pub last_stated : (st : List Statement) (q : Statement) → Stated (st ++ (q ∷ [])) q
last_stated st q = Memᴰ.append_right st (Memᴰ.head refl)

pub stated_of : {C : Type 0} {x : Statement} (st : List Statement) (q : Statement) → Stated (st ++ (q ∷ [])) x
    → (Stated st x → C) → (x ≡ q → C) → C
stated_of st q m before last =
    ⊎_elim before (λ s. last (Memᴰ.eq_of_singleton s)) (Memᴰ.append_cases st m)
