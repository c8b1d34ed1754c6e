-- Lists of statements: what each of them has, and what names variables below n.
use Prim.Native.Nat.{ℕ, ◌<◌, ◌≤◌}
use mathlib.Core.List.Memᴰ
use mathlib.Core.List.{List, [], ◌∷◌, ◌++◌}
use mathlib.Core.Path.{refl, sym, subst}
use native.Mathlib.Omega.{arith}
use Rattle.items.specs.declared.items.Statement.{Statement}
use Rattle.items.specs.Statements.{All, Names, AllName}
use Rattle.rules.specs.declared.kinds.Kind.{Kind}
use Rattle.rules.specs.Facts.{fact}
use Rattle.rules.specs.Stated.{Stated}

-- a list has a property where each of its statements does
pub all_one : (P : Statement → Type 0) {x : Statement} (st : List Statement) → All P st → Stated st x → P x
all_one P [] h m = elim m [ ]
all_one P (y ∷ st) h (Memᴰ.head e) = subst P (sym e) h.0
all_one P (y ∷ st) h (Memᴰ.tail m) = all_one P st h.1 m

pub all_by : (P : Statement → Type 0) (st : List Statement) → ((x : Statement) → Stated st x → P x) → All P st
all_by P [] h = tt
all_by P (x ∷ st) h = (h x (Memᴰ.head refl), all_by P st (λ y m. h y (Memᴰ.tail m)))

-- another property from one, and a third from two
pub all_map : {A : Type 0} (P Q : A → Type 0) (xs : List A) → ((x : A) → P x → Q x) → All P xs → All Q xs
all_map P Q [] h p = tt
all_map P Q (x ∷ xs) h p = (h x p.0, all_map P Q xs h p.1)

pub all_from : (P Q R : Statement → Type 0) (st : List Statement) → ((x : Statement) → P x → Q x → R x)
    → All P st → All Q st → All R st
all_from P Q R st h p q = all_by R st (λ x m. h x (all_one P st p m) (all_one Q st q m))

-- two lists, one behind the other
pub all_split : {A : Type 0} (P : A → Type 0) (xs ys : List A) → All P (xs ++ ys) → All P xs × All P ys
all_split P [] ys h = (tt, h)
all_split P (x ∷ xs) ys h = let rest = all_split P xs ys h.1 in ((h.0, rest.0), rest.1)

-- one statement more, behind the list
pub all_with : (P : Statement → Type 0) (st : List Statement) (q : Statement) → All P st → P q → All P (st ++ (q ∷ []))
all_with P [] q h p = (p, tt)
all_with P (x ∷ st) q h p = (h.0, all_with P st q h.1 p)

pub all_without : (P : Statement → Type 0) (st : List Statement) (q : Statement) → All P (st ++ (q ∷ []))
    → All P st × P q
all_without P st q h = let parts = all_split P st (q ∷ []) h in (parts.0, parts.1.0)

-- a statement of a list that names variables below n does so
pub named : (n : ℕ) {x : Statement} (st : List Statement) → AllName n st → Stated st x → Names n x
named n st fit m = all_one (Names n) st fit m

pub named_fact : (n : ℕ) (st : List Statement) → AllName n st → (kind : Kind) (i j : ℕ) → Stated st (fact kind i j)
    → (i < n) × (j < n)
named_fact n st fit Kind.Ordered i j m = named n st fit m
named_fact n st fit Kind.Compatible i j m = named n st fit m

-- below n is below any larger number
pub names_more : {n n' : ℕ} → n ≤ n' → (q : Statement) → Names n q → Names n' q
names_more h (Statement.Ordering i j) p = (omega (arith, p.0), omega (arith, p.1))
names_more h (Statement.Compatibility i j) p = (omega (arith, p.0), omega (arith, p.1))
names_more h (Statement.Selection i f j) p = (omega (arith, p.0), omega (arith, p.1))
names_more h (Statement.Labelling i a) p = omega (arith, p)

pub all_name_more : {n n' : ℕ} → n ≤ n' → (st : List Statement) → AllName n st → AllName n' st
all_name_more {n} {n'} h st fit = all_map (Names n) (Names n') st (names_more h) fit
