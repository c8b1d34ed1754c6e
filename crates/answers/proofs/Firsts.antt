-- The first answer of a search among the numbers below n, told by what holds of each number and its answer.
use Prim.Native.Nat.{ℕ, zero, suc, ◌+◌, ◌<◌, ◌≤◌}
use denote.Param.Members.{Mut}
use mathlib.Core.Bool.{true}
use mathlib.Core.List.{List, [], ◌∷◌}
use mathlib.Core.Path.{◌≡◌, sym, subst, ◌∙◌}
use native.Mathlib.Omega.{arith}
use Rattle.std.specs.Prelude.{Option, None, Some, MatchOption, IfSome}
use Rattle.std.specs.Fn.{Called}
use Rattle.std.specs.Iterator.{AlwaysYields, Yields, Drains, FindsMapped}
use Rattle.std.specs.Iterator.Runs.{SomeRun, YieldsRun, AllItemsGive, IsFirstToGive}
use Rattle.std.specs.List.{FoldsTo, range_with_len, slice_get}
use Rattle.std.proofs.lemmas.Iterator.{YieldsList}
use Rattle.rules.proofs.Logic.{last_or_before}

-- no answer at a number
abbrev Misses : {F C : Type 0} → Mut F (ℕ × Unit {0}) (Option C) → F → ℕ → F → Type 0
Misses g p x q = Called g p (x, tt) None q

module _ {C F S : Type 0} (steps : S → Option ℕ → S → Type 0) (g : Mut F (ℕ × Unit {0}) (Option C)) (f : F)
    (Told : ℕ → Option C → Type 0)
    (tells : (x : ℕ) (b : Option C) (q : F) → Called g f (x, tt) b q → (q ≡ f) × Told x b) where
  -- an answer, and none before it
  stops : (y : C) (left a : ℕ) (xs : List ℕ) (s t u : S) (j : F) (o : Option ℕ)
      → AlwaysYields steps (λ x. x) s (range_with_len a left) → Yields steps s xs t → FoldsTo (Misses g) f xs j → steps t o u
      → MatchOption o (Some y ≡ None) (λ x. (h : F) × Called g j (x, tt) (Some y) h)
      → (x : ℕ) × (a ≤ x) × (x < a + left) × Told x (Some y) × ((z : ℕ) → a ≤ z → z < x → Told z None)
  stops y left a xs s t u j None e k c p m = absurd (cc)
  stops y zero a [] s t u j (Some x) e k c p m = absurd (e x u (subst (λ w. steps w (Some x) u) (sym k) p))
  stops y zero a (w ∷ xs) s t u j (Some x) e k c p m = absurd (e w k.0 k.1)
  stops y (suc left) a [] s t u j (Some x) e k c p m =
      let here = (e.1 x u (subst (λ w. steps w (Some x) u) (sym k) p)).0 in
      let told = (tells x (Some y) m.0 (subst (λ q. Called g q (x, tt) (Some y) m.0) (sym c) m.1)).1 in
      (a, omega arith, omega arith, subst (λ w. Told w (Some y)) here told, λ z h b. absurd (omega arith))
  stops y (suc left) a (w ∷ xs) s t u j (Some x) e k c p m =
      let next = e.1 w k.0 k.1 in
      let miss = tells w None c.0 c.1 in
      let rest =
      stops y left (a + 1) xs k.0 t u j (Some x) next.1 k.2 (subst (λ q. FoldsTo (Misses g) q xs j) miss.0 c.2) p m in (
        rest.0,
        omega (arith, rest.1),
        omega (arith, rest.2),
        rest.3,
        λ z h b. last_or_before a z (omega arith) (λ q. subst (λ n. Told n None) (next.0 ∙ q) miss.1)
            (λ l. rest.4 z (omega arith) b),
      )

  -- no answer at all
  nowhere : (left a : ℕ) (xs : List ℕ) (s : S) → AlwaysYields steps (λ x. x) s (range_with_len a left)
      → Drains steps s xs → ((k : ℕ) → IfSome (slice_get xs k) (λ x. Misses g f x f))
      → (z : ℕ) → a ≤ z → z < a + left → Told z None
  nowhere zero a xs s e d all z h b = absurd (omega arith)
  nowhere (suc left) a [] s e d all z h b =
      absurd (e.0 d.0 (subst (λ w. steps w None d.0) (sym d.1.1) d.1.2))
  nowhere (suc left) a (w ∷ xs) s e d all z h b =
      let k = d.1.1 in
      let next = e.1 w k.0 k.1 in
      last_or_before a z (omega arith)
      (λ q. subst (λ n. Told n None) (next.0 ∙ q) (tells w None f (all 0)).1)
      (λ l. nowhere left (a + 1) xs k.0 next.1 (d.0, (d.1.0, k.2, d.1.2)) (λ i. all (suc i)) z (omega arith) (omega arith))

  pub first_told : {s u : S} (n : ℕ) (r : Option C) → YieldsList steps (λ x. x) s (range_with_len 0 n)
      → FindsMapped steps g s f r u
      → SomeRun steps s (λ p. MatchOption r ((p.whole ≡ true) × AllItemsGive p g f None)
      (λ y. (i : ℕ) × (i < p.len) × (p.len ≡ i + 1) × IsFirstToGive p g f (Some y) None i))
      → MatchOption r ((x : ℕ) → x < n → Told x None)
      (λ y. (x : ℕ) × (x < n) × Told x (Some y) × ((z : ℕ) → z < x → Told z None))
  unfolding YieldsRun
  first_told {s} n None road ran runs =
      let p = runs.0 in
      let gave = p.gave.0 in
      let end = gave.2 runs.2.0 in
      let misses = runs.2.1 (λ a r q k. (tells a.0 r q k).0) in
      λ x h. nowhere n 0 p.items s road.runs
      (subst (λ w. Drains steps w p.items) runs.1 (end.0, (gave.0, gave.1, end.1)))
      (λ k. subst (λ o. IfSome o (λ x. Misses g f x f)) (p.gave.1 k) (misses k)) x (omega arith) (omega arith)
  first_told {s} {u} n (Some y) road ran runs =
      let first =
      stops y n 0 ran.0 s ran.3.0 u ran.2 ran.1 road.runs ran.3.1 ran.4 ran.3.2 ran.5 in
      (first.0, omega (arith, first.2), first.3, λ z h. first.4 z (omega arith) h)
