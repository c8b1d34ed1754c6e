-- Sets of facts: by cases, and along a loop.
use Prim.Native.Nat.{ℕ, ◌+◌, ◌≤◌}
use mathlib.Core.Logic.{⊎_elim}
use mathlib.Core.Path.{◌≡◌, subst}
use native.Mathlib.Omega.{arith}
use Rattle.std.proofs.lemmas.Bool.{cases_lt}
use Rattle.rules.specs.declared.kinds.Kind.{Kind}
use Rattle.facts.specs.Additions.{Facts, Either, one, other, Among}

pub either_set : {P Q : Facts} {C : Type 0} {kind : Kind} {i j : ℕ} → (P kind i j → C) → (Q kind i j → C)
    → Either P Q kind i j → C
either_set f g (one p) = f p
either_set f g (other q) = g q

-- along a loop: none at its start, and one more with each turn
pub among_none : {P : ℕ → Facts} {from : ℕ} {kind : Kind} {i j : ℕ} → Among from from P kind i j → ⊥
among_none a = omega (arith, a.behind, a.ahead)

module _ (P : ℕ → Facts) {from k : ℕ} {kind : Kind} {i j : ℕ} where
  pub among_to : Among from (k + 1) P kind i j → Either (Among from k P) (P k) kind i j
  among_to a =
      ⊎_elim (λ p. one (record { at = a.at; behind = a.behind; ahead = p; holds = a.holds }))
      (λ p.
      let e : a.at ≡ k = omega (arith, a.ahead) in
      other (subst (λ x. P x kind i j) e a.holds)) (cases_lt a.at k)

  pub among_from : from ≤ k → Either (Among from k P) (P k) kind i j → Among from (k + 1) P kind i j
  among_from h (one a) =
      record { at = a.at; behind = a.behind; ahead = omega (arith, a.ahead); holds = a.holds }
  among_from h (other p) = record { at = k; behind = h; ahead = omega arith; holds = p }

pub among_upto : (P : ℕ → Facts) {from k upto : ℕ} {kind : Kind} {i j : ℕ} → k ≤ upto → Among from k P kind i j
    → Among from upto P kind i j
among_upto P h a = record { at = a.at; behind = a.behind; ahead = omega (arith, a.ahead); holds = a.holds }
