-- Laws of `Steps`: nothing new, one set after another, and sets along a loop.
use Prim.Native.Nat.{ℕ, ◌+◌, ◌<◌, ◌≤◌}
use mathlib.Core.Logic.{⊎_elim}
use native.Mathlib.Omega.{arith}
use Rattle.std.proofs.lemmas.Bool.{cases_lt}
use Rattle.rules.specs.declared.kinds.Kind.{Kind}
use Rattle.rules.specs.Facts.{Holds}
use Rattle.rules.specs.Tables.{facts, Shape}
use Rattle.table.specs.Queue.{State}
use Rattle.facts.specs.Additions.{Facts, Either, one, other, Among, Framed, Steps}
use Rattle.facts.proofs.Sets.{either_set, among_none, among_to, among_from, among_upto}
use Rattle.facts.proofs.Moving.{moves_none, moves_then}

-- all of it is there
pub steps_already : {n : ℕ} (P : Facts) (s : State) → Shape n s.table → Framed n (facts n s.table)
    → ((kind : Kind) (i j : ℕ) → P kind i j → Holds (facts n s.table) kind i j) → Steps n P s s
steps_already P s shape framed there =
    record {
      moves = moves_none s shape;
      framed = framed;
      given = there;
      within = λ r closed old new kind i j p. old kind i j p;
    }

-- one set, then another
pub steps_then : {n : ℕ} {P Q : Facts} {s s' s'' : State} → Steps n P s s' → Steps n Q s' s'' → Steps n (Either P Q) s s''
steps_then first second =
    record {
      moves = moves_then first.moves second.moves;
      framed = second.framed;
      given = λ kind i j p.
          either_set (λ q. second.moves.grows kind i j (first.given kind i j q)) (second.given kind i j) p;
      within = λ r closed old new.
          second.within r closed
          (first.within r closed old (λ kind i j p. new kind i j (one p)))
          (λ kind i j p. new kind i j (other p));
    }

-- the same facts under another name
pub steps_as : {n : ℕ} {P : Facts} (Q : Facts) {s s' : State} → ((kind : Kind) (i j : ℕ) → P kind i j → Q kind i j)
    → ((kind : Kind) (i j : ℕ) → Q kind i j → P kind i j) → Steps n P s s' → Steps n Q s s'
steps_as Q to back steps =
    record {
      moves = steps.moves;
      framed = steps.framed;
      given = λ kind i j q. steps.given kind i j (back kind i j q);
      within = λ r closed old new. steps.within r closed old (λ kind i j p. new kind i j (to kind i j p));
    }

-- sets along a loop, from one place on
pub steps_start : {n : ℕ} (P : ℕ → Facts) (from : ℕ) (s : State) → Shape n s.table → Framed n (facts n s.table)
    → Steps n (Among from from P) s s
steps_start P from s shape framed = steps_already (Among from from P) s shape framed λ kind i j p. absurd (among_none p)

pub steps_next : {n : ℕ} (P : ℕ → Facts) (from k : ℕ) {s s' s'' : State} → from ≤ k → Steps n (Among from k P) s s'
    → Steps n (P k) s' s'' → Steps n (Among from (k + 1) P) s s''
steps_next P from k h before here =
    steps_as (Among from (k + 1) P) (λ kind i j p. among_from P h p) (λ kind i j p. among_to P p)
    (steps_then before here)

pub steps_end : {n : ℕ} (P : ℕ → Facts) (from k upto : ℕ) {s s' : State} → k ≤ upto → upto ≤ k
    → Steps n (Among from k P) s s' → Steps n (Among from upto P) s s'
steps_end P from k upto h g steps =
    steps_as (Among from upto P) (λ kind i j p. among_upto P h p) (λ kind i j p. among_upto P g p) steps

-- a loop is at one place between two others
pub record Along (from at upto : ℕ) : Type 0 where
  pub behind : from ≤ at
  pub inside : (k : ℕ) → from ≤ k → k < at → k < upto

pub along_start : (from upto : ℕ) → Along from from upto
along_start from upto = record { behind = omega arith; inside = λ k h g. absurd (omega arith) }

pub along_next : {from at upto : ℕ} → Along from at upto → at < upto → Along from (at + 1) upto
along_next along h = record { behind = omega (arith, along.behind); inside = λ k a b. omega arith }

pub steps_along : {n : ℕ} (P : ℕ → Facts) {from at upto : ℕ} {s s' : State} → Along from at upto → upto ≤ at
    → Steps n (Among from at P) s s' → Steps n (Among from upto P) s s'
steps_along P {from} {at} {upto} along h steps =
    steps_as (Among from upto P)
    (λ kind i j p.
    record {
      at = p.at;
      behind = p.behind;
      ahead = along.inside p.at p.behind p.ahead;
      holds = p.holds;
    })
    (λ kind i j p. among_upto P h p) steps

-- places whose facts are there already may be passed
pub along_pass : {from at upto : ℕ} (next : ℕ) → Along from at upto → at ≤ next
    → ((k : ℕ) → at ≤ k → k < next → k < upto) → Along from next upto
along_pass {from} {at} next along h inside =
    record {
      behind = omega (arith, along.behind);
      inside = λ k a b.
          ⊎_elim (along.inside k a) (λ p. inside k p b) (cases_lt k at);
    }

pub steps_pass : {n : ℕ} (P : ℕ → Facts) {from at : ℕ} (next : ℕ) {s s' : State} → at ≤ next
    → ((k : ℕ) → at ≤ k → k < next → (kind : Kind) (i j : ℕ) → P k kind i j → Holds (facts n s'.table) kind i j)
    → Steps n (Among from at P) s s' → Steps n (Among from next P) s s'
steps_pass P {from} {at} next h there steps =
    record {
      moves = steps.moves;
      framed = steps.framed;
      given = λ kind i j p.
          ⊎_elim
          (λ e. steps.given kind i j (record { at = p.at; behind = p.behind; ahead = e; holds = p.holds }))
          (λ e. there p.at e p.ahead kind i j p.holds) (cases_lt p.at at);
      within = λ r closed old new. steps.within r closed old (λ kind i j p. new kind i j (among_upto P h p));
    }
