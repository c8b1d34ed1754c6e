-- Derivation: stated pairs are inserted, the queue is run, and the table is the derived one.
use Prim.Native.Nat.{ℕ, ◌*◌, ◌≤◌}
use lib.ListN.{length, replicate}
use mathlib.Core.Bool.{true}
use mathlib.Core.List.{List, []}
use mathlib.Core.Logic.{inl, ⊎_elim}
use mathlib.Core.Path.{◌≡◌, refl, sym, ap, subst, ◌∙◌}
use native.Mathlib.Nat.{mul-le-mul}
use native.Mathlib.Omega.{arith}
use Rattle.fields.specs.Limits.{most_variables}
use Rattle.fields.specs.Tests.{less, same}
use Rattle.rules.specs.Connectives.{◌or◌}
use Rattle.rules.specs.declared.kinds.Kind.{Kind}
use Rattle.rules.specs.Facts.{Holds}
use Rattle.rules.specs.Tables.{says, facts}
use Rattle.rules.specs.Derived.{facts_of}
use Rattle.rules.proofs.Tables.{fact_column, zeros_shape, zeros_empty}
use Rattle.table.specs.declared.queue.Entry.{Entry}
use Rattle.table.specs.Queue.{State, state, Ready}
use Rattle.table.proofs.Entries.{wider}
use Rattle.facts.specs.declared.growth.Growth.{Growth}
use Rattle.facts.specs.Growth.{with_table}
use Rattle.facts.specs.Additions.{Said, Among, Added, Framed, Steps}
use Rattle.facts.proofs.Moving.{moves_then, ready_after}
use Rattle.selections.specs.declared.grouped.Groups.{Groups}
use Rattle.selections.specs.Groups.{Grouped}
use Rattle.derivation.specs.declared.pairs.Pair.{Pair}
use Rattle.derivation.specs.Settled.{Starting, Settled}
use Rattle.derivation.specs.Stands.{SaidBy, Paired, DerivedFrom, InsertingPairs, Deriving}
use Rattle.derivation.proofs.Equal.{derived_framed, derived_stated, derived_descends, settled_derived}

-- 3 says both
says_both : (kind : Kind) → says kind 3 ≡ true
unfolding says same less ◌or◌
says_both Kind.Ordered = refl
says_both Kind.Compatible = refl

-- one stated pair, with its variables as they were read
pub pair_steps : {n m : ℕ} {s s' : State} (pair : Pair) (a b : ℕ) → m ≡ n → a ≡ pair.left.0 → b ≡ pair.right.0
    → Steps m (Said pair.kinds.0 a b) s s' → Steps n (SaidBy pair) s s'
pair_steps pair a b same left right steps = rw (← same, ← left, ← right) steps

-- a table of no facts, and a queue without entries
module _ (n : ℕ) (t₀ t : List ℕ) (queue : List Entry) (square : length t₀ ≡ n * n)
    (cleared : t ≡ replicate (length t₀) 0) (empty : queue ≡ []) where
  no_facts : (kind : Kind) (i j : ℕ) → Holds (facts n t) kind i j → ⊥
  no_facts kind i j p = zeros_empty n kind i j (rw (cleared, square) at p)

  none_ready : n ≤ most_variables → Ready n (state t queue)
  none_ready few =
      rw empty (record {
        few = few;
        shape = rw (cleared, square) (zeros_shape n);
        room = omega (arith, mul-le-mul few few);
        entries = λ k h. absurd (omega arith);
      })

  -- the facts of each variable and itself, and no other
  module _ {s₁ : State} (added : Added n (Among 0 n (λ i. Said 3 i i)) (state t queue) s₁) where
    self : (kind : Kind) (i j : ℕ) → Holds (facts n s₁.table) kind i j → i ≡ j
    self kind i j p =
        ⊎_elim (λ q. absurd (no_facts kind i j q)) (λ a. a.holds.first ∙ sym a.holds.second)
        (added.only kind i j p)

    self_framed : Framed n (facts n s₁.table)
    self_framed =
        record {
          reflexive = λ kind i h.
              added.given kind i i
              (record {
                at = i;
                behind = omega arith;
                ahead = h;
                holds = record { first = refl; second = refl; told = says_both kind };
              });
          through = λ kind i j k p q. rw (self Kind.Ordered i j p) q;
          symmetric = λ i j p. rw (self Kind.Compatible i j p) (rw (self Kind.Compatible i j p) at p);
        }

    -- from no facts to all
    module _ {pairs : List Pair} {groups : Groups} (lawful : Deriving n pairs groups) where
      pairs_next : InsertingPairs n s₁ pairs
      pairs_next =
          record {
            ready = ready_after (none_ready lawful.few) added.moves;
            framed = self_framed;
            lawful = lawful.lawful_pairs;
          }

      module _ {s₂ : State} (steps : Steps n (Paired pairs) s₁ s₂) where
        run_next : Starting n s₂ groups
        run_next =
            let moves = moves_then added.moves steps.moves in
            record {
              running =
                  record {
                    ready = ready_after (none_ready lawful.few) moves;
                    framed = steps.framed;
                    lawful = lawful.lawful_groups;
                  };
              pending = λ kind i j p.
                  ⊎_elim (λ q. absurd (no_facts kind i j q)) (λ q. inl (wider (omega arith) (omega arith) q))
                  (moves.queued kind i j p);
            }

        derived_all : {s₃ : State} → Settled n (Grouped groups) s₂ s₃
            → DerivedFrom n pairs groups s₃.table
        derived_all {s₃} settled =
            record {
              shape = settled.moves.shape;
              framed = settled.framed;
              descends = settled.descends;
              table = λ st names listed stand.
                  settled_derived n st names stand s₃.table settled.moves.shape settled.framed settled.descends
                  (λ kind i j p.
                  settled.moves.grows kind i j (steps.given kind i j (listed.listed kind i j p)))
                  (settled.within (facts_of st n) (derived_framed n st names) (derived_descends n st names stand)
                  (steps.within (facts_of st n) (derived_framed n st names)
                  (λ kind i j p.
                  rw (self kind i j p)
                  ((derived_framed n st names).reflexive kind j (fact_column n s₁.table kind i j p)))
                  (λ kind i j p. derived_stated n st names kind i j (listed.stated kind i j p))));
            }

-- the same, where each step tells its own number of variables
module _ (old : Growth) {growth : Growth} {queue : List Entry} {pairs : List Pair} {groups : Groups}
    (square : length old.cells.now ≡ old.n * old.n)
    (clear : growth ≡ with_table old (replicate (length old.cells.now) 0)) (empty : queue ≡ [])
    (lawful : Deriving old.n pairs groups) where
  cleared : growth.cells.now ≡ replicate (length old.cells.now) 0
  cleared = ap (λ g. g.cells.now) clear

  size : growth.n ≡ old.n
  size = ap (λ g. g.n) clear

  pub may_start : Ready growth.n (state growth.cells.now queue)
  may_start =
      subst (λ z. Ready z (state growth.cells.now queue)) (sym size)
      (none_ready old.n old.cells.now growth.cells.now queue square cleared empty lawful.few)

  module _ {m : ℕ} {s₁ : State}
      (added : Added growth.n (Among 0 growth.n (λ i. Said 3 i i)) (state growth.cells.now queue) s₁) (same : m ≡ growth.n) where
    reflexive : Added old.n (Among 0 old.n (λ i. Said 3 i i)) (state growth.cells.now queue) s₁
    reflexive = subst (λ z. Added z (Among 0 z (λ i. Said 3 i i)) (state growth.cells.now queue) s₁) size added

    pub may_insert : InsertingPairs m s₁ pairs
    may_insert =
        subst (λ z. InsertingPairs z s₁ pairs) (sym (same ∙ size))
        (pairs_next old.n old.cells.now growth.cells.now queue square cleared empty reflexive lawful)

    module _ {k : ℕ} {s₂ : State} (inserted : Steps m (Paired pairs) s₁ s₂) (same' : k ≡ m) where
      steps : Steps old.n (Paired pairs) s₁ s₂
      steps = subst (λ z. Steps z (Paired pairs) s₁ s₂) (same ∙ size) inserted

      pub may_run : Starting k s₂ groups
      may_run =
          subst (λ z. Starting z s₂ groups) (sym (same' ∙ (same ∙ size)))
          (run_next old.n old.cells.now growth.cells.now queue square cleared empty reflexive lawful steps)

      pub is_derived : {s₃ : State} → Settled k (Grouped groups) s₂ s₃ → DerivedFrom old.n pairs groups s₃.table
      is_derived {s₃ = s₃} settled =
          derived_all old.n old.cells.now growth.cells.now queue square cleared empty reflexive lawful steps
          (subst (λ z. Settled z (Grouped groups) s₂ s₃) (same' ∙ (same ∙ size)) settled)
