-- Descent, place by place: what each step asks, and what it hands down.
use Prim.Native.Nat.{ℕ, ◌+◌, ◌<◌, ◌≤◌}
use mathlib.Core.Bool.{true, false}
use mathlib.Core.List.{List}
use mathlib.Core.Logic.{⊎_elim}
use mathlib.Core.Path.{◌≡◌, refl, sym, ap, subst, ◌∙◌}
use native.Mathlib.Omega.{arith}
use Rattle.std.specs.Prelude.{Option, Some, None, MatchOption}
use Rattle.std.specs.Bool.{⊤}
use Rattle.std.proofs.lemmas.Bool.{both_ways, cases_lt}
use Rattle.fields.specs.Tests.{same, pick}
use Rattle.fields.proofs.Choice.{is_same, same_true}
use Rattle.rules.specs.declared.kinds.Kind.{Kind}
use Rattle.rules.specs.Facts.{Holds}
use Rattle.rules.specs.Tables.{says, cell_at, facts, Shape}
use Rattle.rules.proofs.Cells.{says_nothing}
use Rattle.rules.proofs.Logic.{decided}
use Rattle.rules.proofs.Tables.{fact_said}
use Rattle.table.specs.Cells.{is_lacking}
use Rattle.table.specs.declared.queue.Entry.{Entry}
use Rattle.table.specs.Queue.{State}
use Rattle.facts.specs.Additions.{Facts, Said, Among, Moves, Framed, Steps}
use Rattle.facts.proofs.Inserting.{has_all}
use Rattle.facts.proofs.Moving.{ready_after}
use Rattle.facts.proofs.Stepping.{steps_already, steps_as, steps_start, steps_next, Along, along_start, along_next}
use Rattle.facts.proofs.Stepping.{along_pass, steps_pass, steps_along}
use Rattle.selections.specs.declared.grouped.Groups.{Groups}
use Rattle.derivation.specs.Descent.{start_at, end_at, feature_at, variable_at}
use Rattle.derivation.specs.Descent.{Under, UnderAll, HandedDown, Running, Handing, is_new, NoneNew, FirstNew}
use Rattle.derivation.specs.Descent.{NoRowNew, NextRow, Visiting}
use Rattle.derivation.specs.Descent.{Visited}

-- a place that is not new has nothing to tell, and a new one has the feature
module _ (n : ℕ) (t : List ℕ) (groups : Groups) (w f i k : ℕ) where
  new_feature : is_new n t groups w f i k ≡ true → feature_at groups k ≡ f
  unfolding is_new pick
  new_feature p =
      decided (same (feature_at groups k) f) (λ e. same_true _ _ e) (λ e. absurd (both_ways _ (rw e refl) p))

  not_new : Shape n t → w < 4 → i < n → variable_at groups k < n → is_new n t groups w f i k ≡ false
      → (kind : Kind) (x y : ℕ) → Under groups w f i k kind x y → Holds (facts n t) kind x y
  unfolding is_new pick
  not_new shape small h g p kind x y under =
      let same_feature : same (feature_at groups k) f ≡ true = is_same _ _ under.feature in
      let none : is_lacking (cell_at n t i (variable_at groups k)) w ≡ false = rw same_feature at p in
      rw (under.told.first, under.told.second)
      (fact_said n t kind i (variable_at groups k) h g
      ∙ has_all kind _ w (shape.cells i (variable_at groups k) h g) small none under.told.told)

-- the first row with a child to tell of, as it is found
module _ (n : ℕ) (t : List ℕ) (groups : Groups) (w first last from end : ℕ) where
  pub next_row : (r : Option ℕ)
      → MatchOption r (NoRowNew n t groups w first last from end)
      (λ at. (from ≤ at) × (at < end) × ⊤ × NoRowNew n t groups w first last from at)
      → MatchOption r (NoRowNew n t groups w first last from end) (NextRow n t groups w first last from end)
  next_row None none = none
  next_row (Some at) found = record { behind = found.0; ahead = found.1; passed = found.3 }

-- w is told of i and the child at one place
told_steps : {n : ℕ} {s s' : State} (groups : Groups) (w f i k x : ℕ) → feature_at groups k ≡ f
    → x ≡ variable_at groups k → Steps n (Said w i x) s s' → Steps n (Under groups w f i k) s s'
told_steps {n} {s} {s'} groups w f i k x same e steps =
    steps_as (Under groups w f i k)
    (λ kind a b p. record { feature = same; told = subst (λ y. Said w i y kind a b) e p })
    (λ kind a b p. subst (λ y. Said w i y kind a b) (sym e) p.told)
    steps

-- a table and a queue that moved on
pub running_on : {n : ℕ} {s s' : State} {groups : Groups}
    → Running n s groups → Moves n s s' → Framed n (facts n s'.table)
    → Running n s' groups
running_on running moves framed =
    record { ready = ready_after running.ready moves; framed = framed; lawful = running.lawful }

-- places and rows that are passed have nothing to tell
module _ {n : ℕ} {s s' : State} {groups : Groups} {w u v : ℕ}
    (handing : Handing n s groups w u v) (moves : Moves n s s') (k upto : ℕ) where
  passed_told : (f : ℕ) → start_at groups v ≤ k → upto ≤ end_at groups v
      → NoneNew n s'.table groups w f u k upto → (x : ℕ) → k ≤ x → x < upto
      → (kind : Kind) (a b : ℕ) → Under groups w f u x kind a b → Holds (facts n s'.table) kind a b
  passed_told f from inside none x h g =
      not_new n s'.table groups w f u x moves.shape handing.cell handing.first
      (handing.running.lawful.below v x handing.second (omega arith) (omega arith))
      (none x h g)

  passed_rows : start_at groups u ≤ k → upto ≤ end_at groups u
      → NoRowNew n s'.table groups w (start_at groups v) (end_at groups v) k upto
      → (x : ℕ) → k ≤ x → x < upto → (kind : Kind) (a b : ℕ)
      → UnderAll groups w (feature_at groups x) (variable_at groups x) v kind a b
      → Holds (facts n s'.table) kind a b
  passed_rows from inside none x h g kind a b all =
      let lawful = handing.running.lawful in
      not_new n s'.table groups w (feature_at groups x) (variable_at groups x) all.at moves.shape
      handing.cell (lawful.below u x handing.first (omega arith) (omega arith))
      (lawful.below v all.at handing.second all.behind all.ahead)
      (none x h g all.at all.behind all.ahead) kind a b all.holds

-- an entry of the queue, whose variables were taken from it
module _ {n : ℕ} {s : State} {groups : Groups} {entry : Entry}
    (visiting : Visiting n s groups entry) (u v : ℕ)
    (first : u ≡ entry.first.0) (second : v ≡ entry.second.0) where
  below_first : u < n
  below_first = rw first visiting.pair.first

  below_second : v < n
  below_second = rw second visiting.pair.second

  -- and whose cell was looked up
  module _ (w : ℕ) (looked : w ≡ cell_at n s.table u v) where
    said_of : (kind : Kind) → says kind w ≡ true → Holds (facts n s.table) kind entry.first.0 entry.second.0
    said_of kind p =
        rw (← first, ← second) (fact_said n s.table kind u v below_first below_second ∙ ap (says kind) (sym looked)
        ∙ p)

    of_said : (kind : Kind) → Holds (facts n s.table) kind entry.first.0 entry.second.0 → says kind w ≡ true
    of_said kind p =
        ap (says kind) looked ∙ sym (fact_said n s.table kind u v below_first below_second) ∙ rw (first, second) p

    abbrev Seen : Facts
    Seen = Visited n s.table groups entry

    to_seen : (kind : Kind) (x y : ℕ) → HandedDown groups w u v kind x y → Seen kind x y
    to_seen kind x y a =
        let b = a.holds in
        let under = b.holds in
        record {
          parents = said_of kind under.told.told;
          feature = feature_at groups a.at;
          first =
              record {
                at = a.at;
                from = rw (← first) a.behind;
                ahead = rw (← first) a.ahead;
                feature = refl;
                child = sym under.told.first;
              };
          second =
              record {
                at = b.at;
                from = rw (← second) b.behind;
                ahead = rw (← second) b.ahead;
                feature = under.feature;
                child = sym under.told.second;
              };
        }

    from_seen : (kind : Kind) (x y : ℕ) → Seen kind x y → HandedDown groups w u v kind x y
    from_seen kind x y p =
        let a = p.first in
        let b = p.second in
        record {
          at = a.at;
          behind = rw first a.from;
          ahead = rw first a.ahead;
          holds =
              record {
                at = b.at;
                behind = rw second b.from;
                ahead = rw second b.ahead;
                holds =
                    record {
                      feature = b.feature ∙ sym a.feature;
                      told =
                          record {
                            first = sym a.child;
                            second = sym b.child;
                            told = of_said kind p.parents;
                          };
                    };
              };
        }

    pub visit_none : w ≡ 0 → Steps n Seen s s
    visit_none e =
        steps_already Seen s visiting.running.ready.shape visiting.running.framed λ kind x y p.
        absurd (both_ways _ (ap (says kind) e ∙ says_nothing kind) (of_said kind p.parents))

    pub visit_steps : {s' : State} → Steps n (HandedDown groups w u v) s s' → Steps n Seen s s'
    visit_steps steps = steps_as Seen to_seen from_seen steps

-- w is handed down from u and v, up to a place of the group of u
pub record HandedUpto (n : ℕ) (groups : Groups) (w u v : ℕ) (s s' : State) (at : ℕ) : Type 0 where
  pub along : Along (start_at groups u) at (end_at groups u)
  pub steps : Steps n
      (Among (start_at groups u) at
      (λ k. UnderAll groups w (feature_at groups k) (variable_at groups k) v)) s s'

module _ {n : ℕ} {s : State} {groups : Groups} {w u v : ℕ} (handing : Handing n s groups w u v) where
  pub none_handed : HandedUpto n groups w u v s s (start_at groups u)
  none_handed =
      record {
        along = along_start _ _;
        steps = steps_start _ _ s handing.running.ready.shape handing.running.framed;
      }

  module _ {s' : State} {k : ℕ} (handed : HandedUpto n groups w u v s s' k) where
    -- up to a later place, once there is nothing to tell before it
    handed_pass : (at : ℕ) → k ≤ at → at ≤ end_at groups u
        → NoRowNew n s'.table groups w (start_at groups v) (end_at groups v) k at
        → HandedUpto n groups w u v s s' at
    handed_pass at h inside none =
        record {
          along = along_pass at handed.along h (λ x a b. omega arith);
          steps =
              steps_pass (λ x. UnderAll groups w (feature_at groups x) (variable_at groups x) v) at h
              (passed_rows handing handed.steps.moves k at handed.along.behind inside none) handed.steps;
        }

    -- and one row more
    pub handed_next : {m : ℕ} {s'' : State} (at : ℕ) → m ≡ n
        → NextRow m s'.table groups w (start_at groups v) (end_at groups v) k (end_at groups u) at
        → Steps m (UnderAll groups w (feature_at groups at) (variable_at groups at) v) s' s''
        → HandedUpto n groups w u v s s'' (at + 1)
    handed_next {s'' = s''} at same found told =
        let row = subst (λ z. NextRow z s'.table groups w (start_at groups v) (end_at groups v) k (end_at groups u) at) same found in
        let row_told = UnderAll groups w (feature_at groups at) (variable_at groups at) v in
        let steps = subst (λ z. Steps z row_told s' s'') same told in
        let before = handed_pass at row.behind (omega (arith, row.ahead)) row.passed in
        record {
          along = along_next before.along row.ahead;
          steps = steps_next _ _ at before.along.behind before.steps steps;
        }

    -- no row is left
    pub handed_all : {m : ℕ} → m ≡ n
        → NoRowNew m s'.table groups w (start_at groups v) (end_at groups v) k (end_at groups u)
        → Steps n (HandedDown groups w u v) s s'
    handed_all same passed =
        let none = subst (λ z. NoRowNew z s'.table groups w (start_at groups v) (end_at groups v) k (end_at groups u)) same passed in
        ⊎_elim (λ h. (handed_pass (end_at groups u) (omega arith) (omega arith) none).steps)
        (λ p.
        steps_along (λ x. UnderAll groups w (feature_at groups x) (variable_at groups x) v) handed.along p handed.steps)
        (cases_lt k (end_at groups u))

-- w is told of i and the children of v at f, up to a place
pub record ToldUpto (n : ℕ) (groups : Groups) (w f i v : ℕ) (s s' : State) (at : ℕ) : Type 0 where
  pub along : Along (start_at groups v) at (end_at groups v)
  pub steps : Steps n (Among (start_at groups v) at (Under groups w f i)) s s'

module _ {n : ℕ} {s : State} {groups : Groups} {w i v : ℕ} (handing : Handing n s groups w i v) (f : ℕ) where
  pub none_told : ToldUpto n groups w f i v s s (start_at groups v)
  none_told =
      record {
        along = along_start _ _;
        steps = steps_start (Under groups w f i) _ s handing.running.ready.shape handing.running.framed;
      }

  module _ {s' : State} {k : ℕ} (so_far : ToldUpto n groups w f i v s s' k) where
    -- up to a later place, once no place before it is new
    told_pass : (at : ℕ) → k ≤ at → at ≤ end_at groups v → NoneNew n s'.table groups w f i k at
        → ToldUpto n groups w f i v s s' at
    told_pass at h inside none =
        record {
          along = along_pass at so_far.along h (λ x a b. omega arith);
          steps =
              steps_pass (Under groups w f i) at h
              (passed_told handing so_far.steps.moves k at f so_far.along.behind inside none) so_far.steps;
        }

    -- and one child more
    pub told_next : {m : ℕ} {s'' : State} (at a x : ℕ) → m ≡ n
        → FirstNew m s'.table groups w f i k (end_at groups v) at → a ≡ i → x ≡ variable_at groups at
        → Steps m (Said w a x) s' s'' → ToldUpto n groups w f i v s s'' (at + 1)
    told_next {s'' = s''} at a x same found first e told =
        let place = subst (λ z. FirstNew z s'.table groups w f i k (end_at groups v) at) same found in
        let steps = subst (λ z. Steps z (Said w i x) s' s'') same (rw first at told) in
        let before = told_pass at place.behind (omega (arith, place.ahead)) place.passed in
        record {
          along = along_next before.along place.ahead;
          steps =
              steps_next (Under groups w f i) _ at before.along.behind before.steps
              (told_steps groups w f i at x (new_feature n s'.table groups w f i at place.found) e steps);
        }

    -- no place is left
    pub told_all : {m : ℕ} → m ≡ n → NoneNew m s'.table groups w f i k (end_at groups v)
        → Steps n (UnderAll groups w f i v) s s'
    told_all same passed =
        let none = subst (λ z. NoneNew z s'.table groups w f i k (end_at groups v)) same passed in
        ⊎_elim (λ h. (told_pass (end_at groups v) (omega arith) (omega arith) none).steps)
        (λ p. steps_along (Under groups w f i) so_far.along p so_far.steps) (cases_lt k (end_at groups v))
