-- From two tests of what is asked to the reply by them, over any assignments C.
use mathlib.Core.Bool.{Bool, true, false, true≢false}
use mathlib.Core.Logic.{◌↔◌}
use mathlib.Core.Path.{◌≡◌}
use Rattle.fields.specs.Tests.{pick}
use Rattle.items.specs.declared.items.Statement.{Statement}
use Rattle.items.specs.Questions.{Query, holds}
use Rattle.rules.specs.declared.replies.Reply.{Reply}
use Rattle.rules.proofs.Logic.{decided}
use Rattle.trees.specs.Assignments.{Assignment, Keeps, Breaks}
use Rattle.trees.specs.Demand.{Met, Some, Every, Answers, Tested}
use Rattle.trees.proofs.Choices.{Three, chosen_exactly}

-- what each outcome of two tests shows
pub record Shows (C : Assignment → Type 0) (q : Query) (a b : Bool) : Type 0 where
  pub always : a ≡ true → Every C λ v. Keeps v q
  pub never : b ≡ true → Every C λ v. Breaks v q
  pub keeping : b ≡ false → Some C λ v. Keeps v q
  pub breaking : a ≡ false → Some C λ v. Breaks v q

module _ {C : Assignment → Type 0} {q : Query} {a b : Bool} (shows : Shows C q a b) where
  -- each test is exact
  pub always_by : (a ≡ true) ↔ Every C λ v. Keeps v q
  always_by = (
    shows.always,
    λ keep. decided a (λ e. e) (λ e. let v = shows.breaking e in absurd (v.1.1 (keep v.0 v.1.0))),
  )

  pub never_by : (b ≡ true) ↔ Every C λ v. Breaks v q
  never_by = (
    shows.never,
    λ break. decided b (λ e. e) (λ e. let v = shows.keeping e in absurd (break v.0 v.1.0 v.1.1)),
  )

  -- and so is the reply by them, where there is an assignment at all
  pub answers_by : Met C → Answers C q (pick a Reply.Always (pick b Reply.Never Reply.Open))
  answers_by met =
      let c = chosen_exactly differ a b shows.always (λ e. shows.never) undecided in
      record { is_always = c.first; is_never = c.second; is_open = c.third }
    where
      undecided : a ≡ false → b ≡ false → (Some C λ v. Keeps v q) × (Some C λ v. Breaks v q)
      undecided e d = (shows.keeping d, shows.breaking e)

      differ : Three Reply.Always Reply.Never Reply.Open (Every C λ v. Keeps v q) (Every C λ v. Breaks v q)
          ((Some C λ v. Keeps v q) × (Some C λ v. Breaks v q))
      differ =
          record {
            x_y = λ e. true≢false cc;
            x_z = λ e. true≢false cc;
            y_z = λ e. true≢false cc;
            P-Q = λ keep break. break met.0 met.1 (keep met.0 met.1);
            P-R = λ keep some. some.1.1.1 (keep some.1.0 some.1.1.0);
            Q-R = λ break some. break some.0.0 some.0.1.0 some.0.1.1;
          }

-- of a statement the two tests are exact
pub tested_by : {C : Assignment → Type 0} {x : Statement} {a b : Bool} → Shows C (holds x) a b → Tested C x a b
tested_by shows = record { always = always_by shows; never = never_by shows }
