-- Demand 2 holds of every sheet whose statements name variables of it.
use mathlib.Core.Bool.{Bool, true, false}
use mathlib.Core.Logic.{◌↔◌}
use mathlib.Core.Path.{◌≡◌, refl}
use Rattle.fields.specs.Tests.{pick}
use Rattle.items.specs.Questions.{Query}
use Rattle.items.specs.Statements.{AllName}
use Rattle.sheet.specs.Sheets.{Sheet}
use Rattle.rules.specs.declared.replies.Reply.{Reply}
use Rattle.rules.specs.Replies.{reply_by}
use Rattle.rules.specs.Demand.{Decided, Replied, Demand2, Smallest}
use Rattle.rules.proofs.Derived.{smallest, derives, derived_shape}
use Rattle.rules.proofs.Clashing.{clash_least, clash_nowhere}

-- a reply follows from its two tests, and they from it
always_by : (a b : Bool) → (pick a Reply.Always (pick b Reply.Never Reply.Open) ≡ Reply.Always) ↔ (a ≡ true)
unfolding pick
always_by true b = ((λ e. refl), (λ e. refl))
always_by false true = ((λ e. cc), (λ e. cc))
always_by false false = ((λ e. cc), (λ e. cc))

never_by : (a b : Bool)
    → (pick a Reply.Always (pick b Reply.Never Reply.Open) ≡ Reply.Never) ↔ ((a ≡ false) × (b ≡ true))
unfolding pick
never_by true b = ((λ e. (cc, cc)), (λ e. let z : true ≡ false = e.0 in cc))
never_by false true = ((λ e. (refl, refl)), (λ e. refl))
never_by false false = ((λ e. (refl, cc)), (λ e. let z : false ≡ true = e.1 in cc))

open_by : (a b : Bool)
    → (pick a Reply.Always (pick b Reply.Never Reply.Open) ≡ Reply.Open) ↔ ((a ≡ false) × (b ≡ false))
unfolding pick
open_by true b = ((λ e. (cc, cc)), (λ e. let z : true ≡ false = e.0 in cc))
open_by false true = ((λ e. (refl, cc)), (λ e. let z : true ≡ false = e.1 in cc))
open_by false false = ((λ e. (refl, refl)), (λ e. refl))

pub decided_by : (a b : Bool) → Decided a b (pick a Reply.Always (pick b Reply.Never Reply.Open))
decided_by a b = record { always = always_by a b; never = never_by a b; undecided = open_by a b }

pub replied : (s : Sheet) (q : Query) → Replied s q
unfolding reply_by
replied s q = decided_by _ _

-- Demand 2
pub demand_2 : (s : Sheet) → AllName s.n s.stated → Demand2 s
demand_2 s names =
    record {
      derives = derives s.n s.stated names;
      shape = derived_shape s.n s.stated;
      clash = clash_least s.stated s.n;
      no_clash = clash_nowhere s.stated s.n;
      replies = replied s;
    }

pub all_smallest : (s : Sheet) → Smallest s
all_smallest s = smallest s.n s.stated
