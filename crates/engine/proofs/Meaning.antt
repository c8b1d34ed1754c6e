-- What a check returns and leaves is true of trees.
use Rattle.std.specs.Prelude.{Ok, Err}
use Prim.Native.Nat.{ℕ, ◌<◌}
use lib.ListN.{length}
use lib.Seq.{take_at}
use mathlib.Core.Bool.{true, false}
use mathlib.Core.List.{List}
use mathlib.Core.Logic.Iff.{trans}
use mathlib.Core.Path.{◌≡◌, refl, ap, ◌∙◌}
use native.Mathlib.Omega.{arith}
use Rattle.std.proofs.lemmas.Bool.{both_ways}
use Rattle.fields.specs.declared.refusals.Refusal.{Refusal}
use Rattle.sheet.specs.Headers.{size_for}
use Rattle.items.specs.Questions.{Query}
use Rattle.sheet.specs.declared.whole.Accepted.{Accepted}
use Rattle.sheet.specs.Sheets.{Sheet, read_sheet, sheet_of}
use Rattle.sheet.proofs.Theorems.{accepted_few}
use Rattle.rules.specs.declared.clashes.Clash.{Clash}
use Rattle.rules.specs.declared.verdicts.Verdict.{Verdict}
use Rattle.rules.specs.Clashes.{clashes}
use Rattle.rules.specs.Replies.{fails, reply_to, reply_number}
use Rattle.rules.specs.Verdicts.{verdict_of}
use Rattle.rules.proofs.Tables.{table_length}
use Rattle.trees.specs.Assignments.{Assignment, Counts}
use Rattle.trees.specs.Demand.{Answers, Demand3}
use Rattle.trees.proofs.Demands.{sheet_2, sheet_3, sheet_asked}
use Rattle.outcomes.specs.declared.outcomes.Outcome.{Outcome}
use Rattle.outcomes.specs.Outcomes.{kind_in, first_in, second_in, packed}
use Rattle.outcomes.proofs.Judging.{accepted_fits}
use Rattle.outcomes.proofs.Packed.{first_is, second_is}
use Rattle.promise.specs.Checks.{Checked, Returned}
use Rattle.promise.specs.Promise.{IsAccepted, IsRefused, FactsTold, ByteMeans, Means}
use Rattle.promise.proofs.Clashes.{nowhere, between}
use Rattle.promise.proofs.Shown.{by_case, read, never_accepted, never_refused, accepted_number, reply_byte, at_question}
use Rattle.promise.proofs.Shown.{number_always, number_never, number_open}

byte_means : (C : Assignment → Type 0) (s : Sheet) (q : Query) (byte : ℕ) → byte ≡ reply_number (reply_to s q)
    → Answers C q (reply_to s q) → ByteMeans C q byte
byte_means C s q byte e answers =
    rw e
    record {
      always = trans (number_always (reply_to s q)) answers.is_always;
      never = trans (number_never (reply_to s q)) answers.is_never;
      undecided = trans (number_open (reply_to s q)) answers.is_open;
    }

-- the number of a check that meets its equation
pub returned_so : {b facts work replies facts' work' replies' : List ℕ} {o : Outcome} {r : ℕ}
    → Checked b facts work replies facts' work' replies' o → r ≡ packed o
    → Returned b facts work replies facts' work' replies' r
returned_so checked e = record { number = e ∙ ap packed checked.outcome; buffers = checked.buffers }

module _ {b facts₀ work₀ replies₀ facts' work' replies' : List ℕ} {r : ℕ}
    (returned : Returned b facts₀ work₀ replies₀ facts' work' replies' r) where
  refused_means : (q : Refusal) → read returned ≡ Err q → kind_in r ≡ 2
      → Means b facts₀ work₀ replies₀ facts' replies' r
  refused_means q e kind =
      record {
        refused = ((λ z. (q, e)), (λ z. kind));
        consistent = ((λ z. absurd (omega (arith, z, kind))), (λ z. absurd (never_accepted (rw e at z.0))));
        clash = ((λ z. absurd (omega (arith, z, kind))), (λ z. absurd (never_accepted (rw e at z.0))));
        derived = λ z. absurd (never_accepted (rw e at z));
        least = λ z. absurd (omega (arith, z, kind));
        replies = λ z. absurd (omega (arith, z, kind));
      }

  module _ (a : Accepted) (e : read returned ≡ Ok a) where
    sheet_read : read_sheet b ≡ Ok a
    sheet_read = (accepted_fits b (length facts₀) (length work₀) (length replies₀) a e).accepted

    three : Demand3 (sheet_of b)
    three = sheet_3 b a sheet_read

    is_accepted : IsAccepted (read returned)
    is_accepted = (a, e)

    not_refused : IsRefused (read returned) → ⊥
    not_refused z = never_refused (rw e at z)

    -- the first table holds the derived facts
    facts_told : FactsTold (sheet_of b) facts'
    facts_told =
        record {
          derives = (sheet_2 b a sheet_read).derives;
          bytes = rw (returned.buffers.facts_are, e) (take_at _ _ (size_for (sheet_of b).n) (table_length (sheet_of b).n _));
        }

    variables_few : (sheet_of b).n < 65536
    variables_few = omega (arith, accepted_few b a sheet_read)

    clash_means : (clash : Clash) → verdict_of (sheet_of b) ≡ Verdict.Clash clash → kind_in r ≡ 1
        → Means b facts₀ work₀ replies₀ facts' replies' r
    unfolding clashes
    clash_means clash is kind =
        let i = clash.first in
        let j = clash.second in
        let found = ((sheet_2 b a sheet_read).clash i.0 j.0).0 (between (sheet_of b) clash is) in
        let number : r ≡ packed (Outcome.Clash i j) = rw (accepted_number returned a e, is) refl in
        let clashes_so : clashes (sheet_of b).stated (sheet_of b).n ≡ true = rw (between (sheet_of b) clash is) refl in
        let few : i.0 < 65536 = omega (arith, found.row, variables_few) in
        let few' : j.0 < 65536 = omega (arith, found.column, variables_few) in
        let first : first_in r ≡ i.0 = rw number (first_is (Outcome.Clash i j) few) in
        let second : second_in r ≡ j.0 = rw number (second_is (Outcome.Clash i j) few few') in
        record {
          refused = ((λ z. absurd (omega (arith, z, kind))), (λ z. absurd (not_refused z)));
          consistent =
              ((λ z. absurd (omega (arith, z, kind))), (λ z. absurd (both_ways _ (three.consistent.1 z.1) clashes_so)));
          clash = ((λ z. (is_accepted, three.clash.0 clashes_so)), (λ z. kind));
          derived = λ z. facts_told;
          least = λ z. rw (first, second) found;
          replies = λ z. absurd (omega (arith, z, kind));
        }

    consistent_means : verdict_of (sheet_of b) ≡ Verdict.Consistent → kind_in r ≡ 0
        → Means b facts₀ work₀ replies₀ facts' replies' r
    unfolding clashes
    consistent_means is kind =
        let fails_not : fails (sheet_of b) ≡ false = rw (nowhere (sheet_of b) is) refl in
        record {
          refused = ((λ z. absurd (omega (arith, z, kind))), (λ z. absurd (not_refused z)));
          consistent = ((λ z. (is_accepted, three.consistent.0 fails_not)), (λ z. kind));
          clash =
              ((λ z. absurd (omega (arith, z, kind))), (λ z. absurd (both_ways _ fails_not (three.clash.1 z.1))));
          derived = λ z. facts_told;
          least = λ z. absurd (omega (arith, z, kind));
          replies = λ z k q at.
              byte_means (Counts (sheet_of b)) (sheet_of b) q _ (reply_byte returned a e is k q at)
              (at_question _ (sheet_of b).asked k q (sheet_asked b a sheet_read fails_not) at);
        }

  -- demands 1 to 3 of what is returned and left
  pub means : Means b facts₀ work₀ replies₀ facts' replies' r
  means =
      by_case returned refused_means (λ a e is kind. consistent_means a e is kind)
      (λ a clash e is kind. clash_means a e clash is kind)
