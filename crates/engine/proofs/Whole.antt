-- From parts of the lent buffers to the buffers.
use Rattle.std.specs.Prelude.{Ok, Err}
use Prim.Native.Nat.{ℕ, ◌≤◌}
use lib.ListN.{length, take, drop, replicate, length-replicate, take-append-drop}
use lib.Seq.{length-take-le}
use mathlib.Core.List.{List, ◌++◌, map}
use mathlib.Core.Path.{◌≡◌, refl, sym, ◌∙◌}
use Rattle.fields.specs.declared.refusals.Refusal.{Refusal}
use Rattle.sheet.specs.Headers.{size_for, table_size, reply_count}
use Rattle.sheet.specs.declared.whole.Accepted.{Accepted}
use Rattle.sheet.specs.Sheets.{sheet_of}
use Rattle.sheet.proofs.Theorems.{accepted_variables, asked_replies}
use Rattle.rules.specs.declared.verdicts.Verdict.{Verdict}
use Rattle.rules.specs.Derived.{facts_of}
use Rattle.rules.specs.Tables.{table_bytes}
use Rattle.rules.specs.Verdicts.{verdict_of}
use Rattle.rules.specs.Replies.{replies_of, reply_number}
use Rattle.rules.proofs.Tables.{table_length}
use Rattle.outcomes.specs.declared.outcomes.Outcome.{Outcome}
use Rattle.outcomes.specs.Judged.{judged}
use Rattle.promise.proofs.Shown.{byte_each}
use Rattle.promise.specs.Checks.{outcome_of, of_refusal, over, where_consistent, Checked}
use Rattle.engine.specs.Steps.{Accepting, Filled}
use Rattle.outcomes.proofs.Judging.{Fits, accepted_fits}

-- a refusal leaves all as it was
pub checked_refused : {b facts work replies : List ℕ} {r : Refusal} {o : Outcome}
    → judged b (length facts) (length work) (length replies) ≡ Err r → o ≡ of_refusal r
    → Checked b facts work replies facts work replies o
unfolding outcome_of
checked_refused e is =
    record {
      outcome = rw e is;
      buffers = record { facts_are = rw e refl; work_is = rw e refl; replies_are = rw e refl };
    }

-- the first part of a buffer as long as what is written
part_over : (first buffer part : List ℕ) (size : ℕ) → length first ≡ size → part ≡ first
    → part ++ drop size buffer ≡ over first buffer
part_over first buffer part size e is = rw (is, ← e) refl

part_written : (verdict : Verdict) (first buffer part : List ℕ) (size : ℕ) → length first ≡ size
    → part ≡ where_consistent verdict first (take size buffer)
    → part ++ drop size buffer ≡ where_consistent verdict (over first buffer) buffer
unfolding where_consistent
part_written Verdict.Consistent first buffer part size e is = part_over first buffer part size e is
part_written (Verdict.Clash clash) first buffer part size e is = rw is (take-append-drop size buffer)

module _ (b facts work replies : List ℕ) {a : Accepted}
    (e : judged b (length facts) (length work) (length replies) ≡ Ok a) where
  fits : Fits b (length facts) (length work) (length replies) a
  fits = accepted_fits b (length facts) (length work) (length replies) a e

  -- the parts in use are parts of the buffers
  module _ (size : ℕ) where
    pub facts_part : size ≡ table_size a.header → size ≤ length facts
    facts_part is = rw is fits.facts_fit

    pub work_part : size ≡ table_size a.header → size ≤ length work
    work_part is = rw is fits.work_fits

    pub replies_part : size ≡ reply_count a.header → size ≤ length replies
    replies_part is = rw is fits.replies_fit

  pub parts_accepted : (size count : ℕ) → size ≡ table_size a.header → count ≡ reply_count a.header
      → Accepting b a (take size facts) (take size work) (take count replies)
  parts_accepted size count is is' =
      record {
        questions =
            record {
              accepted = fits.accepted;
              room = length-take-le count replies (rw is' fits.replies_fit) ∙ is';
            };
        facts_size = length-take-le size facts (rw is fits.facts_fit) ∙ is;
        work_size = length-take-le size work (rw is fits.work_fits) ∙ is;
      }

  sheet_size : size_for (sheet_of b).n ≡ table_size a.header
  sheet_size = rw (accepted_variables b a fits.accepted) refl

  bytes_size : length (table_bytes (sheet_of b).n (facts_of (sheet_of b).stated (sheet_of b).n)) ≡ table_size a.header
  bytes_size = table_length (sheet_of b).n _ ∙ sheet_size

  replies_size : length (map reply_number (replies_of (sheet_of b))) ≡ reply_count a.header
  replies_size = byte_each (sheet_of b) ∙ asked_replies b a fits.accepted

  pub checked_accepted : {facts' work' replies' : List ℕ} {o : Outcome} (size count : ℕ) → size ≡ table_size a.header
      → count ≡ reply_count a.header → Filled (sheet_of b) (take size work) (take count replies) facts' work' replies' o
      → Checked b facts work replies (facts' ++ drop size facts) (work' ++ drop size work)
      (replies' ++ drop count replies) o
  unfolding outcome_of
  checked_accepted size count is is' filled =
      record {
        outcome = rw e filled.outcome;
        buffers =
            record {
              facts_are = rw e (part_over _ facts _ size (bytes_size ∙ sym is) filled.facts_are);
              work_is =
                  rw e
                  (part_written (verdict_of (sheet_of b)) (replicate (size_for (sheet_of b).n) 0) work _ size
                  (length-replicate {A = ℕ} (size_for (sheet_of b).n) 0 ∙ sheet_size ∙ sym is) filled.work_is);
              replies_are =
                  rw e
                  (part_written (verdict_of (sheet_of b)) (map reply_number (replies_of (sheet_of b))) replies _ count
                  (replies_size ∙ sym is') filled.replies_are);
            };
      }
