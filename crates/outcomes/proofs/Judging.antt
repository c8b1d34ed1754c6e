-- What is known where bytes and buffers are accepted, and where they are refused.
use Prim.Native.Nat.{ℕ, ◌≤◌}
use Rattle.std.specs.Prelude.{Result, Ok, Err}
use mathlib.Core.Bool.{◌||◌}
use mathlib.Core.List.{List}
use mathlib.Core.Path.{◌≡◌, refl}
use native.Mathlib.Omega.{arith}
use Rattle.std.proofs.lemmas.Bool.{or_parts}
use Rattle.fields.specs.declared.refusals.Refusal.{Refusal}
use Rattle.fields.specs.Refusals.{short_table, short_replies}
use Rattle.fields.specs.Tests.{less, pick}
use Rattle.fields.proofs.Choice.{less_false}
use Rattle.sheet.specs.Headers.{table_size, reply_count}
use Rattle.sheet.specs.declared.whole.Accepted.{Accepted}
use Rattle.sheet.specs.Sheets.{read_sheet, longest}
use Rattle.sheet.proofs.Theorems.{refused_near}
use Rattle.rules.proofs.Logic.{decided}
use Rattle.outcomes.specs.Judged.{lent_to, judged}

-- the sheet is accepted, and each buffer is long enough
pub record Fits (b : List ℕ) (facts work replies : ℕ) (a : Accepted) : Type 0 where
  pub accepted : read_sheet b ≡ Ok a
  pub facts_fit : table_size a.header ≤ facts
  pub work_fits : table_size a.header ≤ work
  pub replies_fit : reply_count a.header ≤ replies

-- no refusal is told behind the longest sheet
abbrev Judges : List ℕ → ℕ → ℕ → ℕ → Result Accepted Refusal → Type 0
Judges b facts work replies (Ok a) = Fits b facts work replies a
Judges b facts work replies (Err r) = r.at ≤ longest

module _ (b : List ℕ) (facts work replies : ℕ) where
  buffers_judged : (a : Accepted) → read_sheet b ≡ Ok a
      → Judges b facts work replies (lent_to a facts work replies)
  unfolding short_table short_replies pick
  buffers_judged a e =
      decided (less facts (table_size a.header) || less work (table_size a.header)) (λ p. rw p (omega arith)) λ p.
      decided (less replies (reply_count a.header)) (λ q. rw (p, q) (omega arith)) λ q.
      let fit = or_parts (less facts (table_size a.header)) _ p in
      rw (p, q)
      record {
        accepted = e;
        facts_fit = less_false _ _ fit.0;
        work_fits = less_false _ _ fit.1;
        replies_fit = less_false _ _ q;
      }

  all_judged : (r : Result Accepted Refusal) → read_sheet b ≡ r → Judges b facts work replies (judged b facts work replies)
  unfolding judged
  all_judged (Ok a) e = rw e (buffers_judged a e)
  all_judged (Err r) e = rw e (refused_near b r e)

  pub accepted_fits : (a : Accepted) → judged b facts work replies ≡ Ok a
      → Fits b facts work replies a
  accepted_fits a e = rw e at (all_judged (read_sheet b) refl)

  pub refused_soon : (r : Refusal) → judged b facts work replies ≡ Err r → r.at ≤ longest
  refused_soon r e = rw e at (all_judged (read_sheet b) refl)
