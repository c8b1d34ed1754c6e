-- What an accepted sheet is: its header, records and questions are read to the very end, so that none is refused when
-- they are read again. No accepted sheet is longer than the longest, and no refusal is told further on.
use Rattle.std.specs.Prelude.{Result, Ok, Err}
use Prim.Native.Nat.{ℕ, ◌≤◌}
use mathlib.Core.List.{List}
use mathlib.Core.Path.{◌≡◌}
use lib.ListN.{length}
use native.Mathlib.Omega.{arith}
use Rattle.fields.specs.declared.numbers.Cursor.{Cursor}
use Rattle.fields.specs.declared.refusals.Place.{Place}
use Rattle.fields.specs.declared.refusals.Refusal.{Refusal}
use Rattle.fields.specs.Refusals.{remain}
use Rattle.fields.proofs.Chains.{Of, known, either, after_value}
use Rattle.fields.proofs.Choice.{less_false}
use Rattle.sheet.specs.Headers.{header_of}
use Rattle.sheet.proofs.Heads.{Heads, header_spans}
use Rattle.items.specs.Items.{items_end}
use Rattle.items.proofs.Runs.{run_spans}
use Rattle.sheet.specs.declared.whole.Accepted.{Accepted}
use Rattle.sheet.specs.Sheets.{body_of, read_sheet, longest}

pub record Accepts (s : List ℕ) (a : Accepted) : Type 0 where
  pub heads : Heads s a.header
  pub header_is : header_of s ≡ Ok a.header
  pub records_end : items_end a.header.records Place.Record s a.header.variables a.header.first ≡ Ok a.asked
  pub end : Cursor
  pub questions_end : items_end a.header.questions Place.Question s a.header.variables a.asked ≡ Ok end
  pub whole : end.at ≡ length s
  pub short : length s ≤ longest

abbrev pub SheetSpans : List ℕ → Result Accepted Refusal → Type 0
SheetSpans s (Ok a) = Accepts s a
SheetSpans s (Err r) = r.at ≤ longest

pub sheet_spans : (s : List ℕ) → Of (SheetSpans s) (read_sheet s)
unfolding read_sheet body_of remain
sheet_spans s =
    after_value (known (header_spans s)) (λ q h. record { holds = omega arith }) λ h p.
    after_value (known (run_spans Place.Record s h.variables h.records h.first))
    (λ q r. record { holds = omega arith }) λ asked r.
    after_value (known (run_spans Place.Question s h.variables h.questions asked))
    (λ q r'. record { holds = omega arith }) λ end r'.
    either _ _ _ (λ e. record { holds = omega arith })
    λ e. let none_left = less_false _ _ e in
    let fits = r'.1.inside (r.1.inside p.1.inside) in
    record {
      holds = record {
        heads = p.1;
        header_is = p.0;
        records_end = r.0;
        end = end;
        questions_end = r'.0;
        whole = omega arith;
        short = omega arith;
      };
    }
