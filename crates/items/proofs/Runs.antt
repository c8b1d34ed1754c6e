-- Where a run of items ends.
use Rattle.std.specs.Prelude.{Result, Ok, Err}
use Prim.Native.Nat.{ℕ, zero, suc, ◌+◌, ◌*◌, ◌≤◌}
use mathlib.Core.List.{List}
use lib.ListN.{length}
use native.Mathlib.Nat.{suc-mul}
use native.Mathlib.Omega.{arith}
use Rattle.fields.specs.declared.numbers.Cursor.{Cursor}
use Rattle.fields.specs.declared.refusals.Place.{Place}
use Rattle.fields.specs.declared.refusals.Refusal.{Refusal}
use Rattle.fields.specs.Fields.{run_end}
use Rattle.fields.proofs.Chains.{Of, after_field, as_value}
use Rattle.items.specs.Items.{items_end, most}
use Rattle.items.proofs.Lawful.{item_spans}

-- so many items from c on end behind c, within the sheet, and no further than so many of the longest
pub record Run (place : Place) (s : List ℕ) (k : ℕ) (c next : Cursor) : Type 0 where
  pub ahead : c.at ≤ next.at
  pub near : next.at ≤ c.at + k * most place
  pub inside : c.at ≤ length s → next.at ≤ length s

abbrev pub RunSpans : Place → List ℕ → ℕ → Cursor → Result Cursor Refusal → Type 0
RunSpans place s k c (Ok next) = Run place s k c next
RunSpans place s k c (Err r) = r.at ≤ c.at + k * most place

pub run_spans : (place : Place) (s : List ℕ) (n k : ℕ) (c : Cursor) → Of (RunSpans place s k c) (items_end k place s n c)
unfolding run_end
run_spans place s n zero c = record { holds = record { ahead = omega arith; near = omega arith; inside = λ h. h } }
run_spans place s n (suc k) c =
    after_field (item_spans place s n c) (λ q h. record { holds = omega (arith, suc-mul k (most place)) }) λ x next r.
    as_value (run_spans place s n k next) (λ q h. omega (arith, suc-mul k (most place), r.near)) λ end h.
    record {
      ahead = omega (arith, r.reaches);
      near = omega (arith, suc-mul k (most place), r.near);
      inside = λ b. h.inside r.inside;
    }
