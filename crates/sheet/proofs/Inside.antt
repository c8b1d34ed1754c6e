-- The part of a sheet that a record takes.
use Rattle.std.specs.Prelude.{Ok, Err}
use Prim.Native.Nat.{ℕ, ◌-◌, ◌<◌, ◌≤◌}
use mathlib.Core.List.{List, []}
use mathlib.Core.Path.{◌≡◌, refl}
use lib.ListN.{length, take, drop}
use native.Mathlib.Nat.{sub_self}
use native.Mathlib.Omega.{arith}
use Rattle.fields.specs.declared.numbers.Cursor.{Cursor}
use Rattle.fields.specs.declared.refusals.Place.{Place}
use Rattle.fields.specs.Fields.{Read, then_field}
use Rattle.fields.proofs.Chains.{told}
use Rattle.items.specs.declared.items.Item.{Item}
use Rattle.items.specs.Items.{item_at, width}
use Rattle.items.proofs.Lawful.{item_spans}
use Rattle.sheet.specs.Readings.{end_of}

module _ (s : List ℕ) (n : ℕ) (c : Cursor) where
  inside_of : (read : Read Item) → item_at Place.Record s n c ≡ read → c.at < (end_of read c).at
      → (end_of read c).at ≤ length s
  inside_of (Ok f) e on = let h = told (item_spans Place.Record s n c) e in omega arith
  inside_of (Err r) e on = absurd (omega arith)

  -- where a reading moves on over a record, it stays inside the sheet
  pub record_inside : c.at < (end_of (item_at Place.Record s n c) c).at
      → (end_of (item_at Place.Record s n c) c).at ≤ length s
  record_inside = inside_of _ refl

  none_of : (on : Item → Cursor → List ℕ) (read : Read Item) → item_at Place.Record s n c ≡ read
      → (end_of read c).at ≤ c.at → then_field read (λ r. []) on ≡ []
  unfolding width
  none_of on (Ok f) e stayed = let h = told (item_spans Place.Record s n c) e in absurd (omega arith)
  none_of on (Err r) e stayed = refl

  abbrev part : Read Item → List ℕ
  part read = then_field read (λ r. []) λ x end. take (end.at - c.at) (drop c.at s)

  part_of : (read : Read Item) → part read ≡ take ((end_of read c).at - c.at) (drop c.at s)
  part_of (Ok f) = refl
  part_of (Err r) = rw (sub_self c.at) refl

  module _ {end : ℕ} (ends : end ≡ (end_of (item_at Place.Record s n c) c).at) where
    -- where it stays there is none, whatever would be made of it
    pub no_record : (on : Item → Cursor → List ℕ) → end ≤ c.at
        → then_field (item_at Place.Record s n c) (λ r. []) on ≡ []
    no_record on stayed = none_of on _ refl (rw (← ends) stayed)

    -- what it takes ends there
    pub record_taken : part (item_at Place.Record s n c) ≡ take (end - c.at) (drop c.at s)
    record_taken = rw ends (part_of (item_at Place.Record s n c))
