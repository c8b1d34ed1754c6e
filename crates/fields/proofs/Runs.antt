-- A run of fields, one behind the other: one field on.
use Rattle.std.specs.Prelude.{Ok, Err}
use Prim.Native.Nat.{ℕ, zero, suc, ◌+◌, ◌-◌, ◌<◌, ◌≤◌}
use mathlib.Core.List.{[], ◌∷◌}
use mathlib.Core.Path.{◌≡◌, refl, sym, ap, ◌∙◌}
use lib.ListN.{length}
use native.Mathlib.Nat.{sub-add-eq}
use native.Mathlib.Numerals.{sub-one}
use native.Mathlib.Omega.{arith}
use Rattle.fields.specs.declared.fields.Field.{Field}
use Rattle.fields.specs.declared.numbers.Cursor.{Cursor}
use Rattle.fields.specs.declared.refusals.Refusal.{Refusal}
use Rattle.fields.specs.Fields.{Read, run_end, run_of}

module _ {T : Type 0} (read : Cursor → Read T) (c : Cursor) where
  pub run_over : (left : ℕ) → left ≤ 0 → run_end left read c ≡ Ok c
  unfolding run_end
  run_over zero h = refl
  run_over (suc left) h = absurd (omega arith)

  pub run_on : (left : ℕ) (f : Field T) → 0 < left → read c ≡ Ok f
      → run_end left read c ≡ run_end (left - 1) read f.next
  unfolding run_end
  run_on zero f h e = absurd (omega arith)
  run_on (suc left) f h e = rw (e, sub-one) refl

  -- the same by how many were read
  pub run_step : (count i : ℕ) (f : Field T) → i < count → read c ≡ Ok f
      → run_end (count - (i + 1)) read f.next ≡ run_end (count - i) read c
  run_step count i f h e = rw (sub-add-eq count i 1) (sym (run_on (count - i) f (omega arith) e))

  pub run_refused : (left : ℕ) (r : Refusal) → 0 < left → read c ≡ Err r → run_end left read c ≡ Err r
  unfolding run_end
  run_refused zero r h e = absurd (omega arith)
  run_refused (suc left) r h e = rw e refl

  -- the values themselves
  pub values_over : (left : ℕ) → left ≤ 0 → run_of left read c ≡ []
  unfolding run_of
  values_over zero h = refl
  values_over (suc left) h = absurd (omega arith)

  pub values_on : (left : ℕ) (f : Field T) → 0 < left → read c ≡ Ok f
      → run_of left read c ≡ f.value ∷ run_of (left - 1) read f.next
  unfolding run_of
  values_on zero f h e = absurd (omega arith)
  values_on (suc left) f h e = rw (e, sub-one) refl

  pub values_refused : (left : ℕ) (r : Refusal) → read c ≡ Err r → run_of left read c ≡ []
  unfolding run_of
  values_refused zero r e = refl
  values_refused (suc left) r e = rw e refl

-- a run that ends at a cursor refuses none of its fields
pub run_reads : {T : Type 0} (read : Cursor → Read T) (c end : Cursor) (left : ℕ) (r : Refusal) → 0 < left
    → run_end left read c ≡ Ok end → read c ≡ Err r → ⊥
run_reads read c end left r h e i = cc (run_refused read c left r h i)

-- the first is read, and the rest ends there too
pub run_next : {C T : Type 0} (read : Cursor → Read T) (c end : Cursor) (left : ℕ) → 0 < left
    → run_end left read c ≡ Ok end
    → ((f : Field T) → read c ≡ Ok f → run_end (left - 1) read f.next ≡ Ok end
    → run_of left read c ≡ f.value ∷ run_of (left - 1) read f.next → C)
    → C
run_next {C} {T} read c end left h e go = first (read c) refl
  where
    first : (r : Read T) → read c ≡ r → C
    first (Ok f) i = go f i (sym (run_on read c left f h i) ∙ e) (values_on read c left f h i)
    first (Err r) i = absurd (run_reads read c end left r h e i)

-- it has as many values as it was asked for
pub run_count : {T : Type 0} (read : Cursor → Read T) (k : ℕ) (c end : Cursor) → run_end k read c ≡ Ok end
    → length (run_of k read c) ≡ k
unfolding run_of
run_count read zero c end e = refl
run_count read (suc k) c end e =
    run_next read c end (suc k) (omega arith) e λ f i q values.
    rw (values, sub-one) (ap suc (run_count read k f.next end (rw sub-one at q)))
