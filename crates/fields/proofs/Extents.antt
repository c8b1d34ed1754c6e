-- Where fields end: so many bytes behind their start, inside the sheet; and no refusal is told further on.
use Prim.Native.Nat.{ℕ, ◌+◌, ◌≤◌, ◌<◌}
use mathlib.Core.Bool.{Bool, true, false}
use mathlib.Core.List.{List}
use mathlib.Core.Path.{◌≡◌, refl}
use borrow.Author.Tests.{not-false}
use lib.ListN.{length, get_or}
use native.Mathlib.Omega.{arith}
use Rattle.std.specs.Prelude.{Option, Some, None, is_some, Ok, Err}
use Rattle.fields.specs.declared.numbers.Cursor.{Cursor}
use Rattle.fields.specs.declared.numbers.Variable.{Variable}
use Rattle.fields.specs.declared.refusals.Refusal.{Refusal}
use Rattle.fields.specs.Fields.{Read, byte_field, word_field, variable_field, field_if, ReadIf, judged}
use Rattle.fields.specs.Refusals.{ends, bad_variable}
use Rattle.fields.specs.Tests.{pick}
use Rattle.fields.proofs.Chains.{Of, either, after_field}
use Rattle.fields.proofs.Choice.{less_true, less_false}

-- from c on, w bytes were read, and none past the sheet's end
pub record Spans (s : List ℕ) (w : ℕ) (c next : Cursor) : Type 0 where
  pub reaches : next.at ≡ c.at + w
  pub inside : c.at ≤ length s → next.at ≤ length s

-- an answer: w bytes with a value that is Fit, or a refusal told at most w bytes on
abbrev pub FieldSpans : {T : Type 0} → List ℕ → ℕ → Cursor → (T → Type 0) → Read T → Type 0
FieldSpans s w c Fit (Ok f) = Spans s w c f.next × Fit f.value
FieldSpans s w c Fit (Err r) = r.at ≤ c.at + w

-- of a byte, which lies inside and is the one that stands there
abbrev pub ByteSpans : List ℕ → ℕ → Cursor → (ℕ → Type 0) → Read ℕ → Type 0
ByteSpans s w c Fit (Ok f) = Spans s w c f.next × Fit f.value × (f.next.at ≤ length s) × (get_or s c.at 0 ≡ f.value)
ByteSpans s w c Fit (Err r) = r.at ≤ c.at + w

-- a variable below n
abbrev pub Below : ℕ → Variable → Type 0
Below n i = i.0 < n

abbrev pub Any : {T : Type 0} → T → Type 0
Any value = Unit {0}

pub join : {s : List ℕ} {v w : ℕ} {c between next : Cursor} → Spans s v c between → Spans s w between next
    → Spans s (v + w) c next
join p q = record { reaches = omega arith; inside = λ h. q.inside (p.inside h) }

module _ (s : List ℕ) (c : Cursor) where
  pub nothing_spans : Spans s 0 c c
  nothing_spans = record { reaches = omega arith; inside = λ h. h }

  pub byte_spans : Of (ByteSpans s 1 c Any) (byte_field s c)
  unfolding byte_field ends
  byte_spans =
      either _ _ _ (λ e. let h = less_true _ _ e in record { holds = omega arith })
      (λ e. let h = less_false _ _ e in record { holds = (record { reaches = refl; inside = λ b. h }, tt, h, refl) })

  pub word_spans : Of (FieldSpans s 2 c Any) (word_field s c)
  unfolding word_field ends
  word_spans =
      either _ _ _ (λ e. let h = less_true _ _ e in record { holds = omega arith })
      (λ e. let h = less_false _ _ e in record { holds = (record { reaches = refl; inside = λ b. h }, tt) })

  pub judged_spans : (bad : ℕ → Bool) (r : Refusal) → r.at ≤ c.at + 1
      → Of (ByteSpans s 1 c (λ v. bad v ≡ false)) (judged bad r (byte_field s c))
  judged_spans bad r near =
      after_field byte_spans (λ q h. record { holds = h }) λ v next h.
      either _ _ _ (λ e. record { holds = near }) (λ e. record { holds = (h.0, e, h.2, h.3) })

  pub variable_spans : (n : ℕ) → Of (FieldSpans s 1 c (Below n)) (variable_field s n c)
  unfolding variable_field bad_variable
  variable_spans n =
      after_field byte_spans (λ q h. record { holds = h }) λ v next h.
      either _ _ _ (λ e. record { holds = omega arith }) (λ e. record { holds = (h.0, less_true _ _ (not-false _ e)) })

-- what is there is Fit
abbrev pub Held : {T : Type 0} → (T → Type 0) → Option T → Type 0
Held Fit (Some v) = Fit v
Held Fit None = Unit {0}

-- and it is there where its bit stands
pub record Where {T : Type 0} (stands : Bool) (Fit : T → Type 0) (value : Option T) : Type 0 where
  pub is : is_some value ≡ stands
  pub fit : Held Fit value

-- a field whose bit is missing takes no byte
pub if_spans : {T : Type 0} {s : List ℕ} {w : ℕ} {c : Cursor} {Fit : T → Type 0} (stands : Bool) (read : Read T)
    → Of (FieldSpans s w c Fit) read
    → Of (FieldSpans s (pick stands w 0) c (Where stands Fit)) (field_if stands read c)
unfolding field_if pick
if_spans {s = s} {c = c} false read h =
    record { holds = (nothing_spans s c, record { is = refl; fit = tt }) }
if_spans true (Ok f) h = record { holds = (h.holds.0, record { is = refl; fit = h.holds.1 }) }
if_spans true (Err r) h = record { holds = h.holds }

-- an answer that is known only where its bit stands is that of the field
pub read_if_is : {T : Type 0} {Reads : Read T → Type 0} (stands : Bool) (c : Cursor) (read : Cursor → Read T)
    {answer : Read (Option T)} → ((r : Read T) → Reads r → r ≡ read c) → ReadIf Reads stands c answer
    → answer ≡ field_if stands (read c) c
unfolding field_if pick
read_if_is true c read same (r, is, e) = rw (← same r is) e
read_if_is false c read same e = e
