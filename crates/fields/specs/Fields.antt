-- One field at a cursor: looked for whole, then judged. `then_field` and `then_value` read on
-- behind it, or pass the refusal on.
use Rattle.std.specs.Prelude.{ℕ, zero, suc, ◌+◌, ◌*◌, Bool, true, false, List, [], ◌∷◌, get_or, Option, Some, None, Result, Ok, Err, ◌≡◌}
use Rattle.fields.specs.declared.fields.Field.{Field}
use Rattle.fields.specs.declared.numbers.Cursor.{Cursor}
use Rattle.fields.specs.declared.numbers.Feature.{Feature}
use Rattle.fields.specs.declared.numbers.Label.{Label}
use Rattle.fields.specs.declared.numbers.Variable.{Variable}
use Rattle.fields.specs.declared.refusals.Refusal.{Refusal}
use Rattle.fields.specs.Refusals.{ends, cut, bad_variable, variable_refusal}
use Rattle.fields.specs.Tests.{pick}

abbrev pub cursor : ℕ → Cursor
cursor at = record { at = at }

abbrev pub variable : ℕ → Variable
variable i = record { 0 = i }

abbrev pub feature : ℕ → Feature
feature f = record { 0 = f }

abbrev pub label : ℕ → Label
label a = record { 0 = a }

-- a field or a refusal
abbrev pub Read : Type 0 → Type 0
Read T = Result (Field T) Refusal

-- a value that was found, and where the next field starts
abbrev pub found : {T : Type 0} → T → Cursor → Read T
found value next = Ok (record { value = value; next = next })

-- what follows behind a value, or the refusal passed on
abbrev pub then_value : {T A : Type 0} → Result T Refusal → (Refusal → A) → (T → A) → A
then_value (Ok value) refused next = next value
then_value (Err r) refused next = refused r

abbrev pub then_field : {T A : Type 0} → Read T → (Refusal → A) → (T → Cursor → A) → A
then_field (Ok field) refused next = next field.value field.next
then_field (Err r) refused next = refused r

-- a byte that was found is judged: refused where the test says so
abbrev pub judged : (ℕ → Bool) → Refusal → Read ℕ → Read ℕ
judged bad r read = then_field read Err λ b next. pick (bad b) (Err r) (found b next)

-- two bytes, the high one first
unfoldable pub word : ℕ → ℕ → ℕ
word high low = high * 256 + low

unfoldable pub byte_field : List ℕ → Cursor → Read ℕ
byte_field s c = pick (ends s c.at 1) (Err (cut s)) (found (get_or s c.at 0) (cursor (c.at + 1)))

unfoldable pub word_field : List ℕ → Cursor → Read ℕ
word_field s c =
    pick (ends s c.at 2) (Err (cut s))
    (found (word (get_or s c.at 0) (get_or s (c.at + 1) 0)) (cursor (c.at + 2)))

-- a variable below n
unfoldable pub variable_field : List ℕ → ℕ → Cursor → Read Variable
variable_field s n c =
    then_field (byte_field s c) Err λ i next.
    pick (bad_variable n i) (Err (variable_refusal c)) (found (variable i) next)

-- a field that is there only where its bit stands
abbrev pub present : {T : Type 0} → Read T → Read (Option T)
present read = then_field read Err λ value next. found (Some value) next

unfoldable pub field_if : {T : Type 0} → Bool → Read T → Cursor → Read (Option T)
field_if stands read c = pick stands (present read) (found None c)

-- the same, of an answer that is known only where its bit stands
abbrev pub ReadIf : {T : Type 0} → (Read T → Type 0) → Bool → Cursor → Read (Option T) → Type 0
ReadIf Reads true c answer = (read : Read _) × Reads read × (answer ≡ present read)
ReadIf Reads false c answer = answer ≡ found None c

-- where as many fields, one behind the other, end; and their values
unfoldable pub run_end : {T : Type 0} → ℕ → (Cursor → Read T) → Cursor → Result Cursor Refusal
run_end zero read c = Ok c
run_end (suc left) read c = then_field (read c) Err λ x next. run_end left read next

unfoldable pub run_of : {T : Type 0} → ℕ → (Cursor → Read T) → Cursor → List T
run_of zero read c = []
run_of (suc left) read c = then_field (read c) (λ r. []) λ x next. x ∷ run_of left read next
