-- A sheet of the longest length is accepted: 1,024 records with all fields and 1,024 questions for a path of eight features.
use Rattle.std.specs.List.{range_with_len}
use Rattle.std.specs.Prelude.{Result, Ok, Err}
use Rattle.std.proofs.lemmas.List.FromFn.{length-map-range_with_len, get_or-map-range_with_len}
use Prim.Native.Nat.{ℕ, zero, suc, ◌+◌, ◌*◌, ◌-◌, ◌%◌, ◌≤◌, ◌<◌}
use mathlib.Core.Bool.{Bool, true, false}
use mathlib.Core.List.{List, map}
use mathlib.Core.Path.{◌≡◌, refl, sym, ap, ◌∙◌}
use lib.ListN.{length, get_or}
use native.Mathlib.Nat.{suc-mul}
use native.Mathlib.Omega.{arith}
use Rattle.fields.specs.declared.fields.Field.{Field}
use Rattle.fields.specs.declared.numbers.Cursor.{Cursor}
use Rattle.fields.specs.declared.numbers.Variable.{Variable}
use Rattle.fields.specs.declared.refusals.Place.{Place}
use Rattle.fields.specs.declared.refusals.Refusal.{Refusal}
use Rattle.fields.specs.Fields.{Read, cursor, word, byte_field, word_field, variable_field, field_if, run_end}
use Rattle.fields.specs.Refusals.{ends, bad_header_map, bad_variable_count, bad_count, bad_item_map, several_bits}
use Rattle.fields.specs.Refusals.{bad_variable, remain, bad_path_length}
use Rattle.fields.specs.Tests.{less, same, pick, has}
use Rattle.fields.proofs.Chains.{Of, told, either, after_field, after_value, as_value}
use Rattle.fields.proofs.Choice.{chosen, passed, is_less, not_less, is_same, less_true, less_false, picked}
use Rattle.sheet.specs.Headers.{header, header_map, variable_count, count_field as header_count, count_if, header_of}
use Rattle.items.specs.declared.items.Item.{Item}
use Rattle.items.specs.Items.{map_field, edge_field, label_field, fields_at, item_at, items_end, fields_width, width}
use Rattle.items.specs.Paths.{count_field, features_end, path_field}
use Rattle.sheet.specs.Sheets.{accepted, body_of, read_sheet, longest}

-- a field that lies inside the sheet is found, and a variable field whose byte is below n
abbrev There : {T : Type 0} → ℕ → Cursor → Read T → Type 0
There w c (Ok f) = f.next.at ≡ c.at + w
There w c (Err r) = ⊥

-- the w bytes from c on are in the sheet, each below n
record Small (s : List ℕ) (n : ℕ) (c : Cursor) (w : ℕ) : Type 0 where
  inside : c.at + w ≤ length s
  below : (o : ℕ) → c.at ≤ o → o < c.at + w → get_or s o 0 < n

module _ (s : List ℕ) (n : ℕ) where
  variable_there : (c : Cursor) → Small s n c 1 → Of (There 1 c) (variable_field s n c)
  unfolding variable_field bad_variable byte_field ends pick
  variable_there c h =
      let here = is_less (get_or s c.at 0) n (h.below c.at (omega arith) (omega arith)) in
      rw (not_less (length s) (c.at + 1) h.inside, here)
      (record { holds = refl })

word_there : (s : List ℕ) (c : Cursor) → c.at + 2 ≤ length s → Of (There 2 c) (word_field s c)
unfolding word_field ends pick
word_there s c h = rw (not_less (length s) (c.at + 2) h) (record { holds = refl })

-- so is one that is there where its bit stands
if_there : {T : Type 0} (w : ℕ) (stands : Bool) (read : Read T) (c : Cursor) → (stands ≡ true → Of (There w c) read)
    → Of (There (pick stands w 0) c) (field_if stands read c)
unfolding field_if pick
if_there w true (Ok f) c h = record { holds = (h refl).holds }
if_there w true (Err r) c h = absurd (h refl).holds
if_there w false read c h = record { holds = omega arith }

within : {s : List ℕ} {n : ℕ} {c c' : Cursor} {whole w : ℕ} → Small s n c whole → c.at ≤ c'.at
    → c'.at + w ≤ c.at + whole → Small s n c' w
within h a b = record { inside = omega arith; below = λ o p q. h.below o (omega arith) (omega arith) }

edge_there : (s : List ℕ) (n : ℕ) (c : Cursor) → Small s n c 3 → Of (There 3 c) (edge_field s n c)
unfolding edge_field
edge_there s n c h =
    after_field (word_there s c (omega (arith, h.inside))) (λ q f. absurd f) λ v₁ c₁ p₁.
    after_field (variable_there s n c₁ (within h (omega arith) (omega arith))) (λ q f. absurd f) λ v₂ c₂ p₂.
    record { holds = omega arith }

label_there : (s : List ℕ) (n : ℕ) (c : Cursor) → Small s n c 2 → Of (There 2 c) (label_field s c)
unfolding label_field
label_there s n c h =
    after_field (word_there s c h.inside) (λ q f. absurd f) λ v next p. record { holds = p }

-- so are the fields behind a subject, where the bytes that their map asks for are below n
fields_there : (s : List ℕ) (n map : ℕ) (i : Variable) (c : Cursor) → Small s n c (fields_width map)
    → Of (There (fields_width map) c) (fields_at s n map i c)
unfolding fields_at fields_width
fields_there s n map i c h =
    after_field (if_there 1 (has 1 map) _ c λ e. variable_there s n c (within h (omega arith) (omega (arith, picked (has 1 map) 1 e))))
    (λ q f. absurd f) λ v₁ c₁ p₁.
    after_field (if_there 1 (has 2 map) _ c₁ λ e. variable_there s n c₁ (within h (omega arith) (omega (arith, picked (has 2 map) 1 e))))
    (λ q f. absurd f) λ v₂ c₂ p₂.
    after_field (if_there 3 (has 4 map) _ c₂ λ e. edge_there s n c₂ (within h (omega arith) (omega (arith, picked (has 4 map) 3 e))))
    (λ q f. absurd f) λ v₃ c₃ p₃.
    after_field (if_there 2 (has 8 map) _ c₃ λ e. label_there s n c₃ (within h (omega arith) (omega (arith, picked (has 8 map) 2 e))))
    (λ q f. absurd f) λ v₄ c₄ p₄.
    record { holds = omega arith }

-- and an item of a lawful map that has no path
item_there : (place : Place) (s : List ℕ) (n m : ℕ) (c : Cursor) → bad_item_map place m ≡ false → has 16 m ≡ false
    → get_or s c.at 0 ≡ m
    → Small s n (cursor (c.at + 1)) (suc (fields_width m)) → Of (There (width m) c) (item_at place s n c)
unfolding item_at map_field byte_field ends pick field_if width
item_there place s n m c lawful no_path is h =
    rw (not_less (length s) (c.at + 1) (omega arith), is, lawful, no_path)
    (after_field (variable_there s n (cursor (c.at + 1)) (within h (omega arith) (omega arith)))
    (λ q f. absurd f) λ i c₂ p.
    after_field (fields_there s n m i c₂ (within h (omega arith) (omega arith)))
    (λ q f. absurd f) λ x c₃ p'. record { holds = omega (arith, p, p') })

-- so many features that lie inside the sheet
abbrev EndsAt : ℕ → Cursor → Result Cursor Refusal → Type 0
EndsAt w c (Ok next) = next.at ≡ c.at + w
EndsAt w c (Err r) = ⊥

features_there : (s : List ℕ) (k : ℕ) (c : Cursor) → c.at + 2 * k ≤ length s → Of (EndsAt (2 * k) c) (features_end k s c)
unfolding run_end
features_there s zero c h = record { holds = omega arith }
features_there s (suc k) c h =
    after_field (word_there s c (omega (arith, h))) (λ q f. absurd f) λ f next p.
    as_value (features_there s k next (omega (arith, p))) (λ q f. absurd f) λ end e. omega (arith, p, e)

lawful_path : bad_path_length 8 ≡ false
unfolding bad_path_length same less
lawful_path = refl

path_there : (s : List ℕ) (c : Cursor) → c.at + 17 ≤ length s → get_or s c.at 0 ≡ 8 → Of (There 17 c) (path_field s c)
unfolding path_field count_field byte_field ends pick
path_there s c h is =
    rw (not_less (length s) (c.at + 1) (omega arith), is, lawful_path)
    (after_value (features_there s 8 (cursor (c.at + 1)) (omega arith)) (λ q f. absurd f) λ end e.
    record { holds = omega (arith, e) })

lawful_question : bad_item_map Place.Question 16 ≡ false
unfolding bad_item_map several_bits same less
lawful_question = refl

-- a question for a path of eight features of variable 0
question_there : (s : List ℕ) (n : ℕ) (c : Cursor) → c.at + 19 ≤ length s → get_or s c.at 0 ≡ 16 → 0 < n
    → get_or s (c.at + 1) 0 ≡ 0 → get_or s (c.at + 2) 0 ≡ 8 → Of (There 19 c) (item_at Place.Question s n c)
unfolding item_at map_field byte_field ends pick field_if fields_at variable_field bad_variable has same
question_there s n c h map_is few subject_is count_is =
    let two : c.at + 1 + 1 ≡ c.at + 2 = omega arith in
    rw (
      not_less (length s) (c.at + 1) (omega arith),
      map_is,
      lawful_question,
      not_less (length s) (c.at + 1 + 1) (omega arith),
      subject_is,
      is_less 0 n few,
    )
    (after_field (if_there 17 true _ _ λ e. path_there s (cursor (c.at + 1 + 1)) (omega arith) (rw two count_is))
    (λ q f. absurd f) λ path next p.
    record { holds = omega (arith, p) })

-- so many items of w bytes, one behind the other, and where they end
abbrev Apart : Place → List ℕ → ℕ → ℕ → ℕ → Cursor → Type 0
Apart place s n w k c = (j : ℕ) (at : Cursor) → j < k → at.at ≡ c.at + j * w → Of (There w at) (item_at place s n at)

record Ends (place : Place) (s : List ℕ) (n w k : ℕ) (c : Cursor) : Type 0 where
  end : Cursor
  is : items_end k place s n c ≡ Ok end
  reaches : end.at ≡ c.at + k * w

items_there : (place : Place) (s : List ℕ) (n w k : ℕ) (c : Cursor) → Apart place s n w k c → Ends place s n w k c
unfolding run_end
items_there place s n w zero c there = record { end = c; is = refl; reaches = omega arith }
items_there place s n w (suc k) c there = first (item_at place s n c) refl (items_there place s n w k)
  where
    on : (f : Field Item) → item_at place s n c ≡ Ok f → f.next.at ≡ c.at + w → Ends place s n w k f.next
        → Ends place s n w (suc k) c
    on f e ahead later = record { end = later.end; is = rw e later.is; reaches = omega (arith, suc-mul k w, later.reaches) }

    first : (r : Read Item) → item_at place s n c ≡ r → ((c : Cursor) → Apart place s n w k c → Ends place s n w k c)
        → Ends place s n w (suc k) c
    first (Ok f) e later =
        let ahead : f.next.at ≡ c.at + w = told (there 0 c (omega arith) (omega arith)) e in
        on f e ahead
        (later f.next λ j at h is. there (suc j) at (omega arith) (omega (arith, suc-mul j w, is, ahead)))
    first (Err q) e later = absurd (told (there 0 c (omega arith) (omega arith)) e)

-- its bytes: the header 7 128 4 0 4 0, from 6 on the map 15 at every ninth byte, from 9222 on at every nineteenth the map
-- 16, a subject and the count 8, and else 0
head : ℕ → ℕ
head zero = 7
head (suc zero) = 128
head (suc (suc zero)) = 4
head (suc (suc (suc zero))) = 0
head (suc (suc (suc (suc zero)))) = 4
head (suc (suc (suc (suc (suc o))))) = 0

asking : ℕ → ℕ
asking zero = 16
asking (suc zero) = 0
asking (suc (suc zero)) = 8
asking (suc (suc (suc o))) = 0

longest_byte : ℕ → ℕ
longest_byte o =
    pick (less o 6) (head o)
    (pick (less o 9222) (pick (same ((o - 6) % 9) 0) 15 0) (asking ((o - 9222) % 19)))

record_map : (j : ℕ) → j < 1024 → longest_byte (6 + j * 9) ≡ 15
unfolding longest_byte
record_map j h =
    sym (passed _ _ _ (not_less _ _ (omega arith)) (chosen _ _ _ (is_less _ _ (omega arith))
    (chosen _ _ _ (is_same _ _ (omega arith)) refl)))

question_byte : (j k : ℕ) → k < 19 → longest_byte (9222 + j * 19 + k) ≡ asking k
unfolding longest_byte
question_byte j k h =
    let which : (9222 + j * 19 + k - 9222) % 19 ≡ k = omega arith in
    sym (passed _ _ _ (not_less _ _ (omega arith)) (passed _ _ _ (not_less _ _ (omega arith)) (ap asking (sym which))))

small_byte : (o : ℕ) → 6 ≤ o → o < 9222 → Of (λ v. v < 128) (longest_byte o)
unfolding longest_byte
small_byte o h h' =
    either _ _ _ (λ e. let b = less_true o 6 e in absurd (omega arith)) λ e.
    either _ _ _ (λ e. either _ _ _ (λ e. record { holds = omega arith }) (λ e. record { holds = omega arith }))
    (λ e. let b = less_false o 9222 e in absurd (omega arith))

lawful_record : bad_item_map Place.Record 15 ≡ false
unfolding bad_item_map same less
lawful_record = refl

-- its header passes each test
bad_map : bad_header_map 7 ≡ false
unfolding bad_header_map has same less
bad_map = refl

bad_variables : bad_variable_count 128 ≡ false
unfolding bad_variable_count same less
bad_variables = refl

bad_count_lem : bad_count 1024 ≡ false
unfolding bad_count less
bad_count_lem = refl

full : word 4 0 ≡ 1024
unfolding word
full = refl

has_records : has 2 7 ≡ true
unfolding has same
has_records = refl

has_questions : has 4 7 ≡ true
unfolding has same
has_questions = refl

module _ (s : List ℕ) (long : length s ≡ longest) (byte : (o : ℕ) → o < longest → get_or s o 0 ≡ longest_byte o) where
  small : (c : Cursor) (w : ℕ) → 6 ≤ c.at → c.at + w ≤ 9222 → Small s 128 c w
  small c w a b =
      record {
        inside = omega arith;
        below = λ o p q. rw (byte o (omega arith)) (small_byte o (omega arith) (omega arith)).holds;
      }

  records : Ends Place.Record s 128 9 1024 (cursor 6)
  unfolding width fields_width pick has same
  records =
      items_there Place.Record s 128 9 1024 (cursor 6) λ j at h e.
      item_there Place.Record s 128 15 at lawful_record refl (byte at.at (omega arith) ∙ rw e (record_map j h))
      (small (cursor (at.at + 1)) 8 (omega arith) (omega arith))

  questions : (c : Cursor) → c.at ≡ 9222 → Ends Place.Question s 128 19 1024 c
  unfolding asking
  questions c begin =
      items_there Place.Question s 128 19 1024 c λ j at h e.
      let asked : (k : ℕ) → k < 19 → get_or s (at.at + k) 0 ≡ asking k = λ k b.
      let lies : at.at + k ≡ 9222 + j * 19 + k = omega (arith, begin, e) in
      byte (at.at + k) (omega arith) ∙ ap longest_byte lies ∙ question_byte j k b in
      let here : at.at + 0 ≡ at.at = omega arith in
      question_there s 128 at (omega arith) (rw here at (asked 0 (omega arith))) (omega arith) (asked 1 (omega arith)) (asked 2 (omega arith))

  in_head : (o : ℕ) → o < 6 → get_or s o 0 ≡ head o
  unfolding longest_byte
  in_head o h = byte o (omega arith) ∙ sym (chosen _ _ _ (is_less _ _ h) refl)

  inside : (o : ℕ) → o ≤ longest → less (length s) o ≡ false
  inside o h = not_less _ _ (omega arith)

  header_there : header_of s ≡ Ok (header 7 128 1024 1024 (cursor 6))
  unfolding header_of header_map variable_count count_if field_if header_count byte_field word_field ends head pick
  header_there =
      rw (
        inside 1 (omega arith),
        in_head 0 (omega arith),
        bad_map,
        inside 2 (omega arith),
        in_head 1 (omega arith),
        bad_variables,
        has_records,
        inside 4 (omega arith),
        in_head 2 (omega arith),
        in_head 3 (omega arith),
        full,
        bad_count_lem,
        has_questions,
        inside 6 (omega arith),
        in_head 4 (omega arith),
        in_head 5 (omega arith),
        full,
        bad_count_lem,
      )
      refl

  accepted_lem : (asked : Cursor) × (read_sheet s ≡ Ok (accepted (header 7 128 1024 1024 (cursor 6)) asked))
  unfolding read_sheet body_of remain pick
  accepted_lem =
      let r = records in
      let q = questions r.end r.reaches in
      (r.end, rw (header_there, r.is, q.is, not_less q.end.at (length s) (omega arith)) refl)

-- the longest sheet
pub longest_sheet : List ℕ
longest_sheet = map longest_byte (range_with_len 0 longest)

pub longest_length : length longest_sheet ≡ longest
unfolding longest_sheet
longest_length = length-map-range_with_len longest_byte 0 longest

pub longest_accepted : (asked : Cursor)
    × (read_sheet longest_sheet ≡ Ok (accepted (header 7 128 1024 1024 (cursor 6)) asked))
unfolding longest_sheet
longest_accepted =
    accepted_lem _ longest_length (λ o h. get_or-map-range_with_len longest_byte 0 longest o o 0 h (omega arith))
