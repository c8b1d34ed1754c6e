-- What stands behind the first 28,679 bytes of an input cannot change how it is read: every field that is looked for
-- lies in the first 28,678, and one byte more tells that something follows.
use Rattle.std.specs.Prelude.{Result, Ok, Err}
use Prim.Native.Nat.{ℕ, zero, suc, ◌+◌, ◌*◌, ◌≤◌, ◌<◌}
use mathlib.Core.Bool.{Bool, true, false}
use mathlib.Core.List.{List}
use mathlib.Core.Logic.{⊎_elim}
use mathlib.Core.Path.{◌≡◌, refl, ap, ◌∙◌}
use lib.ListN.{length, get_or, take}
use native.Mathlib.Nat.{suc-mul}
use native.Mathlib.Omega.{arith}
use Rattle.std.proofs.lemmas.Bool.{cases_lt}
use Rattle.std.proofs.lemmas.List.{length-take-le, get_or-take, take_all}
use Rattle.fields.specs.declared.numbers.Cursor.{Cursor}
use Rattle.fields.specs.declared.numbers.Variable.{Variable}
use Rattle.fields.specs.declared.refusals.Place.{Place}
use Rattle.fields.specs.declared.refusals.Refusal.{Refusal}
use Rattle.fields.specs.Fields.{Read, cursor, found, then_value, then_field, judged}
use Rattle.fields.specs.Fields.{byte_field, word_field, variable_field, field_if, run_end}
use Rattle.fields.specs.Refusals.{ends, remain}
use Rattle.fields.specs.Tests.{pick, has}
use Rattle.fields.proofs.Chains.{Of}
use Rattle.fields.proofs.Choice.{is_less, not_less, pick_most, picked}
use Rattle.fields.proofs.Extents.{judged_spans, if_spans, word_spans, variable_spans}
use Rattle.sheet.specs.declared.headers.Header.{Header}
use Rattle.sheet.specs.Headers.{header_map, variable_count, count_field, count_if, header_of}
use Rattle.sheet.proofs.Heads.{Heads, header_spans, count_if_spans}
use Rattle.items.specs.Items.{map_field, fields_width, width, most, edge_field, label_field, fields_at, item_at, items_end}
use Rattle.items.specs.Paths.{path, count_field as path_count, features_end, path_field}
use Rattle.items.proofs.Filled.{edge_spans, label_spans, fields_span}
use Rattle.items.proofs.PathFields.{few_features, path_if_spans}
use Rattle.items.proofs.Lawful.{width_most, item_spans, most_least}
use Rattle.items.proofs.Runs.{run_spans}
use Rattle.sheet.specs.declared.whole.TheConstants.{LONGEST_SHEET}
use Rattle.sheet.specs.declared.whole.Accepted.{Accepted}
use Rattle.sheet.specs.Sheets.{body_of, read_sheet, longest}
use Rattle.sheet.proofs.Theorems.{accepted_short}

-- two chains off the same answer are the same where what follows is: Q is what is known of the answer
module _ {A : Type 0} (refused : Refusal → A) where
  same_field : {T : Type 0} {Q : Read T → Type 0} {r r' : Read T} {f g : T → Cursor → A} → r ≡ r' → Of Q r
      → ((v : T) (c : Cursor) → Q (found v c) → f v c ≡ g v c) → then_field r refused f ≡ then_field r' refused g
  same_field {r = (Ok x)} e h on = rw (← e) (on x.value x.next h.holds)
  same_field {r = (Err q)} e h on = rw (← e) refl

  same_value : {T : Type 0} {Q : Result T Refusal → Type 0} {r r' : Result T Refusal} {f g : T → A} → r ≡ r' → Of Q r
      → ((x : T) → Q (Ok x) → f x ≡ g x) → then_value r refused f ≡ then_value r' refused g
  same_value {r = (Ok x)} e h on = rw (← e) (on x h.holds)
  same_value {r = (Err q)} e h on = rw (← e) refl

-- and so are two fields where their bit stands
if_alike : {T : Type 0} (stands : Bool) (r r' : Read T) (c : Cursor) → (stands ≡ true → r ≡ r')
    → field_if stands r c ≡ field_if stands r' c
unfolding field_if pick
if_alike true r r' c h = rw (h refl) refl
if_alike false r r' c h = refl

-- two inputs of m bytes or more that begin with the same m
pub record Alike (m : ℕ) (s u : List ℕ) : Type 0 where
  pub first_long : m ≤ length s
  pub second_long : m ≤ length u
  pub begins : (k : ℕ) → k < m → get_or s k 0 ≡ get_or u k 0

-- what is looked for in those m bytes is read alike
module _ {m : ℕ} {s u : List ℕ} (alike : Alike m s u) where
  byte_alike : (c : Cursor) → c.at + 1 ≤ m → byte_field s c ≡ byte_field u c
  unfolding byte_field ends pick
  byte_alike c h =
      rw (not_less (length s) (c.at + 1) (omega arith), not_less (length u) (c.at + 1) (omega arith))
      (rw (alike.begins c.at (omega arith)) refl)

  word_alike : (c : Cursor) → c.at + 2 ≤ m → word_field s c ≡ word_field u c
  unfolding word_field ends pick
  word_alike c h =
      rw (not_less (length s) (c.at + 2) (omega arith), not_less (length u) (c.at + 2) (omega arith))
      (rw (alike.begins c.at (omega arith), alike.begins (c.at + 1) (omega arith)) refl)

  variable_alike : (n : ℕ) (c : Cursor) → c.at + 1 ≤ m → variable_field s n c ≡ variable_field u n c
  unfolding variable_field
  variable_alike n c h = rw (byte_alike c h) refl

  edge_alike : (n : ℕ) (c : Cursor) → c.at + 3 ≤ m → edge_field s n c ≡ edge_field u n c
  unfolding edge_field
  edge_alike n c h =
      same_field _ (word_alike c (omega arith)) (word_spans s c) λ f c₁ p₁.
      same_field _ (variable_alike n c₁ (omega arith)) (variable_spans s c₁ n) λ j c₂ p₂. refl

  label_alike : (c : Cursor) → c.at + 2 ≤ m → label_field s c ≡ label_field u c
  unfolding label_field
  label_alike c h = rw (word_alike c h) refl

  fields_alike : (n map : ℕ) (i : Variable) (c : Cursor) → c.at + fields_width map ≤ m
      → fields_at s n map i c ≡ fields_at u n map i c
  unfolding fields_at fields_width
  fields_alike n map i c h =
      same_field _ (if_alike (has 1 map) _ _ c λ e. variable_alike n c (omega (arith, picked (has 1 map) 1 e)))
      (if_spans (has 1 map) _ (variable_spans s c n)) λ v₁ c₁ p₁.
      same_field _ (if_alike (has 2 map) _ _ c₁ λ e. variable_alike n c₁ (omega (arith, picked (has 2 map) 1 e)))
      (if_spans (has 2 map) _ (variable_spans s c₁ n)) λ v₂ c₂ p₂.
      same_field _ (if_alike (has 4 map) _ _ c₂ λ e. edge_alike n c₂ (omega (arith, picked (has 4 map) 3 e)))
      (if_spans (has 4 map) _ (edge_spans s n c₂)) λ v₃ c₃ p₃.
      same_field _ (if_alike (has 8 map) _ _ c₃ λ e. label_alike c₃ (omega (arith, picked (has 8 map) 2 e)))
      (if_spans (has 8 map) _ (label_spans s c₃)) λ v₄ c₄ p₄. refl

  features_alike : (k : ℕ) (c : Cursor) → c.at + 2 * k ≤ m → features_end k s c ≡ features_end k u c
  unfolding run_end
  features_alike zero c h = refl
  features_alike (suc k) c h =
      same_field _ (word_alike c (omega arith)) (word_spans s c) λ f next p.
      features_alike k next (omega (arith, p.0.reaches))

  path_alike : (c : Cursor) → c.at + 17 ≤ m → path_field s c ≡ path_field u c
  unfolding path_field path_count
  path_alike c h =
      same_field _ (ap (judged _ _) (byte_alike c (omega arith))) (judged_spans s c _ _ (omega arith)) λ count first p.
      let few = few_features count p.1 in
      ap (λ ends. then_value ends Err λ end. found (path count first) end)
      (features_alike count first (omega (arith, few, p.0.reaches)))

  item_alike : (place : Place) (n : ℕ) (c : Cursor) → c.at + most place ≤ m → item_at place s n c ≡ item_at place u n c
  unfolding item_at map_field width
  item_alike place n c h =
      same_field _ (ap (judged _ _) (byte_alike c (omega (arith, most_least place))))
      (judged_spans s c _ _ (omega arith)) λ map c₁ p₁.
      let fits = width_most place map p₁.1 in
      same_field _ (variable_alike n c₁ (omega arith)) (variable_spans s c₁ n) λ i c₂ p₂.
      same_field _ (fields_alike n map i c₂ (omega arith)) (fields_span s n map i c₂) λ x c₃ p₃.
      same_field _ (if_alike (has 16 map) _ _ c₃ λ e. path_alike c₃ (omega (arith, picked (has 16 map) 17 e, p₃.span.reaches)))
      (path_if_spans s (has 16 map) c₃) λ path c₄ p₄. refl

  items_alike : (place : Place) (n left : ℕ) (c : Cursor) → c.at + left * most place ≤ m
      → items_end left place s n c ≡ items_end left place u n c
  unfolding run_end
  items_alike place n zero c h = refl
  items_alike place n (suc left) c h =
      let step = suc-mul left (most place) in
      same_field _ (item_alike place n c (omega arith)) (item_spans place s n c) λ x next p.
      items_alike place n left next (omega (arith, p.near))

  count_if_alike : (stands : Bool) (c : Cursor) → c.at + pick stands 2 0 ≤ m → count_if stands s c ≡ count_if stands u c
  unfolding count_if count_field
  count_if_alike stands c h =
      if_alike stands _ _ c λ e. rw (word_alike c (omega (arith, picked stands 2 e))) refl

  header_alike : 6 ≤ m → header_of s ≡ header_of u
  unfolding header_of header_map variable_count
  header_alike b =
      same_field _ (ap (judged _ _) (byte_alike (cursor 0) (omega arith)))
      (judged_spans s (cursor 0) _ _ (omega arith)) λ map c₁ p₁.
      same_field _ (ap (judged _ _) (byte_alike c₁ (omega arith)))
      (judged_spans s c₁ _ _ (omega arith)) λ n c₂ p₂.
      let two = pick_most (has 2 map) 2 in
      same_field _ (count_if_alike (has 2 map) c₂ (omega arith)) (count_if_spans s c₂ (has 2 map)) λ r c₃ p₃.
      let more = pick_most (has 4 map) 2 in
      same_field _ (count_if_alike (has 4 map) c₃ (omega arith)) (count_if_spans s c₃ (has 4 map)) λ k c₄ p₄. refl

  -- the last question ends at the longest or before, so that something follows in both
  body_alike : (h : Header) → Heads s h → longest < m → body_of s h ≡ body_of u h
  unfolding body_of remain pick
  body_alike h p b =
      same_value _ (items_alike Place.Record h.variables h.records h.first (omega arith))
      (run_spans Place.Record s h.variables h.records h.first) λ asked r.
      same_value _ (items_alike Place.Question h.variables h.questions asked (omega arith))
      (run_spans Place.Question s h.variables h.questions asked) λ end r'.
      rw (is_less end.at (length s) (omega arith), is_less end.at (length u) (omega arith)) refl

  pub read_alike : longest < m → read_sheet s ≡ read_sheet u
  unfolding read_sheet
  read_alike b = same_value _ (header_alike (omega arith)) (header_spans s) λ h p. body_alike h p b

alike_taken : (m : ℕ) (s : List ℕ) → m ≤ length s → Alike m (take m s) s
alike_taken m s h =
    record {
      first_long = omega (arith, length-take-le m s h);
      second_long = h;
      begins = λ k b. get_or-take m s k 0 b;
    }

-- one byte more than the longest sheet has, or more, decide
pub beyond_any : (m : ℕ) (s : List ℕ) → longest < m → read_sheet (take m s) ≡ read_sheet s
beyond_any m s b =
    ⊎_elim (λ h. ap read_sheet (take_all m s (omega arith))) (λ h. read_alike (alike_taken m s h) b)
    (cases_lt (length s) m)

-- what stands behind the first 28,679 bytes is not read
pub beyond_unread : (s : List ℕ) → read_sheet (take (longest + 1) s) ≡ read_sheet s
beyond_unread s = beyond_any (longest + 1) s (omega arith)

-- a refusal is that of the first 28,679 bytes, so with its number and offset, and an accepted input has no more
pub beyond_refused : (s : List ℕ) (r : Refusal) → read_sheet s ≡ Err r
    → read_sheet (take (longest + 1) s) ≡ Err r
beyond_refused s r e = beyond_unread s ∙ e

pub beyond_accepted : (s : List ℕ) (a : Accepted) → read_sheet s ≡ Ok a
    → take (longest + 1) s ≡ s
beyond_accepted s a e = take_all (longest + 1) s (omega (arith, accepted_short s a e))

-- and that is what a program needs to read
pub longest_agrees : LONGEST_SHEET ≡ longest
longest_agrees = refl
