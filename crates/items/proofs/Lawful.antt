-- What an item that was read is: its map lawful, its end where its map says, its variables below n.
use Rattle.std.specs.Prelude.{is_some, Ok, Err}
use Prim.Native.Nat.{ℕ, ◌+◌, ◌/◌, ◌%◌, ◌≤◌, ◌<◌}
use mathlib.Core.Bool.{false}
use mathlib.Core.List.{List}
use mathlib.Core.Logic.{⊎_elim}
use mathlib.Core.Path.{◌≡◌}
use borrow.Author.Tests.{not-false}
use lib.ListN.{length, get_or}
use native.Mathlib.Omega.{arith}
use Rattle.std.proofs.lemmas.Bool.{or_cases, or_parts}
use Rattle.fields.specs.declared.numbers.Cursor.{Cursor}
use Rattle.fields.specs.declared.refusals.Place.{Place}
use Rattle.fields.specs.Refusals.{bad_item_map, several_bits}
use Rattle.fields.specs.Fields.{Read}
use Rattle.fields.specs.Tests.{less, same, pick, has}
use Rattle.fields.proofs.Chains.{Of, after_field}
use Rattle.fields.proofs.Choice.{same_true, not_same, less_false, pick_most}
use Rattle.fields.proofs.Extents.{Held, Below, judged_spans, variable_spans}
use Rattle.items.specs.declared.items.Item.{Item}
use Rattle.items.specs.Items.{map_field, item_at, fields_width, width, most}
use Rattle.items.proofs.Filled.{fields_span}
use Rattle.items.proofs.PathFields.{PathFits, path_width, path_if_spans}

-- a lawful question map is one bit
pub one_bit : {C : Type 0} (map : ℕ) → bad_item_map Place.Question map ≡ false
    → (map ≡ 1 → C) → (map ≡ 2 → C) → (map ≡ 4 → C) → (map ≡ 8 → C) → (map ≡ 16 → C) → C
unfolding bad_item_map several_bits
one_bit map e p₁ p₂ p₄ p₈ p₁₆ =
    let e₁ = not-false _ (or_parts (less 31 map) _ (or_parts (same map 0) _ e).1).1 in
    ⊎_elim (λ h. p₁ (same_true _ _ h)) (λ e₂.
    ⊎_elim (λ h. p₂ (same_true _ _ h)) (λ e₄.
    ⊎_elim (λ h. p₄ (same_true _ _ h)) (λ e₈.
    ⊎_elim (λ h. p₈ (same_true _ _ h)) (λ h. p₁₆ (same_true _ _ h))
    (or_cases (same map 8) _ e₈)) (or_cases (same map 4) _ e₄)) (or_cases (same map 2) _ e₂)) (or_cases (same map 1) _ e₁)

-- in a record no bit stands for a path
no_path : (map : ℕ) → bad_item_map Place.Record map ≡ false → has 16 map ≡ false
unfolding bad_item_map has same
no_path map e =
    let small = less_false 15 map (or_parts (less 15 map) _ (or_parts (same map 0) _ e).1).0 in
    not_same (map / 16 % 2) 1 (λ w. omega (arith, small, w))

-- no lawful map makes an item longer than the longest
width_record : (map : ℕ) → bad_item_map Place.Record map ≡ false → width map + pick (has 16 map) 17 0 ≤ 9
unfolding width fields_width pick
width_record map e =
    rw (no_path map e)
    (omega (arith, pick_most (has 1 map) 1, pick_most (has 2 map) 1, pick_most (has 4 map) 3, pick_most (has 8 map) 2))

width_question : (map : ℕ) → bad_item_map Place.Question map ≡ false → width map + pick (has 16 map) 17 0 ≤ 19
unfolding width fields_width pick has same
width_question map e =
    one_bit map e (λ m. rw m (omega arith)) (λ m. rw m (omega arith)) (λ m. rw m (omega arith)) (λ m. rw m (omega arith))
    (λ m. rw m (omega arith))

pub width_most : (place : Place) (map : ℕ) → bad_item_map place map ≡ false
    → width map + pick (has 16 map) 17 0 ≤ most place
width_most Place.Record map e = width_record map e
width_most Place.Question map e = width_question map e

-- an item that was read from c to next: by its map, which stands at c, and each field stands where its bit does
pub record Reads (place : Place) (s : List ℕ) (n : ℕ) (c : Cursor) (x : Item) (next : Cursor) : Type 0 where
  pub map : ℕ
  pub map_is : get_or s c.at 0 ≡ map
  pub lawful : bad_item_map place map ≡ false
  pub has_target : is_some x.target ≡ has 1 map
  pub has_partner : is_some x.partner ≡ has 2 map
  pub has_edge : is_some x.edge ≡ has 4 map
  pub has_label : is_some x.label ≡ has 8 map
  pub has_path : is_some x.path ≡ has 16 map
  pub reaches : next.at ≡ c.at + (width map + path_width x.path)
  pub near : next.at ≤ c.at + most place
  pub inside : next.at ≤ length s
  pub subject : x.subject.0 < n
  pub target : Held (Below n) x.target
  pub partner : Held (Below n) x.partner
  pub child : Held (λ out. Below n out.child) x.edge
  pub path : Held (PathFits s next) x.path

abbrev pub ItemSpans : Place → List ℕ → ℕ → Cursor → Read Item → Type 0
ItemSpans place s n c (Ok f) = Reads place s n c f.value f.next
ItemSpans place s n c (Err r) = r.at ≤ c.at + most place

pub most_least : (place : Place) → 5 ≤ most place
most_least Place.Record = omega arith
most_least Place.Question = omega arith

pub item_spans : (place : Place) (s : List ℕ) (n : ℕ) (c : Cursor) → Of (ItemSpans place s n c) (item_at place s n c)
unfolding item_at map_field width
item_spans place s n c =
    after_field (judged_spans s c (bad_item_map place) _ (omega arith))
    (λ q h. record { holds = omega (arith, most_least place) }) λ map c₁ m.
    let room = width_most place map m.1 in
    after_field (variable_spans s c₁ n) (λ q h. record { holds = omega (arith, most_least place) }) λ i c₂ v.
    after_field (fields_span s n map i c₂) (λ q h. record { holds = omega (arith, room) }) λ x c₃ f.
    after_field (path_if_spans s (has 16 map) c₃) (λ q h. record { holds = omega (arith, room, f.span.reaches) }) λ path c₄ p.
    record {
      holds = record {
        map = map;
        map_is = m.3;
        lawful = m.1;
        has_target = f.has_target;
        has_partner = f.has_partner;
        has_edge = f.has_edge;
        has_label = f.has_label;
        has_path = p.is;
        reaches = omega (arith, f.span.reaches, p.span.reaches);
        near = omega (arith, room, f.span.reaches, p.near);
        inside = p.span.inside (f.span.inside (v.0.inside m.2));
        subject = rw f.subject_is v.1;
        target = f.target;
        partner = f.partner;
        child = f.child;
        path = p.fit;
      };
    }
