-- Where the fields behind an item's subject end, and what they hold.
use Rattle.std.specs.Prelude.{is_some, Ok, Err}
use Prim.Native.Nat.{ℕ, ◌+◌, ◌≤◌}
use mathlib.Core.List.{List}
use mathlib.Core.Path.{◌≡◌, refl}
use native.Mathlib.Omega.{arith}
use Rattle.fields.specs.declared.numbers.Cursor.{Cursor}
use Rattle.fields.specs.declared.numbers.Variable.{Variable}
use Rattle.fields.specs.Fields.{Read}
use Rattle.fields.specs.Tests.{has}
use Rattle.fields.proofs.Chains.{Of, after_field}
use Rattle.fields.proofs.Extents.{Spans, FieldSpans, Held, Any, Below, join, if_spans, word_spans, variable_spans}
use Rattle.items.specs.declared.items.Item.{Item}
use Rattle.items.specs.Items.{edge_field, label_field, fields_at, fields_width}

-- the fields behind the subject: it is the item's, each stands where its bit does, and each variable is below n
pub record Fills (s : List ℕ) (n map : ℕ) (i : Variable) (c : Cursor) (x : Item) (next : Cursor) : Type 0 where
  pub subject_is : x.subject ≡ i
  pub has_target : is_some x.target ≡ has 1 map
  pub has_partner : is_some x.partner ≡ has 2 map
  pub has_edge : is_some x.edge ≡ has 4 map
  pub has_label : is_some x.label ≡ has 8 map
  pub target : Held (Below n) x.target
  pub partner : Held (Below n) x.partner
  pub child : Held (λ out. Below n out.child) x.edge
  pub span : Spans s (fields_width map) c next

abbrev pub FieldsSpan : List ℕ → ℕ → ℕ → Variable → Cursor → Read Item → Type 0
FieldsSpan s n map i c (Ok f) = Fills s n map i c f.value f.next
FieldsSpan s n map i c (Err r) = r.at ≤ c.at + fields_width map

pub edge_spans : (s : List ℕ) (n : ℕ) (c : Cursor) → Of (FieldSpans s 3 c (λ out. Below n out.child)) (edge_field s n c)
unfolding edge_field
edge_spans s n c =
    after_field (word_spans s c) (λ q h. record { holds = omega arith }) λ f c₁ p.
    after_field (variable_spans s c₁ n) (λ q h. record { holds = omega arith }) λ j c₂ p'.
    record { holds = (join p.0 p'.0, p'.1) }

pub label_spans : (s : List ℕ) (c : Cursor) → Of (FieldSpans s 2 c Any) (label_field s c)
unfolding label_field
label_spans s c =
    after_field (word_spans s c) (λ q h. record { holds = h }) λ a next p. record { holds = p }

pub fields_span : (s : List ℕ) (n map : ℕ) (i : Variable) (c : Cursor)
    → Of (FieldsSpan s n map i c) (fields_at s n map i c)
unfolding fields_at fields_width
fields_span s n map i c =
    after_field (if_spans (has 1 map) _ (variable_spans s c n)) (λ q h. record { holds = omega arith }) λ v₁ c₁ p₁.
    after_field (if_spans (has 2 map) _ (variable_spans s c₁ n)) (λ q h. record { holds = omega arith }) λ v₂ c₂ p₂.
    after_field (if_spans (has 4 map) _ (edge_spans s n c₂)) (λ q h. record { holds = omega arith }) λ v₃ c₃ p₃.
    after_field (if_spans (has 8 map) _ (label_spans s c₃)) (λ q h. record { holds = omega arith }) λ v₄ c₄ p₄.
    record {
      holds = record {
        subject_is = refl;
        has_target = p₁.1.is;
        has_partner = p₂.1.is;
        has_edge = p₃.1.is;
        has_label = p₄.1.is;
        target = p₁.1.fit;
        partner = p₂.1.fit;
        child = p₃.1.fit;
        span = join p₁.0 (join p₂.0 (join p₃.0 p₄.0));
      };
    }
