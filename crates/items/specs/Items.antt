-- Records and questions: one definition of an item, told its place.
use Rattle.std.specs.Prelude.{ℕ, ◌+◌, List, Option, None, Result, Err}
use Rattle.fields.specs.declared.numbers.Cursor.{Cursor}
use Rattle.fields.specs.declared.numbers.Label.{Label}
use Rattle.fields.specs.declared.numbers.Variable.{Variable}
use Rattle.fields.specs.declared.refusals.Place.{Place}
use Rattle.fields.specs.declared.refusals.Refusal.{Refusal}
use Rattle.fields.specs.Fields.{Read, feature, label, found, then_field}
use Rattle.fields.specs.Fields.{judged, byte_field, word_field, variable_field, field_if, run_end, run_of}
use Rattle.fields.specs.Refusals.{bad_item_map, item_map_refusal}
use Rattle.fields.specs.Tests.{pick, has}
use Rattle.items.specs.declared.items.Edge.{Edge}
use Rattle.items.specs.declared.items.Item.{Item}
use Rattle.items.specs.declared.items.Question.{Question}
use Rattle.items.specs.declared.paths.Path.{Path}
use Rattle.items.specs.Paths.{path_field}
use Rattle.items.specs.Questions.{question_of}

-- without a path, and with what stands for one
abbrev pub item : Variable → Option Variable → Option Variable → Option Edge → Option Label → Item
item i j partner out a =
    record { subject = i; target = j; partner = partner; edge = out; label = a; path = None }

abbrev pub with_path : Item → Option Path → Item
with_path x path =
    record {
      subject = x.subject;
      target = x.target;
      partner = x.partner;
      edge = x.edge;
      label = x.label;
      path = path;
    }

abbrev pub edge : ℕ → Variable → Edge
edge f child = record { feature = feature f; child = child }

unfoldable pub map_field : Place → List ℕ → Cursor → Read ℕ
map_field place s c = judged (bad_item_map place) (item_map_refusal c) (byte_field s c)

-- how many bytes an item of this map takes before its path: map, subject, target, partner, feature and child, label
unfoldable pub fields_width : ℕ → ℕ
fields_width map =
    pick (has 1 map) 1 0 + (pick (has 2 map) 1 0 + (pick (has 4 map) 3 0 + pick (has 8 map) 2 0))

unfoldable pub width : ℕ → ℕ
width map = 2 + fields_width map

-- the longest item of a place: a record with all four statements, a question for a path of eight features
abbrev pub most : Place → ℕ
most Place.Record = 9
most Place.Question = 19

unfoldable pub edge_field : List ℕ → ℕ → Cursor → Read Edge
edge_field s n c =
    then_field (word_field s c) Err λ f c'.
    then_field (variable_field s n c') Err λ child c''.
    found (edge f child) c''

unfoldable pub label_field : List ℕ → Cursor → Read Label
label_field s c = then_field (word_field s c) Err λ a next. found (label a) next

-- the fields behind the subject, by rising bit: target, partner, feature and child, label
unfoldable pub fields_at : List ℕ → ℕ → ℕ → Variable → Cursor → Read Item
fields_at s n map i c =
    then_field (field_if (has 1 map) (variable_field s n c) c) Err λ j c₁.
    then_field (field_if (has 2 map) (variable_field s n c₁) c₁) Err λ partner c₂.
    then_field (field_if (has 4 map) (edge_field s n c₂) c₂) Err λ out c₃.
    then_field (field_if (has 8 map) (label_field s c₃) c₃) Err λ a c₄.
    found (item i j partner out a) c₄

-- the item at c over n variables: its map, its subject, and the fields whose bits stand
unfoldable pub item_at : Place → List ℕ → ℕ → Cursor → Read Item
item_at place s n c =
    then_field (map_field place s c) Err λ map c₁.
    then_field (variable_field s n c₁) Err λ i c₂.
    then_field (fields_at s n map i c₂) Err λ x c₃.
    then_field (field_if (has 16 map) (path_field s c₃) c₃) Err λ path c₄.
    found (with_path x path) c₄

unfoldable pub question_at : List ℕ → ℕ → Cursor → Read Question
question_at s n c =
    then_field (item_at Place.Question s n c) Err λ x next. found (question_of x) next

-- where so many items from c on end
abbrev pub items_end : ℕ → Place → List ℕ → ℕ → Cursor → Result Cursor Refusal
items_end count place s n c = run_end count (item_at place s n) c

-- those items themselves
abbrev pub items_of : ℕ → Place → List ℕ → ℕ → Cursor → List Item
items_of count place s n c = run_of count (item_at place s n) c
