-- What a header that was read is: its counts within their limits, its end within six bytes.
use Prim.Native.Nat.{ℕ, ◌≤◌}
use Rattle.std.specs.Prelude.{Option, Some, None, unwrap_or, Result, Ok, Err}
use mathlib.Core.Bool.{Bool, false}
use mathlib.Core.List.{List}
use mathlib.Core.Path.{◌≡◌}
use lib.ListN.{length}
use native.Mathlib.Omega.{arith}
use Rattle.std.proofs.lemmas.Bool.{or_parts}
use Rattle.fields.specs.declared.numbers.Cursor.{Cursor}
use Rattle.fields.specs.declared.refusals.Refusal.{Refusal}
use Rattle.fields.specs.Fields.{cursor}
use Rattle.fields.specs.Refusals.{bad_header_map, bad_variable_count, bad_count}
use Rattle.fields.specs.Limits.{most_variables, most_items}
use Rattle.fields.specs.Tests.{pick, has, same, less}
use Rattle.fields.proofs.Chains.{Of, either, after_field}
use Rattle.fields.proofs.Choice.{less_false, same_false, pick_most}
use Rattle.fields.proofs.Extents.{FieldSpans, Held, Where, if_spans, word_spans, judged_spans}
use Rattle.sheet.specs.declared.headers.Header.{Header}
use Rattle.sheet.specs.Headers.{header_map, variable_count, count_field, count_if, header_of}

pub record Heads (s : List ℕ) (h : Header) : Type 0 where
  pub some : 1 ≤ h.variables
  pub few : h.variables ≤ most_variables
  pub records : h.records ≤ most_items
  pub questions : h.questions ≤ most_items
  pub near : h.first.at ≤ 6
  pub inside : h.first.at ≤ length s

abbrev pub HeaderSpans : List ℕ → Result Header Refusal → Type 0
HeaderSpans s (Ok h) = Heads s h
HeaderSpans s (Err r) = r.at ≤ 6

count_spans : (s : List ℕ) (c : Cursor) → Of (FieldSpans s 2 c (λ v. v ≤ most_items)) (count_field s c)
unfolding count_field bad_count
count_spans s c =
    after_field (word_spans s c) (λ q h. record { holds = h }) λ v next h.
    either _ _ _ (λ e. record { holds = omega arith }) (λ e. record { holds = (h.0, less_false _ _ e) })

pub count_if_spans : (s : List ℕ) (c : Cursor) (stands : Bool)
    → Of (FieldSpans s (pick stands 2 0) c (Where stands (λ v. v ≤ most_items))) (count_if stands s c)
unfolding count_if
count_if_spans s c stands = if_spans stands (count_field s c) (count_spans s c)

few_items : (count : Option ℕ) → Held (λ v. v ≤ most_items) count → unwrap_or count 0 ≤ most_items
few_items (Some v) h = h
few_items None h = omega arith

counted : (n : ℕ) → bad_variable_count n ≡ false → (1 ≤ n) × (n ≤ most_variables)
unfolding bad_variable_count
counted n e =
    let parts = or_parts (same n 0) (less most_variables n) e in
    let some = same_false n 0 parts.0 in
    let few = less_false most_variables n parts.1 in
    (omega arith, few)

pub header_spans : (s : List ℕ) → Of (HeaderSpans s) (header_of s)
unfolding header_of header_map variable_count
header_spans s =
    after_field (judged_spans s (cursor 0) bad_header_map _ (omega arith))
    (λ q h. record { holds = omega arith }) λ map c₁ p₁.
    after_field (judged_spans s c₁ bad_variable_count _ (omega arith))
    (λ q h. record { holds = omega arith }) λ n c₂ p₂.
    after_field (count_if_spans s c₂ (has 2 map))
    (λ q h. record { holds = omega (arith, pick_most (has 2 map) 2) }) λ r c₃ p₃.
    after_field (count_if_spans s c₃ (has 4 map))
    (λ q h. record { holds = omega (arith, pick_most (has 2 map) 2, pick_most (has 4 map) 2) }) λ k c₄ p₄.
    let n_is = counted n p₂.1 in
    record {
      holds = record {
        some = n_is.0;
        few = n_is.1;
        records = few_items r p₃.1.fit;
        questions = few_items k p₄.1.fit;
        near = omega (arith, pick_most (has 2 map) 2, pick_most (has 4 map) 2);
        inside = p₄.0.inside (p₃.0.inside p₂.2);
      };
    }
