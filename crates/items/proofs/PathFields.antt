-- Where a path ends, and its features in eight places.
use Rattle.std.specs.Prelude.{is_some, Option, Some, None, Result, Ok, Err}
use Prim.Native.Nat.{ℕ, zero, suc, ◌+◌, ◌*◌, ◌≤◌}
use mathlib.Core.Bool.{Bool, true, false}
use mathlib.Core.List.{List}
use mathlib.Core.Path.{◌≡◌, refl}
use native.Mathlib.Omega.{arith}
use Rattle.std.proofs.lemmas.Bool.{or_parts}
use Rattle.fields.specs.declared.numbers.Cursor.{Cursor}
use Rattle.fields.specs.declared.refusals.Refusal.{Refusal}
use Rattle.fields.specs.Fields.{Read, field_if, run_end}
use Rattle.fields.specs.Limits.{most_features}
use Rattle.fields.specs.Refusals.{bad_path_length}
use Rattle.fields.specs.Tests.{same, pick}
use Rattle.fields.proofs.Chains.{Of, known, after_field, after_value, as_value}
use Rattle.fields.proofs.Choice.{less_false}
use Rattle.fields.proofs.Extents.{Spans, Held, join, nothing_spans, judged_spans, word_spans}
use Rattle.items.specs.declared.paths.Path.{Path}
use Rattle.items.specs.Paths.{count_field, features_end, path_field}

-- so many features take two bytes each
abbrev FeaturesSpan : List ℕ → ℕ → Cursor → Result Cursor Refusal → Type 0
FeaturesSpan s k c (Ok next) = Spans s (2 * k) c next
FeaturesSpan s k c (Err r) = r.at ≤ c.at + 2 * k

features_span : (s : List ℕ) (k : ℕ) (c : Cursor) → Of (FeaturesSpan s k c) (features_end k s c)
unfolding run_end
features_span s zero c = record { holds = nothing_spans s c }
features_span s (suc k) c =
    after_field (word_spans s c) (λ q h. record { holds = omega arith }) λ f next p.
    as_value (features_span s k next) (λ q h. omega (arith, p.0.reaches)) λ end h.
    record { reaches = omega (arith, p.0.reaches, h.reaches); inside = λ b. h.inside (p.0.inside b) }

-- a path has 1 to 8 features
pub few_features : (count : ℕ) → bad_path_length count ≡ false → count ≤ most_features
unfolding bad_path_length
few_features count e = less_false _ _ (or_parts (same count 0) _ e).1

-- how many bytes it takes: the count, and two for each feature
abbrev pub path_width : Option Path → ℕ
path_width (Some path) = 1 + 2 * path.count
path_width None = 0

-- a path of 1 to 8 features, which end at a cursor
pub record PathFits (s : List ℕ) (next : Cursor) (path : Path) : Type 0 where
  pub few : path.count ≤ most_features
  pub features : features_end path.count s path.first ≡ Ok next

abbrev PathSpans : List ℕ → Cursor → Read Path → Type 0
PathSpans s c (Ok f) = PathFits s f.next f.value × Spans s (1 + 2 * f.value.count) c f.next
PathSpans s c (Err r) = r.at ≤ c.at + 17

path_spans : (s : List ℕ) (c : Cursor) → Of (PathSpans s c) (path_field s c)
unfolding path_field count_field
path_spans s c =
    after_field (judged_spans s c bad_path_length _ (omega arith)) (λ q h. record { holds = omega arith }) λ k first p.
    let few = few_features k p.1 in
    after_value (known (features_span s k first)) (λ q h. record { holds = omega (arith, few, h.1, p.0.reaches) }) λ end h.
    record { holds = (record { few = few; features = h.0 }, join p.0 h.1) }

-- where its bit stands there is one
pub record PathIf (s : List ℕ) (stands : Bool) (c : Cursor) (path : Option Path) (next : Cursor) : Type 0 where
  pub is : is_some path ≡ stands
  pub fit : Held (PathFits s next) path
  pub span : Spans s (path_width path) c next
  pub near : next.at ≤ c.at + pick stands 17 0

abbrev pub PathIfSpans : List ℕ → Bool → Cursor → Read (Option Path) → Type 0
PathIfSpans s stands c (Ok f) = PathIf s stands c f.value f.next
PathIfSpans s stands c (Err r) = r.at ≤ c.at + pick stands 17 0

pub path_if_spans : (s : List ℕ) (stands : Bool) (c : Cursor) → Of (PathIfSpans s stands c) (field_if stands (path_field s c) c)
unfolding field_if pick
path_if_spans s stands c = go stands (path_field s c) (path_spans s c)
  where
    go : (stands : Bool) (read : Read Path) → Of (PathSpans s c) read → Of (PathIfSpans s stands c) (field_if stands read c)
    go false read h =
        record { holds = record { is = refl; fit = tt; span = nothing_spans s c; near = omega arith } }
    go true (Ok f) h =
        let p = h.holds in
        record { holds = record { is = refl; fit = p.0; span = p.1; near = omega (arith, p.0.few, p.1.reaches) } }
    go true (Err r) h = record { holds = h.holds }
