-- The features of a path in eight places: those that were read stand in front, and the others are zero.
use Rattle.std.specs.Prelude.{Ok, Err}
use Prim.Native.Nat.{ℕ, zero, suc, ◌+◌, ◌-◌, ◌<◌, ◌≤◌, min}
use mathlib.Core.List.{List, [], ◌∷◌, ◌++◌, append-nil, append_assoc}
use mathlib.Core.Logic.{⊎_elim}
use mathlib.Core.Path.{◌≡◌, refl, sym, ap, ap₂, ◌∙◌}
use lib.ListN.{length, get_or, set, length-append}
use lib.Seq.{get_or-append_seam}
use native.Mathlib.Omega.{arith}
use Rattle.std.proofs.lemmas.Bool.{cases_lt}
use Rattle.fields.specs.declared.fields.Field.{Field}
use Rattle.fields.specs.declared.numbers.Cursor.{Cursor}
use Rattle.fields.specs.declared.numbers.Feature.{Feature}
use Rattle.fields.specs.declared.refusals.Refusal.{Refusal}
use Rattle.fields.specs.Fields.{feature, word_field}
use Rattle.fields.specs.Limits.{most_features}
use Rattle.fields.proofs.Runs.{values_over, values_on, values_refused, run_count}
use Rattle.items.specs.Paths.{features_end, features_at, places, path_at, features_from, features_in}

-- one feature more
places_more : (left f : ℕ) (fs : List ℕ) → length fs < left
    → set (places left fs) (length fs) (feature f) ≡ places left (fs ++ (f ∷ []))
unfolding places
places_more zero f fs h = absurd (omega arith)
places_more (suc left) f [] h = refl
places_more (suc left) f (x ∷ fs) h = ap (λ xs. feature x ∷ xs) (places_more left f fs (omega arith))

-- for what stands behind as many there is no place
places_full : (left : ℕ) (fs rest : List ℕ) → left ≤ length fs → places left (fs ++ rest) ≡ places left fs
unfolding places
places_full zero fs rest h = refl
places_full (suc left) [] rest h = absurd (omega arith)
places_full (suc left) (x ∷ fs) rest h = ap (λ xs. feature x ∷ xs) (places_full left fs rest (omega arith))

-- of so many features from a cursor on, k stand in their places, and what is left starts at another
pub record Placed (s : List ℕ) (from : Cursor) (count k : ℕ) (path : List Feature) (at : Cursor) : Type 0 where
  pub done : List ℕ
  pub path_is : path ≡ places most_features done
  pub many : length done ≡ k
  pub rest : features_at count s from ≡ done ++ features_at (count - k) s at

module _ {s : List ℕ} {from : Cursor} {count : ℕ} where
  pub placed_start : Placed s from count 0 (places most_features []) from
  placed_start =
      let all : count ≡ count - 0 = omega arith in
      record { done = []; path_is = refl; many = refl; rest = ap (λ k. features_at k s from) all }

  module _ {k : ℕ} {path : List Feature} {at : Cursor} (p : Placed s from count k path at) where
    pub placed_on : {f : Field ℕ} → k < count → k < most_features → word_field s at ≡ Ok f
        → Placed s from count (k + 1) (set path k (feature f.value)) f.next
    placed_on {f} more room e =
        let less_one : count - k - 1 ≡ count - (k + 1) = omega arith in
        record {
          done = p.done ++ (f.value ∷ []);
          path_is = rw (p.path_is, ← p.many) (places_more most_features f.value p.done (omega (arith, p.many)));
          many = length-append p.done (f.value ∷ []) ∙ ap (λ n. n + 1) p.many;
          rest = p.rest ∙ ap (λ fs. p.done ++ fs) (values_on (word_field s) at (count - k) f (omega arith) e)
              ∙ sym (append_assoc p.done (f.value ∷ []) _)
              ∙ ap (λ n. (p.done ++ (f.value ∷ [])) ++ features_at n s f.next) less_one;
        }

    -- where nothing is left, those are all
    all_done : features_at (count - k) s at ≡ [] → p.done ≡ features_at count s from
    all_done e = sym (append-nil p.done) ∙ ap (λ fs. p.done ++ fs) (sym e) ∙ sym p.rest

    -- where the sheet ends before the next, those are all
    pub placed_cut : {r : Refusal} → word_field s at ≡ Err r → path ≡ path_at s from count
    unfolding path_at
    placed_cut {r} e =
        p.path_is ∙ ap (places most_features) (all_done (values_refused (word_field s) at (count - k) r e))

    -- and so they are where as many as there may be stand there
    pub placed_whole : min count most_features ≤ k → path ≡ path_at s from count
    unfolding path_at
    placed_whole h =
        ⊎_elim
        (λ many. p.path_is ∙ sym (places_full most_features p.done _ (omega (arith, p.many))) ∙ ap (places most_features) (sym p.rest))
        (λ few. p.path_is ∙ ap (places most_features) (all_done (values_over (word_field s) at (count - k) (omega arith))))
        (cases_lt most_features count)

-- one place on
pub features_on : (count k : ℕ) (path : List Feature) → k < count
    → features_from (count - k) k path ≡ (get_or path k (feature 0)).0 ∷ features_from (count - (k + 1)) (k + 1) path
unfolding features_from
features_on count k path h =
    let more : count - k ≡ suc (count - (k + 1)) = omega arith in
    let next : suc k ≡ k + 1 = omega arith in
    ap (λ left. features_from left k path) more
    ∙ ap (λ x. (get_or path k (feature 0)).0 ∷ features_from (count - (k + 1)) x path) next

-- what stands in a place
place_at : (left k : ℕ) (fs : List ℕ) → k < left → get_or (places left fs) k (feature 0) ≡ feature (get_or fs k 0)
unfolding places
place_at zero k fs h = absurd (omega arith)
place_at (suc left) zero [] h = refl
place_at (suc left) zero (f ∷ fs) h = refl
place_at (suc left) (suc k) [] h = place_at left k [] (omega arith)
place_at (suc left) (suc k) (f ∷ fs) h = place_at left k fs (omega arith)

placed_from : (left : ℕ) (done fs : List ℕ) → length done + length fs ≤ left
    → features_from (length fs) (length done) (places left (done ++ fs)) ≡ fs
unfolding features_from
placed_from left done [] h = refl
placed_from left done (f ∷ fs) h =
    let here : get_or (done ++ (f ∷ fs)) (length done) 0 ≡ f = get_or-append_seam done f fs 0 in
    let rest = placed_from left (done ++ (f ∷ [])) fs (omega (arith, h, length-append done (f ∷ []))) in
    ap₂ (λ x xs. x ∷ xs)
    (ap (λ x. x.0) (place_at left (length done) (done ++ (f ∷ fs)) (omega (arith, h))) ∙ here)
    (ap₂ (λ k xs. features_from (length fs) k (places left xs)) one_more (sym (append_assoc done (f ∷ []) fs)) ∙ rest)
  where
    one_more : suc (length done) ≡ length (done ++ (f ∷ []))
    one_more = omega (arith, length-append done (f ∷ []))

-- so a path that was read is handed on with its features
pub path_features : (s : List ℕ) (c end : Cursor) (count : ℕ) → count ≤ most_features → features_end count s c ≡ Ok end
    → features_in count (path_at s c count) ≡ features_at count s c
unfolding path_at
path_features s c end count few e =
    let many = run_count (word_field s) count c end e in
    ap (λ k. features_from k 0 (places most_features (features_at count s c))) (sym many)
    ∙ placed_from most_features [] (features_at count s c) (omega (arith, few, many))
