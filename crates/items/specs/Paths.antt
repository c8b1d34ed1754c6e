-- The path of a question: a count, and that many features of two bytes.
use Rattle.std.specs.Prelude.{ℕ, zero, suc, List, [], ◌∷◌, get_or, Result, Err}
use Rattle.fields.specs.declared.numbers.Cursor.{Cursor}
use Rattle.fields.specs.declared.numbers.Feature.{Feature}
use Rattle.fields.specs.declared.refusals.Refusal.{Refusal}
use Rattle.fields.specs.Fields.{Read, feature, found, then_value, then_field, judged, byte_field, word_field}
use Rattle.fields.specs.Fields.{run_end, run_of}
use Rattle.fields.specs.Limits.{most_features}
use Rattle.fields.specs.Refusals.{bad_path_length, path_length_refusal}
use Rattle.items.specs.declared.paths.Path.{Path}

abbrev pub path : ℕ → Cursor → Path
path count first = record { count = count; first = first }

-- how many features follow
unfoldable pub count_field : List ℕ → Cursor → Read ℕ
count_field s c = judged bad_path_length (path_length_refusal c) (byte_field s c)

-- where so many features from c on end
abbrev pub features_end : ℕ → List ℕ → Cursor → Result Cursor Refusal
features_end count s c = run_end count (word_field s) c

unfoldable pub path_field : List ℕ → Cursor → Read Path
path_field s c =
    then_field (count_field s c) Err λ count first.
    then_value (features_end count s first) Err λ end.
    found (path count first) end

-- those features themselves
abbrev pub features_at : ℕ → List ℕ → Cursor → List ℕ
features_at count s c = run_of count (word_field s) c

-- as many places: features in their order, and the unused zero
unfoldable pub places : ℕ → List ℕ → List Feature
places zero fs = []
places (suc left) [] = feature 0 ∷ places left []
places (suc left) (f ∷ fs) = feature f ∷ places left fs

-- a path as it is handed on: eight places
unfoldable pub path_at : List ℕ → Cursor → ℕ → List Feature
path_at s c count = places most_features (features_at count s c)

-- the features of as many places, from place k on
unfoldable pub features_from : ℕ → ℕ → List Feature → List ℕ
features_from zero k path = []
features_from (suc left) k path = (get_or path k (feature 0)).0 ∷ features_from left (suc k) path

-- those of a path that is handed on
abbrev pub features_in : ℕ → List Feature → List ℕ
features_in count path = features_from count 0 path
