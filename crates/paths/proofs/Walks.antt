-- A walk, one feature after another, and what is told where it ends.
use Prim.Native.Nat.{ℕ, ◌+◌, ◌-◌, ◌<◌, ◌≤◌}
use mathlib.Core.Bool.{Bool, false}
use mathlib.Core.List.{List}
use mathlib.Core.Path.{◌≡◌, sym, ap, ◌∙◌}
use native.Mathlib.Omega.{arith}
use Rattle.std.proofs.lemmas.Bool.{both_ways}
use Rattle.std.specs.Prelude.{get_or, Option, None, Some}
use Rattle.fields.specs.declared.numbers.Feature.{Feature}
use Rattle.fields.specs.declared.numbers.Label.{Label}
use Rattle.fields.specs.Fields.{feature}
use Rattle.fields.specs.Tests.{pick}
use Rattle.items.specs.declared.items.Statement.{Statement}
use Rattle.items.specs.Paths.{features_from, features_in}
use Rattle.items.proofs.Places.{features_on}
use Rattle.rules.specs.Connectives.{◌or◌}
use Rattle.rules.specs.declared.kinds.Kind.{Kind}
use Rattle.rules.specs.Facts.{Relation}
use Rattle.rules.specs.Tables.{facts}
use Rattle.rules.specs.Paths.{along, at_path, path_supported}
use Rattle.rules.proofs.Logic.{either_first, either_of, same_tests}
use Rattle.rules.proofs.Some.{below_by, below_one}
use Rattle.rules.proofs.Paths.{along_same, path_inside}
use Rattle.rows.specs.Rows.{in_row, has_some, Members}
use Rattle.rows.proofs.Members.{by_member, some_member}
use Rattle.selections.specs.declared.listed.Selection.{Selection}
use Rattle.selections.specs.Listed.{Listed}
use Rattle.selections.specs.Stands.{SelectionsStand}
use Rattle.labels.specs.declared.spread.Spread.{Spread}
use Rattle.labels.specs.Spreads.{spread_at, only_label}
use Rattle.answers.specs.Roots.{label_from}
use Rattle.answers.proofs.LabelThere.{Searched, label_there}
use Rattle.paths.specs.Sets.{Stepped}
use Rattle.paths.specs.Walks.{Walked, PathTold, LabelTold}

-- from the set of a row the features that are left lead where all of them lead from i
pub record Walking (n : ℕ) (r : Relation) (list : List Selection) (i : ℕ) (path : List Feature) (count x : ℕ) (row : List ℕ)
    : Type 0 where
  pub leads : (st : List Statement) → SelectionsStand n st (Listed list) → (k : ℕ)
      → along st r (features_from (count - x) x path) (in_row row) k ≡ at_path st r i (features_in count path) k

module _ {n : ℕ} {r : Relation} {list : List Selection} {i : ℕ} {path : List Feature} {count : ℕ} where
  pub walking_start : {empty row : List ℕ} → Members empty (λ k. false)
      → Members row (λ k. r Kind.Ordered k i or in_row empty k) → Walking n r list i path count 0 row
  unfolding at_path
  walking_start {empty} {row} none below =
      let all : count - 0 ≡ count = omega arith in
      record {
        leads = λ st stand k.
            ap (λ c. along st r (features_from c 0 path) (in_row row) k) all
            ∙ along_same st r (features_in count path)
            (λ y. below.bits y ∙ same_tests _ _ (λ p. either_of _ _ p (λ q. q) (λ q. absurd (both_ways _ (none.bits y) q)))
            (λ p. either_first _ p)) k;
      }

  module _ {x : ℕ} {row : List ℕ} (w : Walking n r list i path count x row) where
    pub walking_on : {next : List ℕ} → x < count → Stepped n r list (get_or path x (feature 0)).0 row next → Walking n r list i path count (x + 1) next
    walking_on {next} more stepped =
        record {
          leads = λ st stand k.
              along_same st r (features_from (count - (x + 1)) (x + 1) path) (stepped.told st stand).bits k
              ∙ ap (λ p. along st r p (in_row row) k) (sym (features_on count x path more))
              ∙ w.leads st stand k;
        }

    pub walking_whole : count ≤ x → Walked n r list i (features_in count path) row
    unfolding features_from
    walking_whole h =
        let none : 0 ≡ count - x = omega arith in
        record {
          told = λ st stand.
              record {
                bits = λ k. ap (λ c. along st r (features_from c x path) (in_row row) k) none ∙ w.leads st stand k;
              };
        }

module _ {n : ℕ} {t : List ℕ} {list : List Selection} {i : ℕ} {p : List ℕ} {row : List ℕ}
    (walked : Walked n (facts n t) list i p row) where
  -- a path is there where it leads to a variable
  pub path_told : {has : Bool} → has ≡ has_some row → PathTold n t list i p has
  unfolding path_supported
  path_told e =
      record {
        told = λ st stand.
            let members = walked.told st stand in
            e
            ∙ same_tests _ _
            (λ s. some_member row s λ k h q.
            let there = sym (members.bits k) ∙ q in below_by _ n k (path_inside st n t i p k there) there)
            (λ s. below_one n _ s λ k h q. by_member row k (members.bits k ∙ q));
      }

  -- the label is that of one of these
  pub label_told : {spreads : List Spread} (c : Option Label) → Searched n (label_from (in_row row) spreads) c
      → LabelTold n t list spreads i p c
  label_told {spreads} c found =
      record {
        told = λ st stand labelled names is clear.
            label_there labelled names is clear i p c (same_search c (walked.told st stand) found);
      }
    where
      same_search : {set : ℕ → Bool} (c : Option Label) → Members row set → Searched n (label_from (in_row row) spreads) c
          → Searched n (label_from set spreads) c
      same_search None members missing = λ k h. missing k h ∙ ap (λ b. pick b (only_label (spread_at spreads k)) None) (members.bits k)
      same_search (Some a) members (k, h, e, before) = (
        k,
        h,
        e ∙ ap (λ b. pick b (only_label (spread_at spreads k)) None) (members.bits k),
        λ z b. before z b ∙ ap (λ b. pick b (only_label (spread_at spreads z)) None) (members.bits z),
      )
