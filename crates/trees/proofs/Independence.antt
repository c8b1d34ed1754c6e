-- Of a consistent sheet: its least solution, one assignment that has a path, and one against all statements that are
-- not supported.
use Prim.Native.Nat.{ℕ, ◌<◌}
use mathlib.Core.Bool.{true, false}
use mathlib.Core.List.{List}
use mathlib.Core.Option.{some}
use mathlib.Core.Path.{◌≡◌, subst}
use Rattle.std.proofs.lemmas.Bool.{both_ways, false_from_ne_true}
use Rattle.items.specs.declared.items.Statement.{Statement}
use Rattle.items.specs.Statements.{AllName, All, Names}
use Rattle.sheet.specs.Sheets.{Sheet}
use Rattle.rules.specs.declared.kinds.Kind.{Kind}
use Rattle.rules.specs.Facts.{Relation}
use Rattle.rules.specs.Derived.{facts_of}
use Rattle.rules.specs.Paths.{at_path, path_supported}
use Rattle.rules.specs.Roots.{label_at}
use Rattle.rules.specs.Replies.{fails, supports}
use Rattle.rules.proofs.Lists.{all_from}
use Rattle.rules.proofs.Some.{below_by}
use Rattle.rules.proofs.Roots.{stated_is_told}
use Rattle.trees.specs.Trees.{labelled, Present, Path, Below}
use Rattle.trees.specs.Assignments.{Assignment, FalsifiesAll, Meets}
use Rattle.trees.specs.Demand.{Some}
use Rattle.trees.proofs.Structures.{Laws}
use Rattle.trees.proofs.Nodes.{related_self}
use Rattle.trees.proofs.Sets.{least}
use Rattle.trees.proofs.Paths.{least_path, least_label_at}
use Rattle.trees.proofs.Least.{least_under}
use Rattle.trees.proofs.Preparation.{NoneSupported}
use Rattle.trees.proofs.Extensions.{Extension, unextended, solution, solution_trees, solution_meets}
use Rattle.trees.proofs.Chain.{chain}
use Rattle.trees.proofs.Saturation.{Refutation, refute}
use Rattle.trees.proofs.Sound.{true_fact}
use Rattle.trees.proofs.Derivations.{related, to_fact, by_cases, derived_laws, related_supported}

-- no statement of the list is supported
abbrev pub NoneFollows : Sheet → List Statement → Type 0
NoneFollows s xs = All (λ x. supports s x ≡ false) xs

module _ (s : Sheet) (fit : AllName s.n s.stated) (consistent : fails s ≡ false) where
  abbrev facts : Relation
  facts = facts_of s.stated s.n

  abbrev laws : Laws s.n s.stated (related s.n s.stated fit)
  laws = derived_laws s.n s.stated fit consistent

  abbrev pub least_of : Assignment
  least_of = least s.stated (related s.n s.stated fit)

  -- the least solution meets the sheet, as that of each extension does
  extension_meets : (E : Extension s.n s.stated (related s.n s.stated fit)) → Meets s (solution E)
  extension_meets E = record { trees = λ i h. solution_trees E i; kept = solution_meets E }

  pub least_of_meets : Meets s least_of
  least_of_meets = extension_meets (unextended laws)

  -- and lies below every assignment that does
  pub least_of_all : (v : Assignment) → Meets s v → (i : ℕ) → i < s.n → Below (least_of i) (v i)
  least_of_all v m =
      least_under laws v m.trees m.kept λ i j p.
      by_cases s.n s.stated fit Kind.Ordered i j p
      (λ e. subst (λ x. Below (v i) (v x)) e (related_self Kind.Ordered (v i)))
      (λ h h' q. true_fact s.n s.stated v m.kept Kind.Ordered i j q)

  -- it has only the paths that are supported, and only the labels that are told
  pub least_supported : (i : ℕ) → i < s.n → (p : Path) → Present (least_of i p)
      → path_supported s.n s.stated facts i p ≡ true
  unfolding path_supported
  least_supported i h p x =
      least_path laws facts (to_fact s.n s.stated fit Kind.Ordered) i h p x λ k b q.
      below_by (at_path s.stated facts i p) s.n k b q

  pub least_told : (i : ℕ) → i < s.n → (p : Path) (a : ℕ) → least_of i p ≡ labelled a
      → label_at s.stated facts i p ≡ some a
  least_told i h p a e =
      least_label_at laws facts (to_fact s.n s.stated fit Kind.Ordered) i h p a e λ k t q.
      stated_is_told s.n s.stated fit consistent i p k a t q

  -- one assignment that meets the sheet has the path
  pub one_with_path : (i : ℕ) → i < s.n → (p : Path) → Some (Meets s) λ v. Present (v i p)
  one_with_path i h p = let c = chain p laws i h in (solution c.whole, (extension_meets c.whole, c.present))

  none_supported : (qs : List Statement) → AllName s.n qs → NoneFollows s qs
      → NoneSupported s.stated (related s.n s.stated fit) qs
  none_supported qs =
      all_from (Names s.n) _ _ qs λ q h none.
      false_from_ne_true _ (λ p. both_ways _ none (related_supported s.n s.stated fit q h p))

  -- one structure extended against the whole list
  pub refutation : (qs : List Statement) → AllName s.n qs → NoneFollows s qs
      → Refutation s.n s.stated (related s.n s.stated fit) qs
  refutation qs h none = refute laws qs h (none_supported qs h none)

  -- its least solution meets the sheet and breaks them all
  pub one_against_all : (qs : List Statement) → AllName s.n qs → NoneFollows s qs
      → Some (Meets s) λ v. FalsifiesAll v qs
  one_against_all qs h none =
      let R = refutation qs h none in
      (solution R.whole, (extension_meets R.whole, R.breaks_all))
