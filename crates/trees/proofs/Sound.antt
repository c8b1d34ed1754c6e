-- What is derived is true of every assignment that keeps the statements (Propositions 2 and 5).
use Prim.Native.Nat.{ℕ, ◌<◌}
use mathlib.Core.Bool.{true}
use mathlib.Core.List.{List, [], ◌∷◌}
use mathlib.Core.Option.{some}
use mathlib.Core.Path.{◌≡◌}
use Rattle.items.specs.declared.items.Statement.{Statement}
use Rattle.rules.specs.declared.kinds.Kind.{Kind}
use Rattle.rules.specs.Facts.{fact, Holds, Closed}
use Rattle.rules.specs.Stated.{selection, Stated}
use Rattle.rules.specs.Derived.{facts_of}
use Rattle.rules.specs.Clashes.{clashes_at, clashes}
use Rattle.rules.specs.Support.{supported}
use Rattle.rules.specs.Paths.{path_supported}
use Rattle.rules.specs.Roots.{label_at}
use Rattle.rules.proofs.Logic.{first_of_and, second_of_and}
use Rattle.rules.proofs.Supported.{under_of, over_of, label_under}
use Rattle.rules.proofs.Derived.{smallest}
use Rattle.rules.proofs.Clashing.{clashing, differ_of}
use Rattle.rules.proofs.Lists.{all_one}
use Rattle.rules.proofs.Some.{below_one}
use Rattle.rules.proofs.Roots.{told_from}
use Rattle.trees.specs.Trees.{labelled, Present, Path, IsTree, Child}
use Rattle.trees.specs.Assignments.{Assignment, Satisfies, SatisfiesAll}
use Rattle.trees.proofs.Nodes.{Related, related_self, related_through, related_children, compatible_turned}
use Rattle.trees.proofs.Nodes.{both_below, child_below, below_child}
use Rattle.trees.proofs.Paths.{path_under}

module _ (n : ℕ) (st : List Statement) (v : Assignment) (kept : SatisfiesAll v st) where
  keeps : {x : Statement} → Stated st x → Satisfies v x
  keeps s = all_one (Satisfies v) st kept s

  kept_fact : (kind : Kind) (i j : ℕ) → Stated st (fact kind i j) → Related kind (v i) (v j)
  kept_fact Kind.Ordered i j s = keeps s
  kept_fact Kind.Compatible i j s = keeps s

  -- ≤ and ~ between the trees are a closed set of facts
  trees_closed : Closed n st (λ kind i j. Related kind (v i) (v j))
  trees_closed =
      record {
        stated = kept_fact;
        reflexive = λ kind i h. related_self kind (v i);
        through = λ kind i j k. related_through kind (v i) (v j) (v k);
        symmetric = λ i j l. compatible_turned l;
        descends = λ kind f i i' j j' s l s'.
            related_children kind f (v i) (v i') (v j) (v j') (keeps s) l (keeps s');
      }

  -- so they have every derived fact
  pub true_fact : (kind : Kind) (i j : ℕ) → Holds (facts_of st n) kind i j → Related kind (v i) (v j)
  true_fact = smallest n st (λ kind i j. Related kind (v i) (v j)) trees_closed

  -- F5 applies nowhere
  pub no_clash : clashes st n ≡ true → ⊥
  unfolding clashes_at
  no_clash e =
      clashing st n e λ i j c.
      differ_of st i j (second_of_and _ _ c.applies) λ a b s s' d.
      let agreeing = true_fact Kind.Compatible i j (first_of_and _ _ c.applies) in
      d (agreeing.labels [] a b (keeps s) (keeps s'))

  -- a supported selection is true: the subtree lies below and above
  true_selection : (i f j : ℕ) → supported st (facts_of st n) (selection i f j) ≡ true → Child (v i) f (v j)
  unfolding supported
  true_selection i f j p =
      under_of st (facts_of st n) i f j (first_of_and _ _ p) λ k m s h l.
      over_of st (facts_of st n) i f j (second_of_and _ _ p) λ k' m' s' h' l'.
      let child = keeps s in
      let above = true_fact Kind.Ordered k i h in
      record {
        present = above.paths (f ∷ []) child.present;
        subtree = both_below
            (related_through Kind.Ordered _ (v m') (v j)
            (below_child (keeps s') (true_fact Kind.Ordered i k' h')) (true_fact Kind.Ordered m' j l'))
            (related_through Kind.Ordered (v j) (v m) _ (true_fact Kind.Ordered j m l) (child_below child above));
      }

  -- what is supported is true
  pub true_supported : (q : Statement) → supported st (facts_of st n) q ≡ true → Satisfies v q
  unfolding supported
  true_supported (Statement.Ordering i j) p = true_fact Kind.Ordered i.0 j.0 p
  true_supported (Statement.Compatibility i j) p = true_fact Kind.Compatible i.0 j.0 p
  true_supported (Statement.Selection i f j) p = true_selection i.0 f.0 j.0 p
  true_supported (Statement.Labelling i a) p =
      label_under st (facts_of st n) i.0 a.0 p λ k s h.
      (true_fact Kind.Ordered k i.0 h).labels [] a.0 (keeps s)

  -- a supported path is there, since the root of what it leads to is
  pub true_path : ((i : ℕ) → i < n → IsTree (v i)) → (i : ℕ) (p : Path)
      → path_supported n st (facts_of st n) i p ≡ true → Present (v i p)
  unfolding path_supported
  true_path trees i p a =
      below_one n _ a λ k h q.
      (path_under st (facts_of st n) v kept (true_fact Kind.Ordered) i p k q).0 (trees k h).root

  -- and so is the label that is told of a path
  pub true_label : (i : ℕ) (p : Path) (a : ℕ) → label_at st (facts_of st n) i p ≡ some a → v i p ≡ labelled a
  true_label i p a e =
      told_from st (facts_of st n) i p a e λ k s q.
      (path_under st (facts_of st n) v kept (true_fact Kind.Ordered) i p k q).1 a (keeps s)
