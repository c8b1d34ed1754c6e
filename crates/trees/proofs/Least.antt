-- The least solution of a closed structure: its trees are trees, it meets the statements, and it lies below every
-- assignment that does and of which the structure's order is true.
use Prim.Native.Nat.{ℕ, ◌<◌}
use mathlib.Core.Bool.{true}
use mathlib.Core.List.{List, [], ◌∷◌, ◌++◌}
use mathlib.Core.Path.{◌≡◌}
use Rattle.items.specs.declared.items.Statement.{Statement}
use Rattle.rules.specs.declared.kinds.Kind.{Kind}
use Rattle.rules.specs.Facts.{Relation, Holds}
use Rattle.rules.specs.Support.{under_label}
use Rattle.rules.specs.Stated.{selection, Stated}
use Rattle.rules.proofs.Supported.{label_by}
use Rattle.rules.proofs.Lists.{all_one, all_by}
use Rattle.trees.specs.Assignments.{Satisfies, Assignment, SatisfiesAll}
use Rattle.trees.specs.Trees.{labelled, Present, Path, IsTree, Below, Compatible, Child, Labelled}
use Rattle.trees.proofs.Structures.{descends, one_label, through, Laws, compatible_below}
use Rattle.trees.proofs.Nodes.{both_below}
use Rattle.trees.proofs.Sets.{step, walk, least, Inside, Together, in_one, one_in, in_step, step_in, in_root}
use Rattle.trees.proofs.Sets.{root_in, root_label, label_root}
use Rattle.trees.proofs.Paths.{path_under, least_path, least_label_at}

module _ {n : ℕ} {st : List Statement} {r : Relation} (L : Laws n st r) where
  step_inside : (f : ℕ) (set other : List ℕ) → Inside st r set other
      → Inside st r (step st r f set) (step st r f other)
  step_inside f set other h k u = step_in L u (λ k' m s v l. in_step L s (h k' v) l)

  step_together : (f : ℕ) (set other : List ℕ) → Together st r set other
      → Together st r (step st r f set) (step st r f other)
  step_together f set other h k l u w =
      step_in L u λ k' m s v p.
      step_in L w λ l' m' s' v' q.
      compatible_below L p (descends L Kind.Compatible s (h k' l' v v') s') q

  -- a larger set has a larger tree
  walk_paths : (p : Path) (set other : List ℕ) → Inside st r set other
      → Present (walk st r p set) → Present (walk st r p other)
  walk_paths [] set other h x = root_in L set x (λ k u. in_root L other (h k u))
  walk_paths (f ∷ p) set other h x = walk_paths p _ _ (step_inside f set other h) x

  walk_labels : (p : Path) (a : ℕ) (set other : List ℕ) → Inside st r set other → Together st r other other
      → walk st r p set ≡ labelled a → walk st r p other ≡ labelled a
  walk_labels [] a set other h t e = root_label L set e (λ k s u. label_root L other t s (h k u))
  walk_labels (f ∷ p) a set other h t e =
      walk_labels p a _ _ (step_inside f set other h) (step_together f other other t) e

  walk_below : (set other : List ℕ) → Inside st r set other → Together st r other other
      → Below (λ p. walk st r p set) (λ p. walk st r p other)
  walk_below set other h t =
      record { paths = λ p. walk_paths p set other h; labels = λ p a. walk_labels p a set other h t }

  -- compatible sets have compatible trees
  walk_compatible : (p : Path) (a b : ℕ) (set other : List ℕ) → Together st r set other
      → walk st r p set ≡ labelled a → walk st r p other ≡ labelled b → a ≡ b
  walk_compatible [] a b set other t d e =
      root_label L set d (λ k s u. root_label L other e (λ l s' w. one_label L (t k l u w) s s'))
  walk_compatible (f ∷ p) a b set other t d e = walk_compatible p a b _ _ (step_together f set other t) d e

  -- a path is present only where its beginning is
  walk_beginning : (p : Path) (f : ℕ) (set : List ℕ)
      → Present (walk st r (p ++ (f ∷ [])) set) → Present (walk st r p set)
  walk_beginning [] f set x = root_in L (step st r f set) x (λ k u. step_in L u (λ k' m s v h. in_root L set v))
  walk_beginning (g ∷ p) f set x = walk_beginning p f (step st r g set) x

  one_inside : {i j : ℕ} → Holds r Kind.Ordered i j → Inside st r (i ∷ []) (j ∷ [])
  one_inside h k u = one_in L u (λ p. in_one L (through L Kind.Ordered p h))

  one_together : {i j : ℕ} → Holds r Kind.Compatible i j → Together st r (i ∷ []) (j ∷ [])
  one_together h k l u w = one_in L u (λ p. one_in L w (λ q. compatible_below L p h q))

  self_together : (i : ℕ) → Together st r (i ∷ []) (i ∷ [])
  self_together i = one_together (L.self Kind.Compatible i)

  -- where i[f]j is stated, the children of i at f are the set of j
  children_inside : {i f j : ℕ} → Stated st (selection i f j) → Inside st r (step st r f (i ∷ [])) (j ∷ [])
  children_inside s k u =
      step_in L u λ k' m s' v p.
      one_in L v λ q.
      in_one L (through L Kind.Ordered p (descends L Kind.Ordered s' q s))

  inside_children : {i f j : ℕ} → Stated st (selection i f j) → Inside st r (j ∷ []) (step st r f (i ∷ []))
  inside_children {i} s k u = one_in L u (λ p. in_step L s (in_one L (L.self Kind.Ordered i)) p)

  keeps_selection : {i f j : ℕ} → Stated st (selection i f j) → Child (least st r i) f (least st r j)
  keeps_selection {i} {f} {j} s =
      record {
        present = in_root L (step st r f (i ∷ [])) (inside_children s j (in_one L (L.self Kind.Ordered j)));
        subtree = both_below
            (walk_below (step st r f (i ∷ [])) (j ∷ []) (children_inside s) (self_together j))
            (walk_below (j ∷ []) (step st r f (i ∷ [])) (inside_children s)
            (step_together f (i ∷ []) (i ∷ []) (self_together i)));
      }

  pub least_tree : (i : ℕ) → IsTree (least st r i)
  least_tree i =
      record {
        root = in_root L (i ∷ []) (in_one L (L.self Kind.Ordered i));
        beginnings = λ p f. walk_beginning p f (i ∷ []);
      }

  pub least_below : {i j : ℕ} → Holds r Kind.Ordered i j → Below (least st r i) (least st r j)
  least_below {i} {j} h = walk_below (i ∷ []) (j ∷ []) (one_inside h) (self_together j)

  pub least_compatible : {i j : ℕ} → Holds r Kind.Compatible i j → Compatible (least st r i) (least st r j)
  least_compatible {i} {j} h = record { labels = λ p a b. walk_compatible p a b (i ∷ []) (j ∷ []) (one_together h) }

  pub least_keeps : (x : Statement) → Stated st x → Satisfies (least st r) x
  least_keeps (Statement.Ordering i j) s = least_below (L.closed.stated Kind.Ordered i.0 j.0 s)
  least_keeps (Statement.Compatibility i j) s = least_compatible (L.closed.stated Kind.Compatible i.0 j.0 s)
  least_keeps (Statement.Selection i f j) s = keeps_selection s
  least_keeps (Statement.Labelling i a) s =
      label_root L (i.0 ∷ []) (self_together i.0) s (in_one L (L.self Kind.Ordered i.0))

  pub least_meets : SatisfiesAll (least st r) st
  least_meets = all_by (Satisfies (least st r)) st least_keeps

  -- it has only labels that are supported
  pub least_label : (i a : ℕ) → Labelled (least st r i) a → under_label st r i a ≡ true
  least_label i a e = root_label L (i ∷ []) e (λ k s u. one_in L u (λ p. label_by r s p))

  -- an assignment that meets the statements and is true to the order has all of the least solution
  module _ (v : Assignment) (trees : (i : ℕ) → i < n → IsTree (v i)) (kept : SatisfiesAll v st)
      (true_to : (i j : ℕ) → Holds r Kind.Ordered i j → Below (v i) (v j)) where
    pub least_under : (i : ℕ) → i < n → Below (least st r i) (v i)
    least_under i h =
        record {
          paths = λ p x.
              least_path L r (λ k m b q. q) i h p x λ k b q.
              (path_under st r v kept true_to i p k q).0 (trees k b).root;
          labels = λ p a e.
              least_label_at L r (λ k m b q. q) i h p a e λ k s q.
              (path_under st r v kept true_to i p k q).1 a (all_one (Satisfies v) st kept s);
        }
