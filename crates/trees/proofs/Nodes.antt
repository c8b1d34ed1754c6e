-- Rules F1 to F4 are true of trees.
use Prim.Native.Nat.{ℕ}
use mathlib.Core.List.{◌∷◌}
use mathlib.Core.Path.{◌≡◌, refl, sym, subst, ◌∙◌}
use Rattle.rules.specs.declared.kinds.Kind.{Kind}
use Rattle.trees.specs.Trees.{Node, absent, bare, labelled, Present, Path, Tree, Below, Compatible, Child}

pub label_of : {a b : ℕ} → labelled a ≡ labelled b → a ≡ b
label_of e = cc

abbrev IsBare : Node → Type 0
IsBare absent = ⊥
IsBare bare = Unit {0}
IsBare (labelled a) = ⊥

pub bare_unlabelled : {a : ℕ} → bare ≡ labelled a → ⊥
bare_unlabelled e = subst IsBare e tt

-- at a label a path is present
pub present_label : {x : Node} {a : ℕ} → x ≡ labelled a → Present x
present_label e = subst Present (sym e) tt

-- ≤ or ~ of two trees
abbrev pub Related : Kind → Tree → Tree → Type 0
Related Kind.Ordered t u = Below t u
Related Kind.Compatible t u = Compatible t u

-- F1.1 and F3.1
pub related_self : (kind : Kind) (t : Tree) → Related kind t t
related_self Kind.Ordered t = record { paths = λ p h. h; labels = λ p a e. e }
related_self Kind.Compatible t = record { labels = λ p a b d e. label_of (sym d ∙ e) }

-- F1.2 and F3.2
pub related_through : (kind : Kind) (t u w : Tree) → Below t u → Related kind u w → Related kind t w
related_through Kind.Ordered t u w l m =
    record { paths = λ p h. m.paths p (l.paths p h); labels = λ p a e. m.labels p a (l.labels p a e) }
related_through Kind.Compatible t u w l m = record { labels = λ p a b d e. m.labels p a b (l.labels p a d) e }

-- F3.3
pub compatible_turned : {t u : Tree} → Compatible t u → Compatible u t
compatible_turned l = record { labels = λ p a b d e. sym (l.labels p b a e d) }

-- what lies above a tree has, at each feature, something above the tree's child
pub child_below : {f : ℕ} {t t' u : Tree} → Child t f t' → Below t u → Below t' (λ p. u (f ∷ p))
child_below {f} c l =
    record {
      paths = λ p h. l.paths (f ∷ p) (subst Present (sym (c.subtree p)) h);
      labels = λ p a e. l.labels (f ∷ p) a (c.subtree p ∙ e);
    }

-- and what lies below one has, at each feature, something below the child
pub below_child : {f : ℕ} {t u u' : Tree} → Child u f u' → Below t u → Below (λ p. t (f ∷ p)) u'
below_child {f} c l =
    record {
      paths = λ p h. subst Present (c.subtree p) (l.paths (f ∷ p) h);
      labels = λ p a e. sym (c.subtree p) ∙ l.labels (f ∷ p) a e;
    }

-- F2 and F4
pub related_children : (kind : Kind) (f : ℕ) (t t' u u' : Tree)
    → Child t f t' → Related kind t u → Child u f u' → Related kind t' u'
related_children Kind.Ordered f t t' u u' c l d =
    related_through Kind.Ordered t' (λ p. u (f ∷ p)) u' (child_below c l) (below_child d (related_self Kind.Ordered u))
related_children Kind.Compatible f t t' u u' c l d =
    record { labels = λ p a b x y. l.labels (f ∷ p) a b (c.subtree p ∙ x) (d.subtree p ∙ y) }

-- what stands in both directions is equal
pub same_node : (x y : Node)
    → (Present x → Present y) → ((a : ℕ) → x ≡ labelled a → y ≡ labelled a)
    → (Present y → Present x) → ((a : ℕ) → y ≡ labelled a → x ≡ labelled a) → x ≡ y
same_node absent absent h l k m = refl
same_node absent bare h l k m = absurd (k tt)
same_node absent (labelled b) h l k m = absurd (k tt)
same_node bare absent h l k m = absurd (h tt)
same_node bare bare h l k m = refl
same_node bare (labelled b) h l k m = m b refl
same_node (labelled a) absent h l k m = absurd (h tt)
same_node (labelled a) bare h l k m = sym (l a refl)
same_node (labelled a) (labelled b) h l k m = sym (l a refl)

pub both_below : {t u : Tree} → Below t u → Below u t → (p : Path) → t p ≡ u p
both_below {t} {u} l m p = same_node (t p) (u p) (l.paths p) (l.labels p) (m.paths p) (m.labels p)
