-- One child more conserves: no question over old variables becomes supported (Lemma 7, property P1).
use Prim.Native.Nat.{ℕ, ◌<◌}
use mathlib.Core.Bool.{true}
use mathlib.Core.List.{List}
use mathlib.Core.Path.{◌≡◌, sym, subst, ◌∙◌}
use Rattle.items.specs.declared.items.Statement.{Statement}
use Rattle.items.specs.Statements.{Names}
use Rattle.rules.specs.declared.kinds.Kind.{Kind}
use Rattle.rules.specs.Facts.{Relation, Holds}
use Rattle.rules.specs.Support.{under_child, over_child, supported}
use Rattle.rules.proofs.Lists.{named}
use Rattle.rules.proofs.Supported.{under_by, over_by, label_by, under_of, over_of, Carries, carried}
use Rattle.trees.proofs.Structures.{through, Laws}
use Rattle.trees.proofs.Child.{with_selection, with_child, from_more, below_new, new_below, From, new, old}
use Rattle.trees.proofs.Child.{selection_from, label_stays}

module _ {n : ℕ} {st : List Statement} {r : Relation} (L : Laws n st r) (i f : ℕ) (i<n : i < n) where
  abbrev statements : List Statement
  statements = with_selection n st i f

  abbrev more : Relation
  more = with_child n st r i f

  -- support by the new selection is support by the old one that related its child
  under_from : (x g y k m : ℕ) → x < n → y < n → From n st r i f k g m → Holds more Kind.Ordered k x
      → Holds more Kind.Ordered y m
      → under_child st r x g y ≡ true
  under_from x g y k m h h' (old s) a b =
      let names = named n st L.fit s in
      under_by r s (from_more n st r i f Kind.Ordered names.0 h a) (from_more n st r i f Kind.Ordered h' names.1 b)
  under_from x g y k m h h' (new ek eg em) a b =
      let above = from_more n st r i f Kind.Ordered i<n h (subst (λ z. Holds more Kind.Ordered z x) ek a) in
      let below = sym (below_new n st r i f y h') ∙ subst (λ z. Holds more Kind.Ordered y z) em b in
      under_of st r i f y below λ k' m' s p q.
      rw eg (under_by r s (through L Kind.Ordered p above) q)

  over_from : (x g y k m : ℕ) → x < n → y < n → From n st r i f k g m → Holds more Kind.Ordered x k
      → Holds more Kind.Ordered m y
      → over_child st r x g y ≡ true
  over_from x g y k m h h' (old s) a b =
      let names = named n st L.fit s in
      over_by r s (from_more n st r i f Kind.Ordered h names.0 a) (from_more n st r i f Kind.Ordered names.1 h' b)
  over_from x g y k m h h' (new ek eg em) a b =
      let below = from_more n st r i f Kind.Ordered h i<n (subst (λ z. Holds more Kind.Ordered x z) ek a) in
      let above = sym (new_below n st r i f y h') ∙ subst (λ z. Holds more Kind.Ordered z y) em b in
      over_of st r i f y above λ k' m' s p q.
      rw eg (over_by r s (through L Kind.Ordered below p) q)

  carries : Carries n statements more st r
  carries =
      record {
        pairs = λ kind x y h h' p. from_more n st r i f kind h h' p;
        unders = λ x g y k m h h' s a b. under_from x g y k m h h' (selection_from n st r i f k g m s) a b;
        overs = λ x g y k m h h' s a b. over_from x g y k m h h' (selection_from n st r i f k g m s) a b;
        labels = λ x a k h s b.
            let o = label_stays n st r i f s in
            label_by r o (from_more n st r i f Kind.Ordered (named n st L.fit o) h b);
      }

  pub child_conserves : (q : Statement) → Names n q → supported statements more q ≡ true → supported st r q ≡ true
  child_conserves = carried carries
