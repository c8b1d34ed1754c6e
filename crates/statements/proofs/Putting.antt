-- One statement after another in the lists.
use Rattle.std.specs.Prelude.{Option, Some, None, option_map, option_to_list}
use Prim.Native.Nat.{ℕ, ◌+◌, ◌<◌, ◌≤◌}
use lib.ListN.{length, length-append}
use mathlib.Core.List.{List, [], ◌∷◌, ◌++◌, append-nil, append_assoc}
use mathlib.Core.Path.{◌≡◌, refl, sym, subst}
use native.Mathlib.Omega.{arith}
use Rattle.fields.specs.Limits.{most_variables, most_items}
use Rattle.items.specs.declared.items.Item.{Item}
use Rattle.items.specs.declared.items.Statement.{Statement}
use Rattle.items.specs.Statements.{Names, AllName, statements_of}
use Rattle.items.specs.Statements.{ordering_of, compatibility_of, selection_of, labelling_of}
use Rattle.rules.specs.Stated.{ordering, compatibility, selection, labelling}
use Rattle.rules.specs.declared.kinds.Kind.{Kind}
use Rattle.rules.specs.Facts.{fact}
use Rattle.rules.proofs.Lists.{all_split}
use Rattle.selections.specs.Listed as listed
use Rattle.selections.proofs.Stands.{more_selections, more_selections_stand, other_than_selection}
use Rattle.labels.proofs.Kept.{no_label, noted, other_kind}
use Rattle.derivation.specs.Stands.{pair_of}
use Rattle.rules.specs.Tables.{kind_cell}
use Rattle.derivation.proofs.Stands.{no_subject, more_pairs, more_pairs_stand, other_than_pair}
use Rattle.statements.specs.declared.lists.Lists.{Lists}
use Rattle.statements.specs.Lists.{Putting, Put, pairs_in, selections_in, pairs_if, selections_if, pairs_room, with_pair, with_selection}
use Rattle.statements.specs.Lists.{with_label}

-- the statement of another equation
put_same : {x y : Lists} {q q' : Statement} → q ≡ q' → Put (q' ∷ []) (pairs_in q') (selections_in q') x y
    → Put (q ∷ []) (pairs_in q) (selections_in q) x y
put_same {x} {y} e p = subst (λ q. Put (q ∷ []) (pairs_in q) (selections_in q) x y) (sym e) p

putting_as : {x : Lists} {q q' : Statement} → q ≡ q' → Putting (q ∷ []) (pairs_in q) (selections_in q) x
    → Putting (q' ∷ []) (pairs_in q') (selections_in q') x
putting_as {x} e p = subst (λ q. Putting (q ∷ []) (pairs_in q) (selections_in q) x) e p

module _ (x : Lists) where
  -- a pair
  one_pair : (kind : Kind) (i j : ℕ) → Put (fact kind i j ∷ []) 1 0 x (with_pair x (kind_cell kind) i j)
  one_pair kind i j =
      record {
        stand = λ n st named before.
            record {
              lawful_pairs = more_pairs before.lawful_pairs kind i j named.0;
              pairs_stand = more_pairs_stand kind i j before.pairs_stand;
              lawful_selections = before.lawful_selections;
              selections_stand =
                  other_than_selection (fact kind i j) (no_subject kind i j) before.selections_stand;
              labelled = other_kind before.labelled (fact kind i j) (no_label kind i j);
            };
        more_pairs = omega (arith, length-append x.pairs.items (pair_of (kind_cell kind) i j ∷ []));
        more_selections = omega arith;
      }

  -- a selection
  one_selection : (i f j : ℕ) → length x.selections.items < most_items
      → Put (selection i f j ∷ []) 0 1 x (with_selection x i f j)
  one_selection i f j room =
      record {
        stand = λ n st named before.
            record {
              lawful_pairs = before.lawful_pairs;
              pairs_stand = other_than_pair (selection i f j) refl before.pairs_stand;
              lawful_selections = more_selections before.lawful_selections i f j named.0 room;
              selections_stand = more_selections_stand before.lawful_selections i f j before.selections_stand;
              labelled = other_kind before.labelled (selection i f j) tt;
            };
        more_pairs = omega arith;
        more_selections = omega (arith, length-append x.selections.items (listed.selection_of i f j ∷ []));
      }

  -- a label
  one_label : (i a : ℕ) → i < most_variables → Put (labelling i a ∷ []) 0 0 x (with_label x i a)
  one_label i a few =
      record {
        stand = λ n st named before.
            record {
              lawful_pairs = before.lawful_pairs;
              pairs_stand = other_than_pair (labelling i a) refl before.pairs_stand;
              lawful_selections = before.lawful_selections;
              selections_stand = other_than_selection (labelling i a) refl before.selections_stand;
              labelled = noted before.labelled i a few;
            };
        more_pairs = omega arith;
        more_selections = omega arith;
      }

-- a statement of each kind
module _ {x y : Lists} {q : Statement} (may : Putting (q ∷ []) (pairs_in q) (selections_in q) x) where
  pub ordering_put : (i j : ℕ) → q ≡ ordering i j → y ≡ with_pair x 1 i j
      → Put (q ∷ []) (pairs_in q) (selections_in q) x y
  ordering_put i j e p = put_same e (rw p (one_pair x Kind.Ordered i j))

  pub compatibility_put : (i j : ℕ) → q ≡ compatibility i j → y ≡ with_pair x 2 i j
      → Put (q ∷ []) (pairs_in q) (selections_in q) x y
  compatibility_put i j e p = put_same e (rw p (one_pair x Kind.Compatible i j))

  pub selection_put : (i f j : ℕ) → q ≡ selection i f j → y ≡ with_selection x i f j
      → Put (q ∷ []) (pairs_in q) (selections_in q) x y
  selection_put i f j e p =
      let may' = putting_as e may in
      put_same e (rw p (one_selection x i f j (omega (arith, may'.selections_room))))

  pub labelling_put : (i a : ℕ) → q ≡ labelling i a → y ≡ with_label x i a
      → Put (q ∷ []) (pairs_in q) (selections_in q) x y
  labelling_put i a e p = let may' = putting_as e may in put_same e (rw p (one_label x i a may'.named.0))

-- nothing is put
pub nothing_put : {x : Lists} {pairs selections : ℕ} → Put [] pairs selections x x
nothing_put =
    record {
      stand = λ n st named before. rw (append-nil st) before;
      more_pairs = omega arith;
      more_selections = omega arith;
    }

-- some statements, then others
put_both : {xs ys : List Statement} {pairs selections pairs' selections' : ℕ} {x y z : Lists}
    → Put xs pairs selections x y → Put ys pairs' selections' y z
    → Put (xs ++ ys) (pairs + pairs') (selections + selections') x z
put_both {xs} {ys} first second =
    record {
      stand = λ n st named before.
          let parts = all_split (Names n) xs ys named in
          rw (← append_assoc st xs ys) (second.stand n _ parts.1 (first.stand n st parts.0 before));
      more_pairs = omega (arith, first.more_pairs, second.more_pairs);
      more_selections = omega (arith, first.more_selections, second.more_selections);
    }

-- the statements of a record, kind by kind
module _ (x : Item) where
  abbrev first : List Statement
  first = option_to_list (ordering_of x)

  abbrev second : List Statement
  second = option_to_list (compatibility_of x)

  abbrev third : List Statement
  third = option_to_list (selection_of x)

  abbrev fourth : List Statement
  fourth = option_to_list (labelling_of x)

  -- each kind names variables below m where all do
  pub record Each (m : ℕ) : Type 0 where
    pub ordering : AllName m first
    pub compatibility : AllName m second
    pub selection : AllName m third
    pub labelling : AllName m fourth

  pub each_named : (m : ℕ) → AllName m (statements_of x) → Each m
  unfolding statements_of
  each_named m named =
      let a = all_split (Names m) first (second ++ (third ++ fourth)) named in
      let b = all_split (Names m) second (third ++ fourth) a.1 in
      let c = all_split (Names m) third fourth b.1 in
      record { ordering = a.0; compatibility = b.0; selection = c.0; labelling = c.1 }

  -- what puts each kind in turn puts the record
  pub record_put : {a b c d e : Lists} → Put first 1 0 a b → Put second 1 0 b c → Put third 0 1 c d → Put fourth 0 0 d e
      → Put (statements_of x) 2 1 a e
  unfolding statements_of
  record_put p q r s = put_both p (put_both q (put_both r s))

-- a statement that may be there takes so many pairs and selections at most
pub record Takes (q : Option Statement) (pairs selections : ℕ) : Type 0 where
  pub pairs_most : pairs_if q ≤ pairs
  pub selections_most : selections_if q ≤ selections

takes : {T : Type 0} (make : T → Statement) (pairs selections : ℕ) → ((v : T) → pairs_in (make v) ≤ pairs)
    → ((v : T) → selections_in (make v) ≤ selections) → (value : Option T) → Takes (option_map make value) pairs selections
takes make pairs selections p s (Some v) = record { pairs_most = p v; selections_most = s v }
takes make pairs selections p s None = record { pairs_most = omega arith; selections_most = omega arith }

module _ (x : Item) where
  pub ordering_takes : Takes (ordering_of x) 1 0
  ordering_takes = takes _ 1 0 (λ v. omega arith) (λ v. omega arith) x.target

  pub compatibility_takes : Takes (compatibility_of x) 1 0
  compatibility_takes = takes _ 1 0 (λ v. omega arith) (λ v. omega arith) x.partner

  pub selection_takes : Takes (selection_of x) 0 1
  selection_takes = takes _ 0 1 (λ v. omega arith) (λ v. omega arith) x.edge

  pub labelling_takes : Takes (labelling_of x) 0 0
  labelling_takes = takes _ 0 0 (λ v. omega arith) (λ v. omega arith) x.label

-- one statement of a record is to be put
pub putting_if : {a : Lists} {q o : Option Statement} {pairs selections : ℕ} → q ≡ o → Takes o pairs selections
    → AllName most_variables (option_to_list o)
    → length a.pairs.items + pairs ≤ pairs_room → length a.selections.items + selections ≤ most_items
    → Putting (option_to_list q) (pairs_if q) (selections_if q) a
putting_if {a} {q} {o} e t named room room' =
    subst (λ y. Putting (option_to_list y) (pairs_if y) (selections_if y) a) (sym e)
    (record {
      named = named;
      pairs_fit = omega (arith, t.pairs_most, room);
      selections_room = omega (arith, t.selections_most, room');
    })

pub put_as : {a b : Lists} {q o : Option Statement} {pairs selections : ℕ} → q ≡ o → Takes o pairs selections
    → Put (option_to_list q) (pairs_if q) (selections_if q) a b → Put (option_to_list o) pairs selections a b
put_as {a} {b} {q} {o} e t p =
    let p' = subst (λ y. Put (option_to_list y) (pairs_if y) (selections_if y) a b) e p in
    record {
      stand = p'.stand;
      more_pairs = omega (arith, p'.more_pairs, t.pairs_most);
      more_selections = omega (arith, p'.more_selections, t.selections_most);
    }
