-- How orderings and compatibilities of statements stand in a list of pairs, one statement after another.
use Prim.Native.Nat.{ℕ, ◌+◌, ◌<◌}
use lib.ListN.{length, length-append, get_or-append}
use mathlib.Core.List.Memᴰ
use mathlib.Core.List.{List, [], ◌∷◌, ◌++◌}
use mathlib.Core.Logic.{⊎_elim}
use lib.Seq.{get_or-append-add}
use mathlib.Core.Path.{◌≡◌, refl, subst}
use native.Mathlib.Omega.{arith}
use Rattle.std.proofs.lemmas.List.{get_or_push}
use Rattle.std.proofs.lemmas.Bool.{both_ways}
use Rattle.fields.specs.Tests.{less, same}
use Rattle.items.specs.declared.items.Statement.{Statement}
use Rattle.items.specs.Statements.{Names, AllName}
use Rattle.rules.specs.Connectives.{◌or◌}
use Rattle.rules.specs.Stated.{ordering, compatibility}
use Rattle.rules.specs.declared.kinds.Kind.{Kind}
use Rattle.rules.specs.Facts.{fact}
use Rattle.rules.specs.Tables.{says, kind_cell}
use Rattle.rules.proofs.More.{still, stated_of}
use Rattle.facts.specs.Additions.{Facts, Said, Among}
use Rattle.facts.proofs.Sets.{among_none}
use Rattle.selections.proofs.Appended.{entries_of, below_both, at_either}
use Rattle.selections.proofs.Stands.{selection_in}
use Rattle.derivation.specs.declared.pairs.Pair.{Pair}
use Rattle.derivation.specs.Stands.{pair_of, no_pair, Pairs, SaidBy, Paired, PairsStand}

-- what a statement adds to the list: an entry where it is a fact
abbrev pub pair_in : Statement → List Pair
pair_in (Statement.Ordering i j) = pair_of (kind_cell Kind.Ordered) i.0 j.0 ∷ []
pair_in (Statement.Compatibility i j) = pair_of (kind_cell Kind.Compatible) i.0 j.0 ∷ []
pair_in (Statement.Selection i f j) = []
pair_in (Statement.Labelling i a) = []

-- and what all of them make
abbrev pub pairs_of : List Statement → List Pair
pairs_of = entries_of pair_in

-- a fact that a pair says
abbrev Says : Kind → ℕ → ℕ → Pair → Type 0
Says kind i j pair = SaidBy pair kind i j

among_at : {P : ℕ → Facts} {upto : ℕ} {kind : Kind} {i j : ℕ} (k : ℕ) → k < upto → P k kind i j
    → Among 0 upto P kind i j
among_at k h p = record { at = k; behind = omega arith; ahead = h; holds = p }

-- a list behind a list
module _ {pairs pairs' : List Pair} where
  pub both_pairs : {n : ℕ} → Pairs n pairs → Pairs n pairs' → Pairs n (pairs ++ pairs')
  both_pairs a b =
      record {
        cell_small = below_both (λ (p : Pair). p.kinds.0) no_pair pairs pairs' a.cell_small b.cell_small;
        left_below = below_both (λ (p : Pair). p.left.0) no_pair pairs pairs' a.left_below b.left_below;
        right_below = below_both (λ (p : Pair). p.right.0) no_pair pairs pairs' a.right_below b.right_below;
      }

  pub both_pairs_stand : {st st' : List Statement} → PairsStand st pairs → PairsStand st' pairs'
      → PairsStand (st ++ st') (pairs ++ pairs')
  both_pairs_stand {st} stand stand' =
      let size = length-append pairs pairs' in
      record {
        listed = λ kind i j m.
            ⊎_elim
            (λ s. let a = stand.listed kind i j s in let h = a.ahead in
            among_at a.at (omega arith) (rw (get_or-append pairs pairs' no_pair a.at h) a.holds))
            (λ s. let a = stand'.listed kind i j s in let h = a.ahead in
            among_at (length pairs + a.at) (omega arith)
            (rw (get_or-append-add pairs pairs' a.at no_pair) a.holds))
            (Memᴰ.append_cases st m);
        stated = λ kind i j a.
            at_either (Says kind i j) no_pair pairs pairs' a.at a.ahead a.holds
            (λ k h p. Memᴰ.append_left _ (stand.stated kind i j (among_at k h p)))
            (λ k h p. Memᴰ.append_right st (stand'.stated kind i j (among_at k h p)));
      }

-- no statement
pub no_pairs : (n : ℕ) → Pairs n []
no_pairs n =
    record {
      cell_small = λ k h. absurd (omega (arith, h));
      left_below = λ k h. absurd (omega (arith, h));
      right_below = λ k h. absurd (omega (arith, h));
    }

pub no_pairs_stand : PairsStand [] []
no_pairs_stand =
    record {
      listed = λ kind i j m. absurd (Memᴰ.not-nil m);
      stated = λ kind i j p. absurd (among_none p);
    }

-- one pair
one_pair : (n w i j : ℕ) → w < 4 → i < n → j < n → Pairs n (pair_of w i j ∷ [])
one_pair n w i j small left right =
    record {
      cell_small = λ k h. rw (get_or_push [] (pair_of w i j) no_pair k (omega arith)) small;
      left_below = λ k h. rw (get_or_push [] (pair_of w i j) no_pair k (omega arith)) left;
      right_below = λ k h. rw (get_or_push [] (pair_of w i j) no_pair k (omega arith)) right;
    }

module _ {w x y : ℕ} {kind : Kind} {i j : ℕ} where
  pub said_paired : Said w x y kind i j → Paired (pair_of w x y ∷ []) kind i j
  said_paired p = among_at 0 (omega arith) p

  pub said_of : Paired (pair_of w x y ∷ []) kind i j → Said w x y kind i j
  said_of a = rw (get_or_push [] (pair_of w x y) no_pair a.at (omega (arith, a.ahead))) at a.holds

-- one statement: its entry, if any, is lawful and says its fact
statement_lawful : (n : ℕ) (q : Statement) → Names n q → Pairs n (pair_in q)
statement_lawful n (Statement.Ordering i j) names = one_pair n 1 i.0 j.0 (omega arith) names.0 names.1
statement_lawful n (Statement.Compatibility i j) names = one_pair n 2 i.0 j.0 (omega arith) names.0 names.1
statement_lawful n (Statement.Selection i f j) names = no_pairs n
statement_lawful n (Statement.Labelling i a) names = no_pairs n

abbrev PairedIn : Statement → Facts
PairedIn q = Paired (pair_in q)

fact_paired : (kind : Kind) (i j : ℕ) → PairedIn (fact kind i j) kind i j
unfolding says same less ◌or◌
fact_paired Kind.Ordered i j = said_paired record { first = refl; second = refl; told = refl }
fact_paired Kind.Compatible i j = said_paired record { first = refl; second = refl; told = refl }

pub fact_said : (kind other : Kind) (x y i j : ℕ) → Said (kind_cell kind) x y other i j → fact other i j ≡ fact kind x y
unfolding says same less ◌or◌
fact_said Kind.Ordered Kind.Ordered x y i j p = rw (p.first, p.second) refl
fact_said Kind.Ordered Kind.Compatible x y i j p = absurd (both_ways _ refl p.told)
fact_said Kind.Compatible Kind.Ordered x y i j p = absurd (both_ways _ refl p.told)
fact_said Kind.Compatible Kind.Compatible x y i j p = rw (p.first, p.second) refl

-- the other way round, and a fact is no selection
pub said_fact : (kind other : Kind) (x y i j : ℕ) → fact other i j ≡ fact kind x y → Said (kind_cell kind) x y other i j
said_fact Kind.Ordered other x y i j e = said_of (subst (λ s. PairedIn s other i j) e (fact_paired other i j))
said_fact Kind.Compatible other x y i j e = said_of (subst (λ s. PairedIn s other i j) e (fact_paired other i j))

pub no_subject : (kind : Kind) (i j : ℕ) → selection_in (fact kind i j) ≡ []
no_subject Kind.Ordered i j = refl
no_subject Kind.Compatible i j = refl

is_stated_lem : (q : Statement) (kind : Kind) (i j : ℕ) → PairedIn q kind i j → fact kind i j ≡ q
is_stated_lem (Statement.Ordering x y) kind i j a = fact_said Kind.Ordered kind x.0 y.0 i j (said_of a)
is_stated_lem (Statement.Compatibility x y) kind i j a = fact_said Kind.Compatible kind x.0 y.0 i j (said_of a)
is_stated_lem (Statement.Selection x f y) kind i j a = absurd (among_none a)
is_stated_lem (Statement.Labelling x a) kind i j p = absurd (among_none p)

pub statement_pairs : (q : Statement) → PairsStand (q ∷ []) (pair_in q)
statement_pairs q =
    record {
      listed = λ kind i j m. subst (λ s. PairedIn s kind i j) (Memᴰ.eq_of_singleton m) (fact_paired kind i j);
      stated = λ kind i j a. Memᴰ.head (is_stated_lem q kind i j a);
    }

-- one statement more: any that is no fact adds nothing
pub other_than_pair : {st : List Statement} {pairs : List Pair} (q : Statement) → pair_in q ≡ []
    → PairsStand st pairs → PairsStand (st ++ (q ∷ [])) pairs
other_than_pair {st} q none stand =
    record {
      listed = λ kind i j m.
          stated_of st q m (stand.listed kind i j)
          (λ e.
          let h = ((statement_pairs q).listed kind i j (Memᴰ.head e)).ahead in
          let h' = rw none at h in absurd (omega (arith, h')));
      stated = λ kind i j a. still q (stand.stated kind i j a);
    }

module _ {n : ℕ} {pairs : List Pair} where
  pub more_pairs : Pairs n pairs → (kind : Kind) (i j : ℕ) → Names n (fact kind i j)
      → Pairs n (pairs ++ (pair_of (kind_cell kind) i j ∷ []))
  more_pairs lawful Kind.Ordered i j names = both_pairs lawful (statement_lawful n (ordering i j) names)
  more_pairs lawful Kind.Compatible i j names = both_pairs lawful (statement_lawful n (compatibility i j) names)

pub more_pairs_stand : {st : List Statement} {pairs : List Pair} (kind : Kind) (i j : ℕ) → PairsStand st pairs
    → PairsStand (st ++ (fact kind i j ∷ [])) (pairs ++ (pair_of (kind_cell kind) i j ∷ []))
more_pairs_stand Kind.Ordered i j stand = both_pairs_stand stand (statement_pairs (ordering i j))
more_pairs_stand Kind.Compatible i j stand = both_pairs_stand stand (statement_pairs (compatibility i j))

-- so the facts of any statements stand in the list made of them
pub all_pairs : (n : ℕ) (st : List Statement) → AllName n st → Pairs n (pairs_of st)
all_pairs n [] names = no_pairs n
all_pairs n (q ∷ st) names = both_pairs (statement_lawful n q names.0) (all_pairs n st names.1)

pub all_pairs_stand : (st : List Statement) → PairsStand st (pairs_of st)
all_pairs_stand [] = no_pairs_stand
all_pairs_stand (q ∷ st) = both_pairs_stand (statement_pairs q) (all_pairs_stand st)
