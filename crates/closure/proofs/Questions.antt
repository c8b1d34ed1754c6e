-- The four kinds of question on trial.
use Prim.Native.Nat.{ℕ}
use mathlib.Core.Bool.{Bool, true, false}
use mathlib.Core.List.Memᴰ
use mathlib.Core.List.{List}
use mathlib.Core.Logic.{◌⊎◌, inl, inr}
use mathlib.Core.Path.{◌≡◌, sym, ap, subst, ◌∙◌}
use Rattle.std.specs.Prelude.{Option, is_some}
use Rattle.fields.specs.declared.numbers.Label.{Label}
use Rattle.fields.specs.declared.numbers.Variable.{Variable}
use Rattle.items.specs.declared.items.Statement.{Statement}
use Rattle.items.specs.Statements.{Names}
use Rattle.rules.specs.declared.clashes.Clash.{Clash}
use Rattle.rules.specs.Stated.{selection, labelling}
use Rattle.rules.specs.declared.kinds.Kind.{Kind}
use Rattle.rules.specs.Facts.{fact}
use Rattle.rules.specs.Tables.{kind_cell, facts}
use Rattle.rules.specs.Clashes.{clash_in_rows, clash_of, clashes}
use Rattle.rules.proofs.Lists.{all_with}
use Rattle.facts.specs.Additions.{Said}
use Rattle.facts.proofs.Sets.{among_none}
use Rattle.selections.specs.declared.grouped.Groups.{Groups}
use Rattle.selections.specs.Groups.{Grouped}
use Rattle.selections.specs.Stands.{Selected, SelectionsStand}
use Rattle.selections.proofs.Stands.{ListedIn, one_listed, only_listed, both_selected, statement_selections}
use Rattle.selections.proofs.Stands.{other_than_selection}
use Rattle.labels.specs.declared.spread.Spread.{Spread}
use Rattle.labels.specs.Spreads.{spread_below, can_clash}
use Rattle.labels.proofs.Skip.{skip}
use Rattle.answers.specs.Clashes.{ClashTold, LabelClashTold}
use Rattle.labels.proofs.Kept.{no_label}
use Rattle.derivation.proofs.Stands.{statement_pairs, fact_said, said_fact, no_subject}
use Rattle.closure.specs.Trials.{Nothing, WithOne, before, last, Searched, Tried}
use Rattle.closure.specs.Trials.{Standing, Consistent}
use Rattle.closure.proofs.Tried.{States, still_clashes, tried_answer}

-- a fact
fact_states : {n : ℕ} {st : List Statement} {selected : Selected} (kind : Kind) (i j : ℕ)
    → SelectionsStand n st selected → States n st (fact kind i j) selected (Said (kind_cell kind) i j)
fact_states kind i j stand =
    record {
      no_label = no_label kind i j;
      selections = other_than_selection (fact kind i j) (no_subject kind i j) stand;
      told = λ other x y e. said_fact kind other i j x y e;
      only = λ other x y p. fact_said kind other i j x y p;
    }

-- a selection
one_or_other : {selected : Selected} {i f j x g y : ℕ} → WithOne selected i f j x g y
    → selected x g y ⊎ ListedIn (selection i f j) x g y
one_or_other (before p) = inl p
one_or_other {i = i} {f = f} {j = j} (last a b c) = inr (rw (a, b, c) (one_listed i f j))

selection_states : {n : ℕ} {st : List Statement} {selected : Selected} (i f j : ℕ) → SelectionsStand n st selected
    → States n st (selection i f j) (WithOne selected i f j) Nothing
selection_states {n} i f j stand =
    record {
      no_label = tt;
      selections =
          both_selected stand (statement_selections n (selection i f j)) (λ x g y p. before p)
          (λ x g y l. let e = only_listed l in last (sym e.0) (sym e.1) (sym e.2))
          (λ x g y p. one_or_other p);
      told = λ kind x y e. among_none ((statement_pairs (selection i f j)).listed kind x y (Memᴰ.head e));
      only = λ kind x y p. absurd p;
    }

-- a statement whose variable was read as a number
read_label : {q : Statement} {i : Variable} {a : Label} {x : ℕ} → q ≡ Statement.Labelling i a → x ≡ i.0
    → q ≡ labelling x a.0
read_label {a = a} e g = e ∙ ap (λ k. labelling k a.0) (sym g)

-- what each kind tells, of statements that stand in the arrays and do not clash
module _ {n : ℕ} {closed : List ℕ} {groups : Groups} {spreads : List Spread} where
  pub fact_told : {r : Bool} (kind : Kind) (i j : ℕ) (q : Statement) → q ≡ fact kind i j → Names n q
      → Searched n (Grouped groups) (Said (kind_cell kind) i j) closed spreads r
      → Tried n (Consistent n closed groups spreads) q r
  fact_told kind i j q e names searched =
      rw e (record {
        answer = λ st consistent.
            tried_answer consistent (rw e at names) (fact_states kind i j consistent.stands.selections) searched;
      })

  pub selection_told : {r : Bool} (i f j : ℕ) (q : Statement) → q ≡ selection i f j → Names n q
      → Searched n (WithOne (Grouped groups) i f j) Nothing closed spreads r
      → Tried n (Consistent n closed groups spreads) q r
  selection_told i f j q e names searched =
      rw e (record {
        answer = λ st consistent.
            tried_answer consistent (rw e at names) (selection_states i f j consistent.stands.selections) searched;
      })

  pub label_told : {m : ℕ} {r : Bool} {i : Variable} {a : Label} (x : ℕ) (q : Statement) → m ≡ n
      → q ≡ Statement.Labelling i a → x ≡ i.0 → LabelClashTold m closed spreads x a.0 r
      → Tried n (Consistent n closed groups spreads) q r
  label_told {r = r} {a = a} x q same d g found =
      let e = read_label d g in
      let told = subst (λ z. LabelClashTold z closed spreads x a.0 r) same found in
      rw e (record {
        answer = λ st consistent.
            let stands = consistent.stands in
            told.told st stands.labelled stands.names stands.derives consistent.clear;
      })

  -- and where nothing is tried
  skip_told : (q : Statement) → Names n q → can_clash (spread_below n spreads) q ≡ false
      → Tried n (Consistent n closed groups spreads) q false
  skip_told q names e =
      record {
        answer = λ st consistent.
            let stands = consistent.stands in
            sym (skip stands.labelled q (all_with (Names n) st q stands.names names) e);
      }

  pub skip_where : {m : ℕ} {spread : Spread} {r : Bool} (q : Statement) → m ≡ n → spread ≡ spread_below m spreads
      → Names n q → r ≡ can_clash spread q → r ≡ false → Tried n (Consistent n closed groups spreads) q false
  skip_where q same is names told p = skip_told q names (rw (← same, ← is) (sym told ∙ p))

-- all statements that stand in the arrays: where they clash, they clash with q
module _ {n : ℕ} {closed : List ℕ} {groups : Groups} {spreads : List Spread} {clash : Option Clash}
    (found : ClashTold n closed spreads clash) (q : Statement) (names : Names n q) where
  of_statements : (st : List Statement) → Standing n closed groups spreads st
      → is_some clash ≡ clashes st n
  unfolding clash_of clashes
  of_statements st stands =
      ap is_some (found.told st stands.labelled ∙ ap (λ u. clash_in_rows n 0 n st (facts n u)) stands.derives)

  pub clash_stays : is_some clash ≡ true
      → Tried n (Standing n closed groups spreads) q true
  clash_stays p =
      record {
        answer = λ st stands.
            sym (still_clashes n st q stands.names names (sym (of_statements st stands) ∙ p));
      }

  pub all_told : {r : Bool} → is_some clash ≡ false
      → Tried n (Consistent n closed groups spreads) q r
      → Tried n (Standing n closed groups spreads) q r
  all_told p tried =
      record {
        answer = λ st stands.
            tried.answer st (record { stands = stands; clear = sym (of_statements st stands) ∙ p });
      }
