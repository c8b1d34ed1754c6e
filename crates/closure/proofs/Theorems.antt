-- What the check rests on: from statements that stand in the lent arrays to all that is told of them.
use Prim.Native.Nat.{ℕ, ◌*◌, ◌≤◌}
use lib.ListN.{length}
use mathlib.Core.Bool.{Bool}
use mathlib.Core.List.{List, [], ◌∷◌, ◌++◌}
use mathlib.Core.Path.{◌≡◌, sym, ap, ◌∙◌}
use Rattle.std.specs.Prelude.{Option, None, is_some}
use Rattle.fields.specs.Limits.{most_variables}
use Rattle.items.specs.declared.items.Statement.{Statement}
use Rattle.items.specs.Statements.{Names, AllName}
use Rattle.rules.specs.declared.clashes.Clash.{Clash}
use Rattle.rules.specs.declared.kinds.Kind.{Kind}
use Rattle.rules.specs.Tables.{facts, count_facts}
use Rattle.rules.specs.Derived.{derived, facts_of}
use Rattle.rules.specs.Clashes.{clash_in_rows, clash_of, clashes}
use Rattle.rules.specs.Support.{supported}
use Rattle.facts.specs.declared.growth.Growth.{Growth}
use Rattle.selections.specs.declared.grouped.Groups.{Groups}
use Rattle.selections.specs.declared.listed.Selection.{Selection}
use Rattle.selections.specs.Listed.{Selections, Listed}
use Rattle.selections.specs.Places.{Grouping}
use Rattle.selections.specs.Stands.{SelectionsStand}
use Rattle.selections.proofs.Theorems.{made_groups, made_spare, made_stand}
use Rattle.labels.specs.declared.spread.Spread.{Spread}
use Rattle.labels.specs.Labels.{LabelsStand}
use Rattle.answers.specs.Clashes.{ClashTold}
use Rattle.answers.specs.Supports.{SingleLabels, SupportTold}
use Rattle.answers.proofs.OneLabel.{single_labels_lem}
use Rattle.derivation.specs.declared.pairs.Pair.{Pair}
use Rattle.derivation.specs.Stands.{PairsStand, Pairs, Deriving, DerivedFrom}
use Rattle.closure.specs.declared.closed.Closed.{Closed}
use Rattle.closure.specs.Making.{variables_of, table_of}
use Rattle.closure.specs.Trials.{Trying, Asking, Standing, Tried}

-- groups made of a selection list
module _ {n : ℕ} {list : List Selection} {before groups : Groups} (lawful : Selections n list)
    (grouping : Grouping n list before groups) where
  pub may_derive : {pairs : List Pair} → Pairs n pairs → Deriving n pairs groups
  may_derive pairs = record { few = lawful.few; lawful_pairs = pairs; lawful_groups = made_groups lawful grouping }

  -- a table that `derive` left
  module _ {pairs : List Pair} {t : List ℕ} (from : DerivedFrom n pairs groups t) where
    pub may_be_read : (n ≤ most_variables) × (length t ≡ n * n)
    may_be_read = (lawful.few, from.shape.size)

    -- a question may be tried in a copy of it
    pub may_try : Trying n t groups
    may_try =
        record {
          few = lawful.few;
          shape = from.shape;
          framed = from.framed;
          descends = from.descends;
          lawful = made_groups lawful grouping;
          spare = made_spare lawful grouping;
        }

    pub may_ask : (c : Closed) (g : Growth) (q : Statement) → variables_of c ≡ n → table_of c ≡ t → g.n ≡ n
        → g.cells.now ≡ t → Names g.n q → Asking c g groups q
    may_ask c g q sizes table same copied named =
        record {
          copy = record { sizes = sizes ∙ sym same; table = copied ∙ sym table };
          trying = rw (same, table) may_try;
          names = named;
        }

    -- statements that stand in the lists
    module _ {st : List Statement} (names : AllName n st) (listed : PairsStand st pairs)
        (stand : SelectionsStand n st (Listed list)) where
      pub is_derived_table : t ≡ derived st n
      is_derived_table = from.table st names listed (made_stand lawful grouping stand)

      pub count_is : (kind : Kind) (r : ℕ) → r ≡ count_facts n (facts n t) kind → r ≡ count_facts n (facts_of st n) kind
      count_is kind r e = e ∙ ap (λ u. count_facts n (facts n u) kind) is_derived_table

      module _ {spreads : List Spread} (labelled : LabelsStand n st spreads) where
        pub clash_is : (r : Option Clash) → ClashTold n t spreads r → r ≡ clash_of st n
        unfolding clash_of
        clash_is r told = told.told st labelled ∙ ap (λ u. clash_in_rows n 0 n st (facts n u)) is_derived_table

        pub support_is : (q : Statement) (r : Bool) → SupportTold n t list spreads q r → r ≡ supported st (facts_of st n) q
        support_is q r told = told.told st stand labelled ∙ ap (λ u. supported st (facts n u) q) is_derived_table

        pub stands : Standing n t groups spreads st
        stands =
            record {
              names = names;
              derives = is_derived_table;
              selections = made_stand lawful grouping stand;
              labelled = labelled;
            }

        pub trial_is : (q : Statement) (r : Bool) → Tried n (Standing n t groups spreads) q r
            → r ≡ clashes (st ++ (q ∷ [])) n
        trial_is q r tried = tried.answer st stands

        -- where no clash is told
        pub one_label_each : ClashTold n t spreads None → SingleLabels n spreads
        unfolding clashes
        one_label_each nowhere =
            single_labels_lem labelled names (sym (ap is_some (clash_is None nowhere)))
