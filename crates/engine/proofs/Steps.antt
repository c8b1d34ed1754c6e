-- The steps of a check of an accepted sheet: what each next call requires, and what all of them leave.
use Prim.Native.Nat.{ℕ}
use lib.ListN.{length, replicate}
use mathlib.Core.List.{List, map}
use mathlib.Core.Path.{◌≡◌, sym, ap, subst, ◌∙◌}
use Rattle.items.specs.Statements.{AllName}
use Rattle.sheet.specs.declared.whole.Accepted.{Accepted}
use Rattle.std.specs.Prelude.{Ok}
use Rattle.sheet.specs.Sheets.{read_sheet, sheet_of}
use Rattle.sheet.proofs.Theorems.{accepted_variables, accepted_stated}
use Rattle.rules.specs.declared.verdicts.Verdict.{Verdict}
use Rattle.rules.specs.Derived.{derived}
use Rattle.rules.specs.Clashes.{clash_of}
use Rattle.rules.specs.Tables.{facts}
use Rattle.rules.specs.Verdicts.{verdict_by, verdict_of}
use Rattle.rules.specs.Replies.{replies_of, reply_number}
use Rattle.rules.proofs.Derived.{derived_bytes}
use Rattle.selections.specs.declared.grouped.Groups.{Groups}
use Rattle.answers.specs.Clashes.{ClashTold}
use Rattle.statements.specs.declared.lists.Lists.{Lists}
use Rattle.statements.specs.Lists.{Stand}
use Rattle.closure.specs.declared.closed.Closed.{Closed}
use Rattle.closure.specs.Making.{Made, variables_of, table_of, spreads_of}
use Rattle.closure.proofs.Theorems.{is_derived_table, clash_is, stands, may_try, one_label_each}
use Rattle.closure.specs.Trials.{Standing}
use Rattle.engine.specs.Replying.{Held}
use Rattle.outcomes.specs.declared.outcomes.Outcome.{Outcome}
use Rattle.outcomes.specs.Closed.{outcome_by}
use Rattle.promise.specs.Checks.{where_consistent}
use Rattle.engine.specs.Steps.{Accepting, Answering, Filled}

-- what an accepted sheet states stands in lists, and a table is derived from it
module _ (b : List ℕ) {x : Accepted} (read : read_sheet b ≡ Ok x) {lists : Lists}
    (l : Stand x.header.variables (sheet_of b).stated lists) {groups : Groups} {t : List ℕ}
    (made : Made x.header.variables lists.pairs.items lists.selections.items groups t) where
  sheet_names : AllName x.header.variables (sheet_of b).stated
  sheet_names = accepted_stated b x read

  pub table_is : t ≡ derived (sheet_of b).stated (sheet_of b).n
  table_is =
      rw (accepted_variables b x read)
      (is_derived_table l.lawful_selections made.grouping made.from sheet_names l.pairs_stand l.selections_stand)

  -- what is known of it
  module _ (c : Closed) (sizes : variables_of c ≡ x.header.variables) (table : table_of c ≡ t)
      (selections : c.selections.now ≡ lists.selections.items) (labels : spreads_of c ≡ lists.labels.spreads) where
    clash_told : ClashTold x.header.variables t lists.labels.spreads c.clash
    clash_told =
        rw (← table, ← labels)
        (subst (λ n. ClashTold n (table_of c) (spreads_of c) c.clash) sizes c.told.first)

    clash_is_first : c.clash ≡ clash_of (sheet_of b).stated (sheet_of b).n
    clash_is_first =
        rw (accepted_variables b x read)
        (clash_is l.lawful_selections made.grouping made.from sheet_names l.pairs_stand l.selections_stand
        l.labelled c.clash clash_told)

    held : Held x.header.variables c groups (sheet_of b).stated
    held =
        record {
          standing =
              subst (λ u. Standing x.header.variables u groups (spreads_of c) (sheet_of b).stated) (sym table)
              (subst (λ u. Standing x.header.variables t groups u (sheet_of b).stated) (sym labels)
              (stands l.lawful_selections made.grouping made.from sheet_names l.pairs_stand l.selections_stand
              l.labelled));
          listed = rw selections l.selections_stand;
        }

    module _ {facts₀ work replies : List ℕ} (a : Accepting b x facts₀ work replies) where
      pub lists_answering : length t ≡ length work → Answering b x c groups (sheet_of b).stated work replies
      lists_answering same_size =
          record {
            questions = a.questions;
            sizes = sizes;
            same_size = rw table same_size;
            selections = rw selections l.lawful_selections;
            trying = rw table (may_try l.lawful_selections made.grouping made.from);
            single = λ e.
                rw labels
                (one_label_each l.lawful_selections made.grouping made.from sheet_names l.pairs_stand
                l.selections_stand l.labelled (subst (ClashTold _ _ _) e clash_told));
            held = held;
          }

      -- so all is as it has to be
      pub lists_filled : {work' replies' : List ℕ} {verdict : Verdict} {r : Outcome} → verdict ≡ verdict_by c.clash
          → r ≡ outcome_by x.header.variables (facts x.header.variables t) verdict
          → work' ≡ where_consistent (verdict_by c.clash) (replicate (length work) 0) work
          → replies' ≡ where_consistent (verdict_by c.clash) (map reply_number (replies_of (sheet_of b))) replies
          → Filled (sheet_of b) work replies t work' replies' r
      unfolding verdict_of
      lists_filled by outcome cleared replied =
          let first = ap verdict_by clash_is_first in
          let is = by ∙ first in
          let n_is = accepted_variables b x read in
          record {
            outcome = rw (← is, ← table_is, n_is) outcome;
            facts_are = table_is ∙ sym (derived_bytes (sheet_of b).n (sheet_of b).stated);
            work_is = rw (← first, n_is, ← a.work_size) cleared;
            replies_are = rw (← first) replied;
          }
