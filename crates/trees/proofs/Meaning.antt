-- Each answer exactly when it is true of trees: the clash, consistent, the label told of a variable at a path, and the
-- reply to a question.
use Prim.Native.Nat.{ℕ, ◌<◌}
use mathlib.Core.Bool.{true, false, false≢true}
use mathlib.Core.List.{[], ◌∷◌, ◌++◌}
use mathlib.Core.Logic.{◌↔◌}
use mathlib.Core.Option.{some}
use mathlib.Core.Path.{◌≡◌, sym, ◌∙◌}
use Rattle.std.proofs.lemmas.Bool.{both_ways}
use Rattle.items.specs.declared.items.Statement.{Statement}
use Rattle.items.specs.Questions.{Query, holds, has_path, Asks}
use Rattle.items.specs.Statements.{Names, AllName}
use Rattle.sheet.specs.Sheets.{Sheet}
use Rattle.rules.specs.declared.replies.Reply.{Reply}
use Rattle.rules.specs.Clashes.{clashes}
use Rattle.rules.specs.Roots.{path_label}
use Rattle.rules.specs.Replies.{fails, with_statement, supports, follows, tried, fails_with, reply_by, reply_to}
use Rattle.rules.proofs.Logic.{decided}
use Rattle.rules.proofs.Lists.{all_with, all_without}
use Rattle.rules.proofs.Roots.{path_told}
use Rattle.trees.specs.Trees.{Path}
use Rattle.trees.specs.Assignments.{Satisfies, Keeps, Meets, Counts}
use Rattle.trees.specs.Demand.{Met, Unmet, Every, LabelIs, Answers, Tested, Demand3}
use Rattle.trees.proofs.Answering.{Shows, always_by, tested_by, answers_by}
use Rattle.trees.proofs.Independence.{least_of, least_of_meets, least_supported, least_told, one_with_path}
use Rattle.trees.proofs.Independence.{one_against_all}
use Rattle.trees.proofs.Sound.{no_clash, true_supported, true_path, true_label}

module _ (s : Sheet) (fit : AllName s.n s.stated) where
  -- where nothing clashes the least solution meets the sheet
  met : fails s ≡ false → Met (Meets s)
  met e = (least_of s fit e, least_of_meets s fit e)

  unmet : clashes s.stated s.n ≡ true → Unmet (Meets s)
  unmet e v m = no_clash s.n s.stated v m.kept e

  -- what the support of a question and its trial show
  shows : fails s ≡ false → (q : Query) → Asks s.n q → Shows (Counts s) q (follows s q) (tried (fails_with s) q)
  shows e (has_path i p) named =
      record {
        always = λ a v m. true_path s.n s.stated v m.kept m.trees i.0 p a;
        never = λ b. absurd (false≢true b);
        keeping = λ b. one_with_path s fit e i.0 named p;
        breaking = λ a.
            (least_of s fit e, (least_of_meets s fit e, λ x. both_ways _ a (least_supported s fit e i.0 named p x)));
      }
  shows e (holds x) named =
      record {
        always = λ a v m. true_supported s.n s.stated v m.kept x a;
        never = λ b v m k. no_clash s.n (s.stated ++ (x ∷ [])) v (all_with (Satisfies v) s.stated x m.kept k) b;
        keeping = λ b.
            let found = least_of_meets (with_statement s x) more b in
            let kept = all_without (Satisfies (least_of (with_statement s x) more b)) s.stated x found.kept in
            (least_of (with_statement s x) more b, (record { trees = found.trees; kept = kept.0 }, kept.1));
        breaking = λ a.
            let found = one_against_all s fit e (x ∷ []) (named, tt) (a, tt) in
            (found.0, (found.1.0, found.1.1.0));
      }
    where
      more : AllName s.n (with_statement s x).stated
      more = all_with (Names s.n) s.stated x fit named

  answers : fails s ≡ false → (q : Query) → Asks s.n q → Answers (Counts s) q (reply_to s q)
  unfolding reply_by
  answers e q named = answers_by (shows e q named) (met e)

  -- what is asked is supported exactly where all keep it
  pub exactly_supported : fails s ≡ false → (q : Query) → Asks s.n q
      → (follows s q ≡ true) ↔ Every (Counts s) λ v. Keeps v q
  exactly_supported e q named = always_by (shows e q named)

  -- of a statement support and the trial are exact, each by itself
  pub exactly_tested : fails s ≡ false → (x : Statement) → Names s.n x → Tested (Counts s) x (supports s x) (fails_with s x)
  exactly_tested e x named = tested_by (shows e (holds x) named)

  -- the label told at a path is the one that the least solution has there
  labels : fails s ≡ false → (i : ℕ) (p : Path) (a : ℕ) → i < s.n
      → (path_label s i p ≡ some a) ↔ LabelIs (Counts s) i p a
  labels e i p a h = (
    λ is v m. true_label s.n s.stated v m.kept i p a (sym (path_told s i p e) ∙ is),
    λ every. path_told s i p e ∙ least_told s fit e i h p a (every (least_of s fit e) (least_of_meets s fit e)),
  )

  -- demand 3
  pub exactly : Demand3 s
  exactly =
      record {
        clash = (
          unmet,
          λ none. decided (clashes s.stated s.n) (λ e. e) (λ e. let found = met e in absurd (none found.0 found.1)),
        );
        consistent = (met, λ found. decided (fails s) (λ e. absurd (unmet e found.0 found.1)) (λ e. e));
        labels = labels;
        answers = answers;
      }

  -- so never is answered exactly where the sheet with the question fails
  pub never_by_trial : fails s ≡ false → (x : Statement) → Names s.n x
      → (reply_to s (holds x) ≡ Reply.Never) ↔ (fails_with s x ≡ true)
  never_by_trial e x named =
      let a = (answers e (holds x) named).is_never in
      let t = (exactly_tested e x named).never in
      (λ r. t.1 (a.0 r), λ f. a.1 (t.0 f))
