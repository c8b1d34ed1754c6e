-- Support and the trial decide the reply.
use Prim.Native.Nat.{ℕ, ◌<◌}
use mathlib.Core.Bool.{Bool, true, false}
use mathlib.Core.List.{List}
use mathlib.Core.Path.{◌≡◌, refl, sym, ap, subst, ◌∙◌}
use Rattle.fields.specs.declared.numbers.Variable.{Variable}
use Rattle.fields.specs.Tests.{pick}
use Rattle.fields.proofs.Choice.{chosen, passed}
use Rattle.items.specs.declared.items.Statement.{Statement}
use Rattle.items.specs.declared.paths.Path.{Path}
use Rattle.items.specs.declared.items.Question.{Question}
use Rattle.items.specs.Paths.{features_in, path_at}
use Rattle.items.specs.Questions.{holds, has_path, query_of}
use Rattle.rules.specs.declared.replies.Reply.{Reply}
use Rattle.rules.specs.Tables.{facts}
use Rattle.rules.specs.Derived.{facts_of}
use Rattle.rules.specs.Support.{supported}
use Rattle.rules.specs.Paths.{path_supported}
use Rattle.rules.specs.declared.kinds.Kind.{Kind}
use Rattle.facts.specs.declared.growth.Growth.{Growth}
use Rattle.rules.specs.Replies.{reply_by}
use Rattle.selections.specs.declared.grouped.Groups.{Groups}
use Rattle.answers.specs.Supports.{SupportTold}
use Rattle.closure.specs.declared.closed.Closed.{Closed}
use Rattle.closure.specs.Making.{table_of, spreads_of}
use Rattle.closure.specs.Trials.{Standing, Tried}
use Rattle.closure.specs.Making.{variables_of}
use Rattle.selections.specs.Listed.{Selections}
use Rattle.paths.specs.Sets.{Transitive}
use Rattle.paths.specs.Walks.{PathTold}
use Rattle.engine.proofs.Reading.{same_features}
use Rattle.engine.specs.Replying.{Replying, Following, IsRead, Held, ReplyTold, PathReplied}

module _ {n m : ℕ} (same : m ≡ n) (c : Closed) (groups : Groups) {q : Statement} {supports : Bool}
    (told : SupportTold m (table_of c) c.selections.now (spreads_of c) q supports) where
  support_is : (st : List Statement) → Held n c groups st → supports ≡ supported st (facts_of st n) q
  support_is st held =
      (rw same at told).told st held.listed held.standing.labelled
      ∙ ap (λ t. supported st (facts n t) q) held.standing.derives

  pub always_told : supports ≡ true → ReplyTold n (Held n c groups) (holds q) Reply.Always
  unfolding reply_by
  always_told found = record { told = λ st asked held. chosen _ _ _ (sym (support_is st held) ∙ found) refl }

  module _ {clash : Bool} (no : supports ≡ false)
      (tried : Tried n (Standing n (table_of c) groups (spreads_of c)) q clash) where
    pub never_told : clash ≡ true → ReplyTold n (Held n c groups) (holds q) Reply.Never
    unfolding reply_by
    never_told found =
        record {
          told = λ st asked held.
              passed _ _ _ (sym (support_is st held) ∙ no)
              (chosen _ _ _ (sym (tried.answer st held.standing) ∙ found) refl);
        }

    pub open_told : clash ≡ false → ReplyTold n (Held n c groups) (holds q) Reply.Open
    unfolding reply_by
    open_told free =
        record {
          told = λ st asked held.
              passed _ _ _ (sym (support_is st held) ∙ no)
              (passed _ _ _ (sym (tried.answer st held.standing) ∙ free) refl);
        }

-- a path by its support alone
module _ (c : Closed) {i : Variable} {p : List ℕ} {has : Bool}
    (told : PathTold (variables_of c) (table_of c) c.selections.now i.0 p has) where
  path_is : (groups : Groups) (st : List Statement) → Held (variables_of c) c groups st
      → has ≡ path_supported (variables_of c) st (facts_of st (variables_of c)) i.0 p
  path_is groups st held =
      told.told st held.listed
      ∙ ap (λ t. path_supported (variables_of c) st (facts (variables_of c) t) i.0 p) held.standing.derives

  pub path_always : has ≡ true → PathReplied c i p Reply.Always
  unfolding reply_by
  path_always found =
      record {
        told = λ groups. record { told = λ st asked held. chosen _ _ _ (sym (path_is groups st held) ∙ found) refl };
      }

  pub path_open : has ≡ false → PathReplied c i p Reply.Open
  unfolding reply_by pick
  path_open none =
      record {
        told = λ groups. record { told = λ st asked held. passed _ _ _ (sym (path_is groups st held) ∙ none) refl };
      }

-- what is replied to of a sheet can be followed
pub following : {c : Closed} {g : Growth} {groups : Groups} {i : ℕ} → Replying c g groups → i < g.n → Following c i
following {c} {g} {groups} {i} r h =
    let same = sym r.copy.sizes in
    record {
      variable = subst (λ n. i < n) same h;
      selections = subst (λ n. Selections n c.selections.now) same r.selections;
      transitive =
          subst (λ n. Transitive (facts n (table_of c))) same (record { through = r.trying.framed.through Kind.Ordered });
    }

-- and the reply to its path is that to the question
pub path_replied : {c : Closed} (s : List ℕ) {n : ℕ} {groups : Groups} {i : Variable} {path : Path} {q : Question} {r : Reply}
    → variables_of c ≡ n → q ≡ Question.HasPath i path → IsRead s q
    → PathReplied c i (features_in path.count (path_at s path.first path.count)) r
    → ReplyTold n (Held n c groups) (query_of s q) r
path_replied {c} s {n} {groups} {i} {path} {q} {r} same is read replied =
    subst (λ x. ReplyTold n (Held n c groups) (query_of s x) r) (sym is)
    (subst (λ p. ReplyTold n (Held n c groups) (has_path i p) r) (same_features s i path (subst (IsRead s) is read))
    (subst (λ m. ReplyTold m (Held m c groups) (has_path i (features_in path.count (path_at s path.first path.count))) r)
    same (replied.told groups)))
