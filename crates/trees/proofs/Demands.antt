-- For every list of bytes that the reader accepts, demands 2 and 3 hold of its sheet.
use Prim.Native.Nat.{ℕ, ◌<◌}
use Rattle.std.specs.Prelude.{Ok}
use mathlib.Core.Bool.{true, false}
use mathlib.Core.List.{List}
use mathlib.Core.Logic.{◌↔◌}
use mathlib.Core.Path.{◌≡◌}
use Rattle.items.specs.declared.items.Statement.{Statement}
use Rattle.items.specs.Questions.{holds, Asks}
use Rattle.items.specs.Statements.{All, Names}
use Rattle.sheet.specs.declared.whole.Accepted.{Accepted}
use Rattle.sheet.specs.Sheets.{Sheet, read_sheet, sheet_of, sheet_at}
use Rattle.sheet.proofs.Theorems.{accepted_sheet, accepted_names, names_below}
use Rattle.rules.specs.declared.replies.Reply.{Reply}
use Rattle.rules.specs.Demand.{Demand2, Smallest}
use Rattle.rules.specs.Replies.{fails, fails_with, reply_to}
use Rattle.rules.proofs.Demand as Facts
use Rattle.rules.proofs.Lists.{all_map}
use Rattle.trees.specs.Assignments.{Counts}
use Rattle.trees.specs.Demand.{Met, Some, Answers, Demand3}
use Rattle.trees.specs.Trees.{Present, Path}
use Rattle.trees.proofs.Independence.{one_with_path}
use Rattle.trees.proofs.Meaning.{exactly, never_by_trial}

module _ (b : List ℕ) (a : Accepted) (accepted : read_sheet b ≡ Ok a) where
  -- its sheet: n variables, what its records state and its questions ask
  abbrev sheet : Sheet
  sheet = sheet_at b a

  -- the facts are those that F1 to F4 derive, a clash is told where F5 applies, replies agree with support
  pub demand_2 : Demand2 sheet
  demand_2 = Facts.demand_2 sheet (accepted_names b a accepted).stated

  -- and no closed set of facts, given by a test or not, is smaller
  pub demand_2_smallest : Smallest sheet
  demand_2_smallest = Facts.all_smallest sheet

  -- each answer is given exactly when it is true of trees
  pub demand_3 : Demand3 sheet
  demand_3 = exactly sheet (accepted_names b a accepted).stated

  -- so the reply to each question of the sheet, where it is consistent, is given exactly when it is true
  pub demand_3_asked : fails sheet ≡ false → All (λ q. Answers (Counts sheet) q (reply_to sheet q)) sheet.asked
  demand_3_asked e =
      all_map (Asks sheet.n) _ sheet.asked (demand_3.answers e) (accepted_names b a accepted).asked

  -- and never exactly where the sheet that states what is asked fails
  pub never_where_it_fails : fails sheet ≡ false → (x : Statement) → Names sheet.n x
      → (reply_to sheet (holds x) ≡ Reply.Never) ↔ (fails_with sheet x ≡ true)
  never_where_it_fails e x named =
      never_by_trial sheet (accepted_names b a accepted).stated e x named

  -- the same of the sheet that any bytes give
  pub sheet_2 : Demand2 (sheet_of b)
  sheet_2 = rw (accepted_sheet b a accepted) demand_2

  pub sheet_3 : Demand3 (sheet_of b)
  sheet_3 = rw (accepted_sheet b a accepted) demand_3

  pub sheet_asked : fails (sheet_of b) ≡ false
      → All (λ q. Answers (Counts (sheet_of b)) q (reply_to (sheet_of b) q)) (sheet_of b).asked
  sheet_asked = rw (accepted_sheet b a accepted) demand_3_asked

  -- and where some assignment counts, some has the path that is asked for
  pub sheet_possible : Met (Counts (sheet_of b)) → (i : ℕ) (p : Path) → i < (sheet_of b).n
      → Some (Counts (sheet_of b)) λ v. Present (v i p)
  sheet_possible met i p h =
      one_with_path (sheet_of b) (names_below b).stated (sheet_3.consistent.1 met) i h p
