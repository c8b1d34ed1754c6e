-- Two tables and a reply buffer of the largest sizes are too short for no sheet.
use Rattle.std.specs.Prelude.{Ok}
use Prim.Native.Nat.{ℕ, ◌≤◌}
use mathlib.Core.List.{List}
use mathlib.Core.Path.{◌≡◌, refl}
use native.Mathlib.Nat.{mul-le-mul}
use native.Mathlib.Omega.{arith}
use Rattle.fields.specs.Refusals.{short_table, short_replies}
use Rattle.fields.specs.Tests.{pick}
use Rattle.fields.proofs.Choice.{not_less}
use Rattle.sheet.specs.Headers.{size_for, largest_table, reply_count, most_replies}
use Rattle.sheet.specs.declared.whole.Accepted.{Accepted}
use Rattle.sheet.specs.Sheets.{read_sheet}
use Rattle.sheet.proofs.Theorems.{accepted_read}
use Rattle.outcomes.specs.Judged.{judged}

module _ (b : List ℕ) (a : Accepted) (e : read_sheet b ≡ Ok a) where
  pub table_fits : size_for a.header.variables ≤ largest_table
  unfolding size_for
  table_fits =
      let few = (accepted_read b a e).heads.few in
      omega (arith, mul-le-mul few few)

  pub replies_fit : reply_count a.header ≤ most_replies
  unfolding reply_count
  replies_fit = (accepted_read b a e).heads.questions

  -- so an accepted sheet is not refused for them
  pub buffers_serve : judged b largest_table largest_table most_replies ≡ Ok a
  unfolding judged short_table short_replies pick
  buffers_serve = rw (e, not_less largest_table _ table_fits, not_less most_replies _ replies_fit) refl
