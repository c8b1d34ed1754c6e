-- What the engine and the theory rest on, of every list of bytes.
use Rattle.std.specs.Prelude.{Ok, Err}
use Prim.Native.Nat.{ℕ, ◌≤◌}
use mathlib.Core.List.{List}
use mathlib.Core.Path.{◌≡◌, refl, ap, subst, ◌∙◌}
use lib.ListN.{length, length-map}
use Rattle.fields.specs.declared.refusals.Place.{Place}
use Rattle.fields.specs.declared.refusals.Refusal.{Refusal}
use Rattle.fields.specs.Limits.{most_variables}
use Rattle.fields.proofs.Chains.{told}
use Rattle.sheet.specs.Headers.{reply_count}
use Rattle.items.specs.Items.{item_at, items_of}
use Rattle.items.specs.Statements.{AllName}
use Rattle.items.specs.Questions.{AllAsk}
use Rattle.fields.proofs.Runs.{run_count}
use Rattle.sheet.specs.declared.whole.Accepted.{Accepted}
use Rattle.sheet.specs.Sheets.{Named, read_sheet, longest, asks, sheet_at, sheet_of}
use Rattle.sheet.specs.Told.{nothing, told_of}
use Rattle.sheet.proofs.Accepting.{Accepts, sheet_spans}
use Rattle.sheet.proofs.Longest.{longest_sheet, longest_length, longest_accepted}
use Rattle.sheet.proofs.Named.{sheet_named}

-- what it states and asks names variables below n
pub names_below : (s : List ℕ) → Named (sheet_of s)
names_below s = sheet_named s

module _ (s : List ℕ) (a : Accepted) (e : read_sheet s ≡ Ok a) where
  -- where it is accepted, header, records and questions are read to its end, so that none is refused when read again
  pub accepted_read : Accepts s a
  accepted_read = told (sheet_spans s) e

  -- its sheet is the one that its header and the offset of its questions give, and that names variables below n
  pub accepted_sheet : sheet_of s ≡ sheet_at s a
  unfolding sheet_of
  accepted_sheet = rw e refl

  pub accepted_names : Named (sheet_at s a)
  accepted_names = subst Named accepted_sheet (names_below s)

  -- so it has the variables of its header, and names no other
  pub accepted_variables : (sheet_of s).n ≡ a.header.variables
  unfolding sheet_at
  accepted_variables = ap (λ x. x.n) accepted_sheet

  -- and no more of them than there may be
  pub accepted_few : (sheet_of s).n ≤ most_variables
  accepted_few = rw accepted_variables accepted_read.heads.few

  pub accepted_stated : AllName a.header.variables (sheet_of s).stated
  accepted_stated = rw (← accepted_variables) (names_below s).stated

  pub accepted_asked : AllAsk a.header.variables (sheet_of s).asked
  accepted_asked = rw (← accepted_variables) (names_below s).asked

  -- it is no longer than the longest
  pub accepted_short : length s ≤ longest
  accepted_short = accepted_read.short

  -- it asks as many questions as its header says
  pub asked_count : length (sheet_of s).asked ≡ a.header.questions
  unfolding sheet_of sheet_at
  asked_count =
      let items = items_of a.header.questions Place.Question s a.header.variables a.asked in
      rw e (length-map items (asks s) ∙ run_count (item_at Place.Question s a.header.variables) _ a.asked _ accepted_read.questions_end)

  -- so as many as it gets replies
  pub asked_replies : length (sheet_of s).asked ≡ reply_count a.header
  unfolding reply_count
  asked_replies = asked_count

-- no refusal is told behind the longest sheet
pub refused_near : (s : List ℕ) (r : Refusal) → read_sheet s ≡ Err r → r.at ≤ longest
refused_near s r e = told (sheet_spans s) e

-- a sheet as long as the longest is accepted
pub longest_is_reached : (s : List ℕ) × (length s ≡ longest) × (told_of (read_sheet s) ≡ nothing)
longest_is_reached = (longest_sheet, longest_length, rw longest_accepted.1 refl)
