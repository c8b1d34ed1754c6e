-- Blocks that follow one another are all lines.
use Rattle.std.specs.Prelude.{take, drop}
use Rattle.std.specs.List.{concat}
use Rattle.std.proofs.Math.Seq.{take-add}
use Rattle.std.proofs.lemmas.List.{length-append, take_at, append_assoc, take-append-drop}
use Rattle.std.proofs.lemmas.List.Folds.{concat-append}
use Prim.Native.Nat.{ℕ, ◌-◌, ◌≤◌}
use lib.ListN.{length}
use mathlib.Core.List.{List, [], ◌∷◌, ◌++◌}
use mathlib.Core.Logic.{⊎_elim}
use mathlib.Core.Path.{◌≡◌, refl, sym, ap, ◌∙◌}
use native.Mathlib.Omega.{arith}
use Rattle.std.proofs.lemmas.Bool.{cases_lt}
use Rattle.lines.specs.declared.blocks.Block.{Block}
use Rattle.lines.specs.Blocks.{fitting, block, BlockTold}
use Rattle.lines.proofs.Fitting.{fits, too_long}

-- lines that fit are the first ones, and no longer than the room
record First (room : ℕ) (lines all : List (List ℕ)) : Type 0 where
  pub first : take (length lines) all ≡ lines
  pub within : length (concat lines) ≤ room

fitting_first : (room : ℕ) (lines : List (List ℕ)) → First room (fitting room lines) lines
unfolding fitting
fitting_first room [] = record { first = refl; within = omega arith }
fitting_first room (line ∷ lines) =
    ⊎_elim (λ short. rw (too_long room line lines short) (record { first = refl; within = omega arith }))
    (λ more.
    let rest = fitting_first (room - length line) lines in
    rw (fits room line lines more)
    (record {
      first = ap (λ x. line ∷ x) rest.first;
      within = omega (arith, rest.within, length-append line (concat (fitting (room - length line) lines)));
    }))
    (cases_lt room (length line))

module _ {lines : List (List ℕ)} {k : ℕ} {out out' : List ℕ} {w : Block} (told : BlockTold lines k out out' w) where
  pub block_within : w.length ≤ length out
  block_within = rw told.length_is (fitting_first (length out) (drop k lines)).within

  -- behind the lines before it, a block reaches to the line that it says comes next
  pub block_next : concat (take k lines) ++ take w.length out' ≡ concat (take w.next lines)
  block_next =
      let lines_here = block (length out) k lines in
      let first = (fitting_first (length out) (drop k lines)).first in
      rw (
        told.bytes,
        take_at (concat lines_here) (drop w.length out) w.length (sym told.length_is),
        told.next_is,
        take-add k (length lines_here) lines,
        first,
      )
      (sym (concat-append (take k lines) lines_here))

  -- and the lines from there on follow it
  pub block_parts : concat lines ≡ concat (take k lines) ++ (take w.length out' ++ concat (drop w.next lines))
  block_parts =
      ap concat (sym (take-append-drop w.next lines)) ∙ concat-append (take w.next lines) (drop w.next lines)
      ∙ ap (λ x. x ++ concat (drop w.next lines)) (sym block_next)
      ∙ append_assoc (concat (take k lines)) (take w.length out') (concat (drop w.next lines))
