-- Whole lines, as many as there is room for.
use Rattle.std.specs.Prelude.{ℕ, ◌+◌, ◌-◌, ◌<◌, ◌≤◌, length, drop, List, [], ◌∷◌, ◌++◌, ◌≡◌}
use Rattle.std.specs.List.{concat}
use Rattle.fields.specs.Tests.{less, pick}
use Rattle.lines.specs.declared.blocks.Block.{Block}

-- room that serves every line
abbrev pub line_room : ℕ
line_room = 80

-- and in it a number of 64 bits, with the space before it
abbrev pub number_room : ℕ
number_room = 21

-- the first lines, as many as fit whole into so many bytes
unfoldable pub fitting : ℕ → List (List ℕ) → List (List ℕ)
fitting room [] = []
fitting room (line ∷ lines) = pick (less room (length line)) [] (line ∷ fitting (room - length line) lines)

-- those from line k on
abbrev pub block : ℕ → ℕ → List (List ℕ) → List (List ℕ)
block room k lines = fitting room (drop k lines)

-- as many whole lines from line k on as an array has room for are written over its first bytes, and told are how many
-- bytes these are and which line comes next: a later one, where there is one and the array has room for every line
pub record BlockTold (lines : List (List ℕ)) (k : ℕ) (out out' : List ℕ) (w : Block) : Type 0 where
  pub bytes : out' ≡ concat (block (length out) k lines) ++ drop w.length out
  pub length_is : w.length ≡ length (concat (block (length out) k lines))
  pub next_is : w.next ≡ k + length (block (length out) k lines)
  pub moves : line_room ≤ length out → k < length lines → k < w.next
