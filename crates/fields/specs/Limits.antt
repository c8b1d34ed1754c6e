-- The limits of the format; the longest sheet and all rooms follow from them.
use Rattle.std.specs.Prelude.{ℕ}

-- the most variables
abbrev pub most_variables : ℕ
most_variables = 128

-- the most records, and the most questions
abbrev pub most_items : ℕ
most_items = 1024

-- the most features of a path
abbrev pub most_features : ℕ
most_features = 8
