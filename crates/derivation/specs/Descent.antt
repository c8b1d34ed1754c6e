-- F2 and F4: what is handed down to children at one feature.
use Rattle.std.specs.Prelude.{ℕ, ◌<◌, ◌≤◌, Bool, true, false, List, ◌≡◌}
use Rattle.fields.specs.Limits.{most_variables}
use Rattle.fields.specs.Tests.{same, pick}
use Rattle.rules.specs.declared.kinds.Kind.{Kind}
use Rattle.rules.specs.Facts.{Holds}
use Rattle.rules.specs.Tables.{cell_at, facts, Shape}
use Rattle.table.specs.declared.queue.Entry.{Entry}
use Rattle.table.specs.Cells.{is_lacking}
use Rattle.table.specs.Queue.{IsEntry, State, Ready}
use Rattle.facts.specs.Additions.{Facts, Said, Among, Framed}
use Rattle.selections.specs.declared.grouped.Groups.{Groups}
use Rattle.selections.specs.Groups.{group_at, child_at, Grouped, AreGroups, group_places}

-- where the group of a variable starts and ends, and the child at a place
abbrev pub start_at : Groups → ℕ → ℕ
start_at groups i = (group_at groups i).start

abbrev pub end_at : Groups → ℕ → ℕ
end_at groups i = (group_at groups i).end

abbrev pub feature_at : Groups → ℕ → ℕ
feature_at groups k = (child_at groups k).feature.0

abbrev pub variable_at : Groups → ℕ → ℕ
variable_at groups k = (child_at groups k).variable.0

-- where the place k has the feature f, w is told of i and the child there
pub record Under (groups : Groups) (w f i k : ℕ) (kind : Kind) (x y : ℕ) : Type 0 where
  pub feature : feature_at groups k ≡ f
  pub told : Said w i (variable_at groups k) kind x y

-- w is told of i and each child of v at f
abbrev pub UnderAll : Groups → ℕ → ℕ → ℕ → ℕ → Facts
UnderAll groups w f i v = Among (start_at groups v) (end_at groups v) (Under groups w f i)

-- w is told of the children of u and v at common features
abbrev pub HandedDown : Groups → ℕ → ℕ → ℕ → Facts
HandedDown groups w u v =
    Among (start_at groups u) (end_at groups u)
    (λ k. UnderAll groups w (feature_at groups k) (variable_at groups k) v)

-- a table that F1 and F3 leave as it is, a queue with room, and groups
pub record Running (n : ℕ) (s : State) (groups : Groups) : Type 0 where
  pub ready : Ready n s
  pub framed : Framed n (facts n s.table)
  pub lawful : AreGroups n groups

-- w is to be handed down from u and v, or from one child of u
pub record Handing (n : ℕ) (s : State) (groups : Groups) (w u v : ℕ) : Type 0 where
  pub running : Running n s groups
  pub cell : w < 4
  pub first : u < n
  pub second : v < n

-- the child at place k may be asked
pub record Telling (n : ℕ) (t : List ℕ) (groups : Groups) (i k : ℕ) : Type 0 where
  pub few : n ≤ most_variables
  pub shape : Shape n t
  pub child : i < n
  pub place : k < group_places
  pub other : variable_at groups k < n

-- the place has the feature, and w is not told yet of i and the child there
unfoldable pub is_new : ℕ → List ℕ → Groups → ℕ → ℕ → ℕ → ℕ → Bool
is_new n t groups w f i k =
    pick (same (feature_at groups k) f) (is_lacking (cell_at n t i (variable_at groups k)) w) false

-- the children at each place up to an end may be asked
pub record Seeking (n : ℕ) (t : List ℕ) (groups : Groups) (i from end : ℕ) : Type 0 where
  pub few : n ≤ most_variables
  pub shape : Shape n t
  pub child : i < n
  pub room : end ≤ group_places
  pub others : (k : ℕ) → from ≤ k → k < end → variable_at groups k < n

-- no place is new, from one on up to another
abbrev pub NoneNew : ℕ → List ℕ → Groups → ℕ → ℕ → ℕ → ℕ → ℕ → Type 0
NoneNew n t groups w f i from upto =
    (k : ℕ) → from ≤ k → k < upto → is_new n t groups w f i k ≡ false

-- the first new place from one on, before an end
pub record FirstNew (n : ℕ) (t : List ℕ) (groups : Groups) (w f i from end at : ℕ) : Type 0 where
  pub behind : from ≤ at
  pub ahead : at < end
  pub passed : NoneNew n t groups w f i from at
  pub found : is_new n t groups w f i at ≡ true

-- the same of the children at each place up to an end, with those at the places from first to last
pub record SeekingRow (n : ℕ) (t : List ℕ) (groups : Groups) (first last from end : ℕ) : Type 0 where
  pub few : n ≤ most_variables
  pub shape : Shape n t
  pub row_room : end ≤ group_places
  pub room : last ≤ group_places
  pub rows : (k : ℕ) → from ≤ k → k < end → variable_at groups k < n
  pub others : (x : ℕ) → first ≤ x → x < last → variable_at groups x < n

-- at no place is there anything to tell, from one on up to another
abbrev pub NoRowNew : ℕ → List ℕ → Groups → ℕ → ℕ → ℕ → ℕ → ℕ → Type 0
NoRowNew n t groups w first last from upto =
    (k : ℕ) → from ≤ k → k < upto
    → NoneNew n t groups w (feature_at groups k) (variable_at groups k) first last

-- a place from one on, before an end, with nothing to tell at any place before it
pub record NextRow (n : ℕ) (t : List ℕ) (groups : Groups) (w first last from end at : ℕ) : Type 0 where
  pub behind : from ≤ at
  pub ahead : at < end
  pub passed : NoRowNew n t groups w first last from at

-- an entry of the queue is to be visited
pub record Visiting (n : ℕ) (s : State) (groups : Groups) (entry : Entry) : Type 0 where
  pub running : Running n s groups
  pub pair : IsEntry n entry

-- a fact of its variables holds of their children at a common feature
pub record Visited (n : ℕ) (t : List ℕ) (groups : Groups) (entry : Entry) (kind : Kind) (x y : ℕ) : Type 0 where
  pub parents : Holds (facts n t) kind entry.first.0 entry.second.0
  pub feature : ℕ
  pub first : Grouped groups entry.first.0 feature x
  pub second : Grouped groups entry.second.0 feature y
