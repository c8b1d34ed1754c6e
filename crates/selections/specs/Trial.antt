-- A selection on trial: put at the free place behind a group, and taken out again.
use Rattle.std.specs.Prelude.{ℕ, ◌+◌, ◌<◌, length, set, ◌≡◌}
use Rattle.fields.specs.Limits.{most_variables}
use Rattle.selections.specs.declared.grouped.Child.{Child}
use Rattle.selections.specs.declared.grouped.Group.{Group}
use Rattle.selections.specs.declared.grouped.Groups.{Groups}
use Rattle.selections.specs.declared.trial.Kept.{Kept}
use Rattle.selections.specs.Groups.{group_places, group_at, child_at}

-- i has a group, and there is a place behind it
pub record Room (i : ℕ) (g : Groups) : Type 0 where
  pub group : i < most_variables
  pub place : (group_at g i).end < group_places

-- the group that ends elsewhere
abbrev pub ending : Group → ℕ → Group
ending group k = record group { end = k }

-- the groups with a child at the place behind the group of i, which ends one later
abbrev pub with_child : ℕ → Child → Groups → Groups
with_child i child g =
    record g {
      groups = set g.groups i (ending (group_at g i) ((group_at g i).end + 1));
      children = set g.children (group_at g i).end child;
    }

-- a child is put behind the group of i, and kept is what stood there
pub record Put (i : ℕ) (child : Child) (old new : Groups) (kept : Kept) : Type 0 where
  pub added : new ≡ with_child i child old
  pub kept_at : kept.at ≡ (group_at old i).end
  pub kept_child : kept.child ≡ child_at old (group_at old i).end
  pub room : Room i old
  pub groups_size : length old.groups ≡ most_variables
  pub children_size : length old.children ≡ group_places

-- the groups where that of i ends at the place kept, where stands again what was kept
abbrev pub without : ℕ → Kept → Groups → Groups
without i kept g =
    record g {
      groups = set g.groups i (ending (group_at g i) kept.at);
      children = set g.children kept.at kept.child;
    }
