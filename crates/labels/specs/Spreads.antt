-- How many different labels are stated: none, one, or several.
use Rattle.std.specs.Prelude.{ℕ, zero, suc, get_or, Bool, true, false, not, List, Option, None, Some}
use Rattle.fields.specs.declared.numbers.Label.{Label}
use Rattle.fields.specs.Tests.{same, pick}
use Rattle.items.specs.declared.items.Statement.{Statement}
use Rattle.rules.specs.Stated.{if_labelling}
use Rattle.labels.specs.declared.spread.Spread.{Spread}

-- there is a label
abbrev pub has_any : Spread → Bool
has_any Spread.Nothing = false
has_any (Spread.One b) = true
has_any Spread.Several = true

-- there are labels that differ
abbrev pub is_several : Spread → Bool
is_several Spread.Nothing = false
is_several (Spread.One b) = false
is_several Spread.Several = true

-- the one label, if there is just one
abbrev pub only_label : Spread → Option Label
only_label Spread.Nothing = None
only_label (Spread.One a) = Some a
only_label Spread.Several = None

-- there is a label other than a
abbrev pub has_other : Spread → ℕ → Bool
has_other Spread.Nothing a = false
has_other (Spread.One b) a = not (same b.0 a)
has_other Spread.Several a = true

-- some label of both differ
abbrev pub differ : Spread → Spread → Bool
differ Spread.Nothing other = false
differ (Spread.One a) other = has_other other a.0
differ Spread.Several other = has_any other

-- the labels of both
unfoldable pub with_labels : Spread → Spread → Spread
with_labels Spread.Nothing other = other
with_labels (Spread.One a) Spread.Nothing = Spread.One a
with_labels (Spread.One a) (Spread.One b) = pick (same a.0 b.0) (Spread.One a) Spread.Several
with_labels (Spread.One a) Spread.Several = Spread.Several
with_labels Spread.Several other = Spread.Several

-- those of one variable
abbrev pub spread_at : List Spread → ℕ → Spread
spread_at spreads i = get_or spreads i Spread.Nothing

-- those of the variables below m
unfoldable pub spread_below : ℕ → List Spread → Spread
spread_below zero spreads = Spread.Nothing
spread_below (suc m) spreads = with_labels (spread_below m spreads) (spread_at spreads m)

-- there are two different labels where q is stated too
abbrev pub can_clash : Spread → Statement → Bool
can_clash Spread.Nothing q = false
can_clash (Spread.One a) q = if_labelling (λ i b. not (same a.0 b)) q
can_clash Spread.Several q = true
