-- Support: what a set of facts shows to follow, without a further derivation.
use Rattle.std.specs.Prelude.{ℕ, Bool, List}
use Rattle.fields.specs.Tests.{same}
use Rattle.items.specs.declared.items.Statement.{Statement}
use Rattle.rules.specs.Connectives.{◌and◌}
use Rattle.rules.specs.Stated.{some_selection, some_labelling}
use Rattle.rules.specs.declared.kinds.Kind.{Kind}
use Rattle.rules.specs.Facts.{Relation}

-- j is below a child of i at f: some k[f]m has k ≤ i and j ≤ m
unfoldable pub under_child : List Statement → Relation → ℕ → ℕ → ℕ → Bool
under_child st r i f j = some_selection st λ k g m. same f g and (r Kind.Ordered k i and r Kind.Ordered j m)

-- a child of i at f, if there is one, is below j: some k[f]m has i ≤ k and m ≤ j
unfoldable pub over_child : List Statement → Relation → ℕ → ℕ → ℕ → Bool
over_child st r i f j = some_selection st λ k g m. same f g and (r Kind.Ordered i k and r Kind.Ordered m j)

-- some k ≤ i has the label a
unfoldable pub under_label : List Statement → Relation → ℕ → ℕ → Bool
under_label st r i a = some_labelling st λ k b. same a b and r Kind.Ordered k i

-- the question is supported
unfoldable pub supported : List Statement → Relation → Statement → Bool
supported st r (Statement.Ordering i j) = r Kind.Ordered i.0 j.0
supported st r (Statement.Compatibility i j) = r Kind.Compatible i.0 j.0
supported st r (Statement.Selection i f j) =
    under_child st r i.0 f.0 j.0 and over_child st r i.0 f.0 j.0
supported st r (Statement.Labelling i a) = under_label st r i.0 a.0
