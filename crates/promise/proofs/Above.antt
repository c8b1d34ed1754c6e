-- The number that is returned with a label: below it stands the number of the check, with all that this means.
use Prim.Native.Nat.{ℕ, ◌%◌, ◌<◌}
use mathlib.Core.List.{List}
use mathlib.Core.Path.{◌≡◌, refl}
use native.Mathlib.Omega.{arith}
use Rattle.outcomes.specs.Outcomes.{kind_in, first_in, second_in}
use Rattle.promise.specs.Checks.{Returned}
use Rattle.promise.specs.Paths.{with_label, PathReturned}
use Rattle.promise.specs.Promise.{Means}
use Rattle.promise.proofs.Numbers.{no_other_bits}

-- the same kind and numbers mean the same
pub means_alike : {b facts work replies facts' replies' : List ℕ} {r r' : ℕ} → kind_in r ≡ kind_in r' → first_in r ≡ first_in r'
    → second_in r ≡ second_in r' → Means b facts work replies facts' replies' r → Means b facts work replies facts' replies' r'
means_alike kind first second means =
    record {
      refused = rw (← kind) means.refused;
      consistent = rw (← kind) means.consistent;
      clash = rw (← kind) means.clash;
      derived = means.derived;
      least = rw (← kind, ← first, ← second) means.least;
      replies = rw (← kind) means.replies;
    }

module _ {b facts work replies facts' work' replies' : List ℕ} {r : ℕ}
    (returned : Returned b facts work replies facts' work' replies' r) where
  -- the number of an outcome leaves the bits above it free
  pub number_small : r < 1099511627776
  number_small = omega (arith, no_other_bits returned)

-- so the number below it is that of a check
pub low_returned : {b facts work replies facts' work' replies' : List ℕ} {k r : ℕ}
    → PathReturned b facts work replies facts' work' replies' k r
    → Returned b facts work replies facts' work' replies' (r % 1099511627776)
unfolding with_label
low_returned returned =
    let small = number_small (record { number = refl; buffers = returned.buffers }) in
    record { number = omega (arith, small, returned.number); buffers = returned.buffers }

pub low_means : {b facts work replies facts' replies' : List ℕ} {r : ℕ} → Means b facts work replies facts' replies' r
    → Means b facts work replies facts' replies' (r % 1099511627776)
low_means = means_alike (omega arith) (omega arith) (omega arith)
