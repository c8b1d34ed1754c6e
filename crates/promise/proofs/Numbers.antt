-- What the number that a check returns tells besides: it has no bits but those of its kind and its two numbers, and the
-- pair of a clash is the first.
use Rattle.std.specs.Prelude.{Ok}
use Prim.Native.Nat.{ℕ, ◌/◌, ◌<◌, ◌≤◌}
use lib.ListN.{length}
use mathlib.Core.Bool.{true}
use mathlib.Core.List.{List}
use mathlib.Core.Logic.{◌⊎◌, inl, inr}
use mathlib.Core.Path.{◌≡◌, ◌∙◌, sym}
use native.Mathlib.Nat.{mul-le-mul}
use native.Mathlib.Omega.{arith}
use Rattle.std.proofs.lemmas.Bool.{both_ways}
use Rattle.fields.specs.Limits.{most_variables}
use Rattle.sheet.specs.declared.whole.Accepted.{Accepted}
use Rattle.sheet.specs.Sheets.{sheet_of}
use Rattle.sheet.proofs.Theorems.{accepted_few}
use Rattle.rules.specs.Clashes.{clashes_at}
use Rattle.rules.specs.Derived.{facts_of}
use Rattle.rules.specs.declared.kinds.Kind.{Kind}
use Rattle.rules.proofs.Clashing.{clash_least}
use Rattle.rules.proofs.Counts.{count_bound}
use Rattle.outcomes.specs.declared.outcomes.Outcome.{Outcome}
use Rattle.outcomes.specs.Outcomes.{first_of, second_of, packed, kind_in, first_in, second_in}
use Rattle.outcomes.proofs.Judging.{accepted_fits}
use Rattle.outcomes.proofs.Packed.{second_is, second_whole}
use Rattle.promise.specs.Checks.{of_refusal, Returned}
use Rattle.promise.specs.Promise.{Means}
use Rattle.promise.proofs.Clashes.{between}
use Rattle.promise.proofs.Shown.{read, small_number, place_small, refused_number, accepted_number, by_case}

-- of an outcome whose numbers take two bytes each
alone : (o : Outcome) → first_of o < 65536 → second_of o < 65536 → packed o / 16777216 ≡ second_in (packed o)
alone o few near = second_whole o few ∙ sym (second_is o few near)

module _ {b facts work replies facts' work' replies' : List ℕ} {r : ℕ}
    (returned : Returned b facts work replies facts' work' replies' r) where
  few : (a : Accepted) → read returned ≡ Ok a → (sheet_of b).n ≤ most_variables
  few a e =
      let fits = accepted_fits b (length facts) (length work) (length replies) a e in
      accepted_few b a fits.accepted

  pub no_other_bits : r / 16777216 ≡ second_in r
  no_other_bits =
      by_case returned
      (λ q e k. rw (refused_number returned q e)
      (alone (of_refusal q) (small_number q.fault) (place_small returned q e)))
      (λ a e is k.
      let n = few a e in
      let size = mul-le-mul n n in
      let s = sheet_of b in
      let facts = facts_of s.stated s.n in
      rw (accepted_number returned a e, is)
      (alone (Outcome.Consistent _ _) (omega (arith, size, count_bound s.n facts Kind.Ordered))
      (omega (arith, size, count_bound s.n facts Kind.Compatible))))
      (λ a clash e is k.
      let s = sheet_of b in
      let least = (clash_least s.stated s.n clash.first.0 clash.second.0).0 (between s clash is) in
      rw (accepted_number returned a e, is)
      (alone (Outcome.Clash clash.first clash.second) (omega (arith, few a e, least.row)) (omega (arith, few a e, least.column))))

-- F5 applies to no pair before the one that a clash tells, row by row
pub none_before : {b facts₀ work₀ replies₀ facts' replies' : List ℕ} {r : ℕ}
    → Means b facts₀ work₀ replies₀ facts' replies' r → kind_in r ≡ 1
    → (i j : ℕ) → (i < first_in r) ⊎ ((i ≡ first_in r) × (j < second_in r)) → j < (sheet_of b).n
    → clashes_at (sheet_of b).stated (facts_of (sheet_of b).stated (sheet_of b).n) i j ≡ true → ⊥
none_before means kind i j (inl above) column applies =
    both_ways _ ((means.least kind).least_row i j above column) applies
none_before means kind i j (inr (same, before)) column applies =
    both_ways _ (rw same ((means.least kind).least_column j before)) applies
