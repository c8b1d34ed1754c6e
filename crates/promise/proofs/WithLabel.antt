-- The number that is returned with a label is made of that of the check, and means what this means.
use Prim.Native.Nat.{ℕ, ◌+◌, ◌*◌, ◌/◌}
use lib.ListN.{length}
use mathlib.Core.List.{List}
use mathlib.Core.Option.{Option}
use mathlib.Core.Path.{◌≡◌, sym, ap, ap₂, subst, ◌∙◌}
use native.Mathlib.Omega.{arith}
use Rattle.sheet.specs.Sheets.{sheet_of}
use Rattle.outcomes.specs.Judged.{judged}
use Rattle.promise.specs.Checks.{Returned}
use Rattle.promise.specs.Labels.{label_number, label_of_number}
use Rattle.promise.specs.Paths.{with_label, label_in_number, PathLabelTold, PathReturned}
use Rattle.promise.specs.Promise.{Means}
use Rattle.promise.proofs.Above.{number_small, means_alike}
use Rattle.promise.proofs.Told.{numbered}

module _ {b facts work replies facts' work' replies' : List ℕ} {r : ℕ}
    (returned : Returned b facts work replies facts' work' replies' r) where
  module _ {k : ℕ} {label : Option ℕ}
      (told : PathLabelTold (judged b (length facts) (length work) (length replies)) (sheet_of b) k label) where
    label_above : label_in_number (with_label r label) ≡ label
    unfolding with_label
    label_above =
        let above : (r + 1099511627776 * label_number label) / 1099511627776 ≡ label_number label =
        omega (arith, number_small) in
        ap label_of_number above ∙ numbered label

    pub path_returned : {r' : ℕ} → r' ≡ with_label r label → PathReturned b facts work replies facts' work' replies' k r'
    path_returned e =
        record {
          number = e ∙ ap₂ with_label returned.number told.is;
          label = subst (PathLabelTold _ _ _) (sym (ap label_in_number e ∙ label_above)) told;
          buffers = returned.buffers;
        }

-- what is above does not change what it means
pub means_above : {b facts work replies facts' replies' : List ℕ} {r r' : ℕ} (label : Option ℕ) → r' ≡ with_label r label
    → Means b facts work replies facts' replies' r → Means b facts work replies facts' replies' r'
unfolding with_label
means_above label e = means_alike (omega (arith, e)) (omega (arith, e)) (omega (arith, e))
