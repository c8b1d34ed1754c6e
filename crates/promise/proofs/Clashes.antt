-- The verdict clash is given exactly where F5 applies to a pair.
use mathlib.Core.Path.{◌≡◌, refl, ap}
use Rattle.std.specs.Prelude.{Option, None, Some}
use Rattle.std.proofs.lemmas.Bool.{both_ways}
use Rattle.sheet.specs.Sheets.{Sheet}
use Rattle.rules.specs.declared.clashes.Clash.{Clash}
use Rattle.rules.specs.declared.verdicts.Verdict.{Verdict}
use Rattle.rules.specs.Clashes.{clash_of}
use Rattle.rules.specs.Verdicts.{verdict_by, verdict_of}
use Rattle.rules.proofs.Clashing.{clash_least, clash_nowhere}
use Rattle.promise.specs.Promise.{F5Applies}

pub nowhere_by : (c : Option Clash) → verdict_by c ≡ Verdict.Consistent → c ≡ None
nowhere_by None e = refl
nowhere_by (Some pair) e = cc

between_by : (c : Option Clash) (clash : Clash) → verdict_by c ≡ Verdict.Clash clash → c ≡ Some clash
between_by None clash e = cc
between_by (Some c) clash e = let same : c ≡ clash = cc in ap Some same

module _ (s : Sheet) where
  pub nowhere : verdict_of s ≡ Verdict.Consistent → clash_of s.stated s.n ≡ None
  unfolding verdict_of
  nowhere e = nowhere_by _ e

  pub between : (clash : Clash) → verdict_of s ≡ Verdict.Clash clash → clash_of s.stated s.n ≡ Some clash
  unfolding verdict_of
  between clash e = between_by _ clash e

  pub none_applies : verdict_of s ≡ Verdict.Consistent → F5Applies s → ⊥
  none_applies e (i, (j, (h, g, applies))) =
      both_ways _ ((clash_nowhere s.stated s.n).0 (nowhere e) i j h g) applies

  pub applies : (clash : Clash) → verdict_of s ≡ Verdict.Clash clash → F5Applies s
  applies clash e =
      let least = (clash_least s.stated s.n clash.first.0 clash.second.0).0 (between clash e) in
      (clash.first.0, (clash.second.0, (least.row, least.column, least.applies)))
