-- What each answer tells in numbers: a refusal its number and its offset, anything else 0 and 0.
use Rattle.std.specs.Prelude.{ℕ, Result, Ok, Err}
use Rattle.fields.specs.declared.refusals.Refusal.{Refusal}
use Rattle.fields.specs.Refusals.{number_of}

pub record Told : Type 0 where
  pub number : ℕ
  pub offset : ℕ

abbrev pub nothing : Told
nothing = record { number = 0; offset = 0 }

abbrev pub refusal_told : Refusal → Told
refusal_told r = record { number = number_of r.fault; offset = r.at }

-- of a header, an item, a run of items, a whole sheet
abbrev pub told_of : {T : Type 0} → Result T Refusal → Told
told_of (Ok x) = nothing
told_of (Err r) = refusal_told r
