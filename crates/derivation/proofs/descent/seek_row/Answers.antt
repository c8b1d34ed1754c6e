-- The first row that has something to tell.
use Rattle.std.proofs.Common.{rules}
use Rattle.std.specs.Bool.{⊤}
use Rattle.std.proofs.lemmas.Iterator.{first_from_Range}
use Rattle.derivation.specs.Descent.{feature_at, variable_at, NoneNew}
use Rattle.derivation.proofs.Descending.{next_row}
use Rattle.derivation.proofs.descent.seek_row.Goals as goal

pub returns : goal.returns
returns c =
    let growth = c.args.growth.now in
    let groups = c.args.groups.now in
    next_row growth.n growth.cells.now groups c.args.w.0 _ _ _ _ c.find.result
    (first_from_Range _ _ _ c.find.result (λ k. ⊤)
    (λ k. NoneNew growth.n growth.cells.now groups c.args.w.0 (feature_at groups k) (variable_at groups k)
    c.args.places.start c.args.places.end) c.find.ensures.ran
    (λ x q k. tt) (λ x q k. search rules))
