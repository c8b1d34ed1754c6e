-- Before the first feature all places are zero; at the end the sheet ends before the next, or as many as there may be stand.
use Rattle.std.proofs.Common.{sym, ◌∙◌, arith}
use Rattle.items.specs.Paths.{places}
use Rattle.items.proofs.Places.{placed_start, placed_cut, placed_whole}
use Rattle.items.proofs.paths.path_at.Goals as goal

pub loop-k-init : goal.loop-k-init
unfolding places
loop-k-init c = placed_start

pub returns-in_default : goal.returns-in_default
returns-in_default c = placed_cut c.loop-k.invariant (sym c.read_word.ensures ∙ c.in_default.is)

pub returns : goal.returns
returns c = placed_whole c.loop-k.invariant (omega (arith, c.loop-k-test.false, c.min-k-end.ensures, c.from.ensures))
