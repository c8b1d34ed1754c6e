-- The printout has the lines of the sheet, with a header or without.
use Rattle.std.proofs.Common.{sym, arith}
use Rattle.std.proofs.lemmas.List.{length-take-le}
use Rattle.lines.specs.Printouts.{lines_in}
use Rattle.lines.proofs.Checked.{count_fits, no_header, with_header}
use Rattle.treecheck.proofs.printing.printout.Goals as goal

pub returns-in_default : goal.returns-in_default
unfolding lines_in
returns-in_default c = no_header _ c.requires _ _ _ (sym c.in_default.ensures)

pub returns : goal.returns
unfolding lines_in
returns c =
    rw (c.variable_count.ensures, c.reply_count.ensures) (with_header _ c.requires _ (sym c.in-Ok.ensures))

pub slice_bounds-result-end-2 : goal.slice_bounds-result-end-2
slice_bounds-result-end-2 c =
    let most = count_fits c.args.sheet.now _ (sym c.in-Ok.ensures) in
    sym (length-take-le _ _ (omega (arith, most, c.requires.room, c.reply_count.ensures)))
