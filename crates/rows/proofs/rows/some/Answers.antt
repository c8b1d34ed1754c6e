-- Both words at once are 0 exactly where there is no member.
use Rattle.rows.proofs.Found.{words_tested}
use Rattle.rows.proofs.rows.some.Goals as goal

pub returns : goal.returns
returns c = words_tested c.args.r c.element_fits.fits c.element_fits2.fits
