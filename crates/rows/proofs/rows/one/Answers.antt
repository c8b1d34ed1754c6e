-- The row of j alone, by the word that j is in.
use Rattle.rows.proofs.Words.{one_low, one_high}
use Rattle.rows.proofs.rows.one.Goals as goal

pub returns-then-j-lt64 : goal.returns-then-j-lt64
returns-then-j-lt64 c = one_low c.args.j c.if-j-lt64.true

pub returns-else-j-lt64 : goal.returns-else-j-lt64
returns-else-j-lt64 c = one_high c.args.j c.if-j-lt64.false c.requires
