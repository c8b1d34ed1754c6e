-- The bit of j in the word that j is in.
use Rattle.std.proofs.Common.{arith, sym, ◌∙◌}
use Rattle.fields.specs.Limits.{most_variables}
use Rattle.fields.specs.Tests.{less}
use Rattle.fields.proofs.Choice.{not_less}
use Rattle.rows.proofs.Words.{beyond, bit_tested}
use Rattle.rows.proofs.rows.has_member.Goals as goal

pub returns-then-j-lt64 : goal.returns-then-j-lt64
returns-then-j-lt64 c = bit_tested c.args.r c.args.j 0 (omega arith) (omega arith)

pub returns-then-j-lt-HEIGHT : goal.returns-then-j-lt-HEIGHT
returns-then-j-lt-HEIGHT c = bit_tested c.args.r c.args.j 1 c.if-j-lt-HEIGHT.true (omega arith)

pub returns-else-j-lt-HEIGHT : goal.returns-else-j-lt-HEIGHT
unfolding less
returns-else-j-lt-HEIGHT c =
    not_less c.args.j most_variables c.if-j-lt-HEIGHT.false ∙ sym (beyond c.args.r c.args.j c.if-j-lt-HEIGHT.false)
