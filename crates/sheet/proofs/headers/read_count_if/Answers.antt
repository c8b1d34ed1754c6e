-- The count is read where its bit stands.
use Rattle.std.proofs.Common.{rules}
use Rattle.fields.proofs.Extents.{read_if_is}
use Rattle.sheet.specs.Headers.{count_field, count_if}
use Rattle.sheet.proofs.headers.read_count_if.Goals as goal

pub returns : goal.returns
unfolding count_if
returns c = read_if_is _ _ (count_field c.args.sheet.now) (λ r p. search rules) c.read_if.ensures
