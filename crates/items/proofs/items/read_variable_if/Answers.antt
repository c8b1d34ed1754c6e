-- The variable is read where its bit stands.
use Rattle.std.proofs.Common.{rules}
use Rattle.fields.specs.Fields.{variable_field}
use Rattle.fields.proofs.Extents.{read_if_is}
use Rattle.items.proofs.items.read_variable_if.Goals as goal

pub returns : goal.returns
returns c =
    read_if_is _ _ (variable_field c.args.sheet.now c.args.n) (λ r p. search rules) c.read_if.ensures
