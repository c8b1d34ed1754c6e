-- The path is read where its bit stands.
use Rattle.std.proofs.Common.{rules}
use Rattle.fields.proofs.Extents.{read_if_is}
use Rattle.items.specs.Paths.{path_field}
use Rattle.items.proofs.items.read_path_if.Goals as goal

pub returns : goal.returns
returns c = read_if_is _ _ (path_field c.args.sheet.now) (λ r p. search rules) c.read_if.ensures
