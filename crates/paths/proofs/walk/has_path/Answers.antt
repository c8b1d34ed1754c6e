-- A path is there where it leads to a variable.
use Rattle.paths.proofs.Walks.{path_told}
use Rattle.paths.proofs.walk.has_path.Goals as goal

pub returns : goal.returns
returns c = path_told (rw (c.index.ensures, c.from.ensures) at c.walk.ensures) c.some.ensures
