use Rattle.encoding.proofs.Edges.{boundaries}
use Rattle.encoding.proofs.utf8.is_boundary.Goals as goal

pub returns-clause-law : goal.returns-clause-law
returns-clause-law c = boundaries
