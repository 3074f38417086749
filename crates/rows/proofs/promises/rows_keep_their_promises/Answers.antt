-- The theorem on rows, for the sameness of a kind.
use Rattle.rows.proofs.Theorem.{row_promises}
use Rattle.rows.proofs.promises.rows_keep_their_promises.Goals as goal

pub returns : goal.returns
returns g c = row_promises g.T.Kind.same g.met.T.Kind.equivalence
