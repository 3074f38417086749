-- Each worked example, by computation.
use Rattle.rows.proofs.Examples.{worked_examples}
use Rattle.rows.proofs.promises.worked_examples_hold.Goals as goal

pub returns : goal.returns
returns c = worked_examples
