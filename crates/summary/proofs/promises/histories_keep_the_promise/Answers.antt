-- The promise of every history, at the counters and what their type gives.
use Rattle.calls.proofs.Histories.{promise}
use Rattle.summary.specs.Meaning.{reading, Structured}
use Rattle.summary.proofs.Admitting.{reliable}
use Rattle.summary.proofs.promises.histories_keep_the_promise.Goals as goal

pub returns : goal.returns
returns g c = promise g.T.Kind.same g.met.T.Kind.equivalence g.F.Finder.bindings g.F.Finder.room g.F.Finder.lawful reading Structured reliable g.F.Finder.fresh
