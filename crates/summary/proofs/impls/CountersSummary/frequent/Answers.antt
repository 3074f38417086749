-- The frequent list of the counters is that of the summary, and keeps all.
use Rattle.std.proofs.Common.{rules}
use Rattle.calls.proofs.ListCalls.{keeps_frequent}
use Rattle.summary.specs.Meaning.{reading, Structured}
use Rattle.summary.proofs.impls.CountersSummary.frequent.Goals as goal

pub returns-clause-keeps : goal.returns-clause-keeps
returns-clause-keeps g c = keeps_frequent g.T.Kind.same g.met.T.Kind.equivalence reading Structured c.args.self.now _ _ _ _ _ (search rules)
