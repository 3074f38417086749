-- A hit that is admitted is counted, and a history goes on with it.
use Rattle.std.proofs.Common.{rules}
use Rattle.calls.proofs.FinderCalls.{keeps_hit}
use Rattle.summary.specs.Meaning.{reading, Structured}
use Rattle.summary.proofs.Admitting.{reliable}
use Rattle.summary.proofs.impls.CountersSummary.hit.Goals as goal

pub returns-in_err-place-clause-keeps : goal.returns-in_err-place-clause-keeps
returns-in_err-place-clause-keeps g c = keeps_hit g.T.Kind.same g.met.T.Kind.equivalence g.F.Finder.bindings g.F.Finder.room g.F.Finder.lawful reading Structured reliable _ _ _ _ _ _ (search rules)

pub returns-clause-keeps : goal.returns-clause-keeps
returns-clause-keeps g c = keeps_hit g.T.Kind.same g.met.T.Kind.equivalence g.F.Finder.bindings g.F.Finder.room g.F.Finder.lawful reading Structured reliable _ _ _ _ _ _ (search rules)
