-- One step down from a position.
use Rattle.std.proofs.Common.{rules}
use Rattle.lists.specs.Walks.{ahead}
use Rattle.lists.proofs.Walking.{stepped, progress}
use Rattle.lists.proofs.walk.WalkIterator.next.Goals as goal

pub returns-clause-steps : goal.returns-clause-steps
returns-clause-steps g c = stepped c.args.self.now.counters.now _ _ _ c.in_ok-place.place c.in_ok-place.was (search rules) (search rules)

pub returns-clause-goes : goal.returns-clause-goes
returns-clause-goes g c = progress ahead _ _ _ (returns-clause-steps g c)
