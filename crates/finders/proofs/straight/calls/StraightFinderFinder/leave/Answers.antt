-- The slot of the item that leaves is filled by the last: the map is without the item.
use Rattle.finders.proofs.Refusing.{leaves}
use Rattle.finders.proofs.Entering.{apart_left, left_front}
use Rattle.finders.proofs.straight.calls.StraightFinderFinder.leave.Goals as goal

pub returns-clause-answer : goal.returns-clause-answer
returns-clause-answer g c = λ _. leaves g.T.Kind.same _ _ (c.in-Some.ensures.reads (record { item = c.args.item.now; place = 0 }))

pub returns-clause-left : goal.returns-clause-left
returns-clause-left g c = λ apart.
    left_front g.T.Kind.same g.met.T.Kind.equivalence _ _ _ _ _ _ c.swap_remove.ensures.slots c.swap_remove.ensures.held c.args.self.now.fits c.in-Some.ensures apart

pub returns-clause-lawful : goal.returns-clause-lawful
returns-clause-lawful g c = λ apart.
    apart_left g.T.Kind.same g.met.T.Kind.equivalence _ _ _ _ _ _ c.swap_remove.ensures.slots c.swap_remove.ensures.held c.args.self.now.fits c.in-Some.ensures apart
