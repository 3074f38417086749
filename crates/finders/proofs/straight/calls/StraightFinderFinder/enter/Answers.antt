-- A binding put behind the others: the map has one item more.
use Rattle.std.proofs.Common.{rules}
use Rattle.finders.specs.Straight.{room_of}
use Rattle.finders.proofs.Entering.{apart_entered, entered_front}
use Rattle.finders.proofs.straight.calls.StraightFinderFinder.enter.Goals as goal

pub returns-clause-entered : goal.returns-clause-entered
returns-clause-entered g c = λ apart. entered_front g.T.Kind.same g.met.T.Kind.equivalence _ _ (room_of c.args.self.now) _ c.push.ensures.bindings (search rules) apart

pub returns-clause-lawful : goal.returns-clause-lawful
returns-clause-lawful g c = λ apart. apart_entered g.T.Kind.same g.met.T.Kind.equivalence _ _ (room_of c.args.self.now) _ c.push.ensures.bindings (search rules) apart
