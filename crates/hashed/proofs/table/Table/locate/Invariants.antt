use Rattle.std.proofs.Common.{get_or, length, None}
use Rattle.hashed.specs.Slots.{links}
use Rattle.hashed.proofs.Paths.{steps}
use Rattle.hashed.proofs.Walking.{Walks}
use Rattle.hashed.proofs.table.Table.locate.Given as goal

abbrev pub invariant-loop-cursor : goal.invariant-loop-cursor
invariant-loop-cursor g l = Walks g.T.Kind.same l.self.slots.now l.item l.chain l.cursor.before l.cursor.at

abbrev pub decreases-loop-cursor : goal.decreases-loop-cursor
decreases-loop-cursor g l = steps (λ i. get_or (links l.self.slots.now) i None) (length l.self.slots.now) l.cursor.at
