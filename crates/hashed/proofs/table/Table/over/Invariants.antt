use Rattle.std.proofs.Common.{◌≡◌}
use Rattle.hashed.specs.Steps.{below, Cleared}
use Rattle.hashed.proofs.table.Table.over.Given as goal

abbrev pub invariant-loop-i : goal.invariant-loop-i
invariant-loop-i g l = (l.free ≡ below l.i) × Cleared l.slots l.i
