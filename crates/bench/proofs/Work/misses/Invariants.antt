-- No more misses than labels passed.
use Rattle.std.proofs.Common.{◌≤◌}
use Rattle.bench.proofs.Work.misses.Given as goal

abbrev pub invariant-loop-item : goal.invariant-loop-item
invariant-loop-item g l = l.count ≤ l.item-index
