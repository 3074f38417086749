-- The next bucket serves if it has the count, else a free one.
use Rattle.std.proofs.Common.{rules}
use Rattle.table.proofs.Targeting.{targeted_same, targeted_fresh}
use Rattle.table.proofs.Table.target.Goals as goal

pub returns-then-has_count : goal.returns-then-has_count
returns-then-has_count g c = search (rules, targeted_same)

pub returns-else-has_count : goal.returns-else-has_count
returns-else-has_count g c = targeted_fresh _ _ _ _ _ _ _ _ c.freshen.ensures c.bucket_after-after.ensures (cc)
