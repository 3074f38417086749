-- A bucket without a counter is free afterwards, and any other is left.
use Rattle.table.proofs.Bucketing.{tidied_out, tidied_kept}
use Rattle.table.proofs.Table.tidy.Goals as goal

pub returns-then-is_some : goal.returns-then-is_some
returns-then-is_some g c = tidied_kept _ _ _ _ c.members.ensures (cc)

pub returns : goal.returns
returns g c = tidied_out _ _ _ _ _ _ _ c.members.ensures (cc) c.bucket_before-before.ensures c.retire.ensures.table c.retire.ensures.lists
