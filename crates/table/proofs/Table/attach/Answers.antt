-- A counter is attached to the bucket that was found or made for its count.
use Rattle.std.proofs.Common.{rules}
use Rattle.table.proofs.Targeting.{attached_some, attached_none}
use Rattle.table.proofs.Table.attach.Goals as goal

pub returns-in-Some : goal.returns-in-Some
returns-in-Some g c = search (rules, attached_some)

pub returns-in_default : goal.returns-in_default
returns-in_default g c = search (rules, attached_none)
