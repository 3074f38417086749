-- A free bucket is taken into use between its neighbours.
use Rattle.std.proofs.Common.{rules, ◌≡◌, Some}
use Rattle.table.proofs.Bucketing.{fresh_some}
use Rattle.table.proofs.Table.freshen.Goals as goal

pub returns : goal.returns
returns g c = let e : c.args.self.now.lists.free.first ≡ Some c.in_ok-bucket.bucket = c.in_ok-bucket.was in search (rules, fresh_some)
