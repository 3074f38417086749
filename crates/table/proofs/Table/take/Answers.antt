-- A counter is out of its bucket, which is free if it was the last.
use Rattle.std.proofs.Common.{rules}
use Rattle.table.proofs.Quiets.{quiet_pulled}
use Rattle.table.proofs.Bucketing.{taken_out}
use Rattle.table.proofs.Table.take.Goals as goal

pub returns-clause-count : goal.returns-clause-count
returns-clause-count g c = let q = quiet_pulled c.pull-bucket.result c.args.at c.args.self.now.places.now in search (rules, q.values)

pub returns-clause-out : goal.returns-clause-out
returns-clause-out g c = search (rules, taken_out)
