-- A walk that begins at the last place has the whole row ahead of it.
use Rattle.std.proofs.Common.{rules}
use Rattle.lists.proofs.Walking.{begins, few}
use Rattle.lists.proofs.walk.Walk.new.Goals as goal

pub returns : goal.returns
returns g c = let s = c.args.counters.now in record { all = begins s _ (search rules); few = few s _ (search rules) }
