-- As many counters are in use as the row has entries, and the links keep to the structure.
use Rattle.std.proofs.Common.{sym}
use Rattle.counters.proofs.Hits.{used_of}
use Rattle.counters.proofs.Structures.{structured}
use Rattle.counters.proofs.counters.Counters.used.Goals as goal

pub returns : goal.returns
returns g c =
    let s = c.args.self.now in
    record { number = sym (used_of s); structure = structured s }
