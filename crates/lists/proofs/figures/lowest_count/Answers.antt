-- The count of the first entry, or 0 for an empty row.
use Rattle.std.proofs.Common.{rules}
use Rattle.counters.specs.Meaning.{placed}
use Rattle.lists.proofs.Places.{lowest_of}
use Rattle.lists.proofs.figures.lowest_count.Goals as goal

pub returns : goal.returns
returns g c = lowest_of (placed c.args.counters.now) c.lowest.result c.map_or.result c.lowest.ensures (λ none. search rules) (λ e is. search rules)
