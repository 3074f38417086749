-- The walk is behind the positions passed, and along them each lower figure was at least the next count.
use Rattle.std.proofs.Common.{◌≡◌, drop}
use Rattle.rows.specs.Questions.{by_position}
use Rattle.counters.specs.Meaning.{size}
use Rattle.lists.specs.Row.{row_of}
use Rattle.lists.specs.Walks.{ahead}
use Rattle.lists.proofs.Falls.{Looked}
use Rattle.lists.proofs.top.falls.Given as goal

-- What is left to look at, behind the positions passed.
abbrev pub invariant-loop-n : goal.invariant-loop-n
invariant-loop-n g l =
    (goal.iterator-loop-n g).can_next l.n-iterator ×
    (goal.iterator-loop-n g).is_finite l.n-iterator ×
    (ahead l.n-iterator.iter ≡ drop l.n-iterator.count (by_position (row_of l.counters))) ×
    Looked (size l.counters) l.k l.counters.total (row_of l.counters) l.n-iterator.count l.last
