-- The walk is behind the positions passed, and none of them is a cut.
use Rattle.std.proofs.Common.{◌≡◌, drop}
use Rattle.rows.specs.Questions.{by_position}
use Rattle.counters.specs.Meaning.{size}
use Rattle.lists.specs.Row.{row_of}
use Rattle.lists.specs.Walks.{ahead}
use Rattle.lists.proofs.Cuts.{Searched}
use Rattle.lists.proofs.top.cut.Given as goal

-- No position passed is a cut.
abbrev pub invariant-loop-n : goal.invariant-loop-n
invariant-loop-n g l =
    (goal.iterator-loop-n g).can_next l.n-iterator ×
    (goal.iterator-loop-n g).is_finite l.n-iterator ×
    (ahead l.n-iterator.iter ≡ drop l.n-iterator.count (by_position (row_of l.counters))) ×
    Searched (size l.counters) l.k l.counters.total (row_of l.counters) l.n-iterator.count l.least
