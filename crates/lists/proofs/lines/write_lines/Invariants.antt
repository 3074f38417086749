-- The lines so far are written, and the walk is behind them.
use Rattle.std.proofs.Common.{◌≡◌, ◌+◌, drop}
use Rattle.rows.specs.Questions.{by_position}
use Rattle.lists.specs.Row.{row_of}
use Rattle.lists.specs.Marks.{line_of}
use Rattle.lists.specs.Walks.{ahead}
use Rattle.lists.proofs.Writing.{Written}
use Rattle.lists.proofs.lines.write_lines.Given as goal

-- The positions passed are written.
abbrev pub invariant-loop-i : goal.invariant-loop-i
invariant-loop-i g l =
    (goal.iterator-loop-i g).can_next l.i-iterator ×
    (goal.iterator-loop-i g).is_finite l.i-iterator ×
    (l.i-iterator.count + l.i-iterator.iter.n ≡ l.n) ×
    (ahead l.i-iterator.iter.iter ≡ drop l.i-iterator.count (by_position (row_of l.counters))) ×
    Written (line_of l.threshold) (by_position (row_of l.counters)) l.initial.lines l.i-iterator.count l.lines
