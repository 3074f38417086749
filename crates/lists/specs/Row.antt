-- The row that the counters stand for.
use Rattle.std.specs.Prelude.{List}
use Rattle.rows.specs.declared.entry.Entry.{Entry}
use Rattle.table.specs.Placed.{entries}
use Rattle.counters.specs.declared.counters.Counters.{Counters}
use Rattle.counters.specs.Meaning.{placed}

abbrev pub row_of : {T : Type 0} → Counters T → List (Entry T)
row_of s = entries (placed s)
