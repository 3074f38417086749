-- The first positions that a watched hit looks at.
use Rattle.std.specs.Prelude.{List, take}
use Rattle.rows.specs.declared.entry.Entry.{Entry}
use Rattle.rows.specs.Questions.{by_position}
use Rattle.calls.specs.Reading.{row_of}
use Rattle.summary.specs.declared.leaders.Leaders.{Leaders}
use Rattle.summary.specs.Meaning.{reading}

abbrev pub leading : {T : Type 0} → Leaders T → List (Entry T)
leading l = take l.k (by_position (row_of reading l.counters.now))
