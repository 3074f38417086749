-- How counters are read as a summary: their placed row, and their numbers; and what their links keep to.
use Rattle.std.specs.Prelude.{length}
use Rattle.counters.specs.declared.counters.Counters.{Counters}
use Rattle.counters.specs.Meaning.{size, placed}
pub use Rattle.counters.specs.Meaning.{Structured}
use Rattle.calls.specs.Reading.{Reading}

abbrev pub reading : {T : Type 0} → Reading (Counters T) T
reading = record {
  placed = λ s. placed s;
  size = λ s. size s;
  used = λ s. length (placed s);
  total = λ s. s.total;
}
