-- Which lines of a list are marked sure.
use Rattle.std.specs.Prelude.{ℕ, Bool, false, List, map, Some, None, Option}
use Rattle.rows.specs.declared.entry.Entry.{Entry}
use Rattle.rows.specs.Questions.{sure}
use Rattle.calls.specs.declared.answers.Line.{Line}
use Rattle.calls.specs.Lists.{line}

module _ {T : Type 0} where
  -- With a threshold, the lines that are sure of it; without one, none.
  abbrev pub is_marked : Option ℕ → Entry T → Bool
  is_marked (Some t) e = sure t e
  is_marked None e = false

  abbrev pub line_of : Option ℕ → Entry T → Line T
  line_of threshold e = line (is_marked threshold e) e

  abbrev pub lines_of : Option ℕ → List (Entry T) → List (Line T)
  lines_of threshold es = map (line_of threshold) es
