-- The frequent list and the top list of a row as lines, and what is answered beside them.
use Rattle.std.specs.Prelude.{ℕ, Bool, false, List, ◌++◌, map, length, drop}
use Rattle.rows.specs.declared.entry.Entry.{Entry}
use Rattle.rows.specs.Questions.{frequent, sure, complete, top, guaranteed, ordered}
use Rattle.calls.specs.declared.answers.Line.{Line}
use Rattle.calls.specs.declared.answers.FrequentList.{FrequentList}
use Rattle.calls.specs.declared.answers.TopList.{TopList}

module _ {T : Type 0} where
  -- An entry as a line, marked sure or not.
  abbrev pub line : Bool → Entry T → Line T
  line mark e = record { item = e.item; count = e.count; error = e.error; sure = mark }

  -- A list, and behind it the lines as they were.
  abbrev pub written : List (Line T) → List (Line T) → List (Line T)
  written list lines = list ++ drop (length list) lines

  -- The frequent list of a threshold t, each line marked if it is sure.
  abbrev pub frequent_lines : ℕ → List (Entry T) → List (Line T)
  frequent_lines t row = map (λ e. line (sure t e) e) (frequent t row)

  abbrev pub frequent_answer : ℕ → ℕ → List (Entry T) → FrequentList
  frequent_answer t m row = record { lines = length (frequent_lines t row); threshold = t; complete = complete t m row }

  -- The top list of k. None of its lines is marked sure.
  abbrev pub top_lines : ℕ → ℕ → List (Entry T) → List (Line T)
  top_lines k m row = map (line false) (top k m row)

  abbrev pub top_answer : ℕ → ℕ → List (Entry T) → TopList
  top_answer k m row = record { lines = length (top_lines k m row); guaranteed = guaranteed k m row; ordered = ordered k m row }
