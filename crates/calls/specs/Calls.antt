-- What each of the six calls of a summary answers, and what it leaves.
use Rattle.std.specs.Prelude.{◌≡◌, ℕ, ◌+◌, Bool, List, [], length, Some, None, Ok, Option, Result}
use Rattle.rows.specs.declared.entry.Entry.{Entry}
use Rattle.rows.specs.Questions.{outside, bracket_at, threshold, watched}
use Rattle.finders.specs.declared.finder.Binding.{Binding}
use Rattle.finders.specs.Lookup.{lookup}
use Rattle.table.specs.Placed.{Placed, at_place, placed_entry, step}
use Rattle.calls.specs.declared.refusal.Refusal.{Refusal}
use Rattle.calls.specs.declared.answers.Line.{Line}
use Rattle.calls.specs.declared.answers.FrequentList.{FrequentList}
use Rattle.calls.specs.declared.answers.TopList.{TopList}
use Rattle.calls.specs.Refusals.{unless_refused, open_refusal, limit, rank, support, length_refusal, if_foreign, Unless}
use Rattle.calls.specs.Reading.{Reading, row_of}
use Rattle.calls.specs.Lookups.{find_after, held_count_after}
use Rattle.calls.specs.Foreign.{foreign_place, foreign_hit}
use Rattle.calls.specs.Lists.{written, frequent_lines, frequent_answer, top_lines, top_answer}

-- ---- the lists, read off a row of m counters after n hits

-- A call that answers a and writes a list, unless it is refused: the lines before, the answer, and the lines after.
abbrev pub ListEnds : {T Answer : Type 0} → Option Refusal → Answer → List (Line T) → List (Line T) → Result Answer Refusal → List (Line T) → Type 0
ListEnds refusal a list lines r lines' = Unless refusal r (lines' ≡ lines) ((r ≡ Ok a) × (lines' ≡ written list lines))

module _ {T : Type 0} where
  -- The frequent list of the support p/q.
  abbrev pub FrequentEnds : ℕ → ℕ → List (Entry T) → ℕ → ℕ → List (Line T) → Result FrequentList Refusal → List (Line T) → Type 0
  FrequentEnds m n row p q lines r lines' =
      ListEnds (support p q (length_refusal (length (frequent_lines (threshold p q n) row)) (length lines)))
      (frequent_answer (threshold p q n) m row) (frequent_lines (threshold p q n) row) lines r lines'

  -- The top list of k.
  abbrev pub TopEnds : ℕ → List (Entry T) → ℕ → List (Line T) → Result TopList Refusal → List (Line T) → Type 0
  TopEnds m row k lines r lines' =
      ListEnds (rank m k (length_refusal (length (top_lines k m row)) (length lines))) (top_answer k m row) (top_lines k m row) lines r lines'

  -- The entry at the place given, if one is.
  abbrev pub entry_at : List (Placed T) → Option ℕ → Option (Entry T)
  entry_at row (Some p) = placed_entry (at_place p row)
  entry_at row None = None

-- ---- the calls that take no finder

module _ {S T : Type 0} (reading : Reading S T) where
  abbrev pub FrequentAnswered : S → ℕ → ℕ → List (Line T) → Result FrequentList Refusal → List (Line T) → Type 0
  FrequentAnswered s p q lines r lines' = FrequentEnds (reading.size s) (reading.total s) (row_of reading s) p q lines r lines'

  abbrev pub TopAnswered : S → ℕ → List (Line T) → Result TopList Refusal → List (Line T) → Type 0
  TopAnswered s k lines r lines' = TopEnds (reading.size s) (row_of reading s) k lines r lines'

  -- A summary of m counters that has counted nothing.
  pub record Opened (m : ℕ) (s : S) : Type 0 where
    pub size : reading.size s ≡ m
    pub empty : reading.placed s ≡ []
    pub total : reading.total s ≡ 0

-- ---- the calls that take a finder: it is known by what it holds, what fits, and the law that its own calls keep

-- The check before a summary is opened over m places, whatever they hold. What it accepts can be opened.
abbrev pub OpenAnswered : {T F : Type 0} → (F → List (Binding T)) → (F → ℕ) → ℕ → F → Result (Unit {0}) Refusal → Type 0
OpenAnswered bindings room m f r = r ≡ unless_refused (open_refusal m (room f) (length (bindings f)))

-- A summary and a finder, exactly as they were.
pub record Unchanged {S F : Type 0} (s : S) (f : F) (s' : S) (f' : F) : Type 0 where
  pub summary : s' ≡ s
  pub finder : f' ≡ f

module _ {S T F : Type 0} (same : T → T → Bool) (bindings : F → List (Binding T)) (room : F → ℕ) (lawful : F → Type 0) (reading : Reading S T) where
  -- A summary and a finder before and after an accepted hit with x.
  pub record Accepted (s : S) (f : F) (x : T) (s' : S) (f' : F) : Type 0 where
    pub size : reading.size s' ≡ reading.size s
    pub placed : reading.placed s' ≡ step (reading.size s) (reading.placed s) x (lookup same (bindings f) x)
    pub total : reading.total s' ≡ reading.total s + 1
    pub finds : (y : T) → lookup same (bindings f') y ≡ find_after same (reading.size s) (reading.placed s) x (lookup same (bindings f) x) (lookup same (bindings f)) y
    pub held : length (bindings f') ≡ held_count_after (reading.size s) (reading.placed s) (lookup same (bindings f) x) (length (bindings f))
    pub fits : room f' ≡ room f
    pub still_lawful : lawful f'

  -- The finder is foreign to the summary, for a hit with x.
  abbrev pub is_foreign : S → F → T → Bool
  is_foreign s f x = foreign_hit same (reading.size s) (reading.used s) (reading.placed s) (length (bindings f)) (room f) (lookup same (bindings f)) x (lookup same (bindings f) x)

  -- A hit with x that answers a. `refusal` is for what needs no finder. The rest is known of a lawful finder only: every
  -- empty finder is lawful, and so is every finder that a summary is opened with, and an accepted hit keeps it lawful.
  abbrev pub HitEnds : {Answer : Type 0} → Option Refusal → Answer → S → F → T → Result Answer Refusal → S → F → Type 0
  HitEnds refusal a s f x r s' f' =
      Unless refusal r (Unchanged s f s' f')
      (lawful f → Unless (if_foreign (is_foreign s f x)) r (Unchanged s f s' f') ((r ≡ Ok a) × Accepted s f x s' f'))

  abbrev pub HitAnswered : S → F → T → Result (Unit {0}) Refusal → S → F → Type 0
  HitAnswered s f x r s' f' = HitEnds (limit (reading.total s) None) tt s f x r s' f'

  -- A watched hit answers what entered and what left the first k positions.
  abbrev pub WatchedAnswered : S → F → ℕ → T → Result (Option T × Option T) Refusal → S → F → Type 0
  WatchedAnswered s f k x r s' f' =
      HitEnds (rank (reading.size s) k (limit (reading.total s) None)) (watched same k (row_of reading s) (row_of reading s')) s f x r s' f'

  -- The item's entry is the one at the place that the finder gives, or there is none.
  abbrev pub BracketAnswered : S → F → T → Result (ℕ × ℕ) Refusal → Type 0
  BracketAnswered s f x r =
      lawful f →
      Unless (if_foreign (foreign_place same (reading.used s) (reading.placed s) x (lookup same (bindings f) x))) r (Unit {0})
      (r ≡ Ok (bracket_at (outside (reading.size s) (row_of reading s)) (entry_at (reading.placed s) (lookup same (bindings f) x))))
