-- When a summary and a finder are sound for a list of accepted hits.
use Rattle.std.specs.Prelude.{◌≡◌, ℕ, ◌≤◌, Bool, List, length, Some}
use Rattle.std.specs.List.{AllByRecursion as Each}
use Rattle.rows.specs.Row.{row_after}
use Rattle.rows.specs.Promises.{SoundRow, sum_of_counts}
use Rattle.finders.specs.declared.finder.Binding.{Binding}
use Rattle.finders.specs.Lookup.{lookup}
use Rattle.table.specs.Placed.{places}
use Rattle.calls.specs.Reading.{Reading, row_of, FirstPlaces}
use Rattle.calls.specs.Lookups.{place_in}
use Rattle.calls.specs.Conditions.{Sized}

-- The summary holds the row machine's row of m counters after these hits, and its u and N.
pub record SoundTable {S T : Type 0} (same : T → T → Bool) (reading : Reading S T) (Structured : S → Type 0) (m : ℕ) (hits : List T) (s : S) : Type 0 where
  pub sized : Sized m
  pub size : reading.size s ≡ m
  pub row : row_of reading s ≡ row_after same m hits
  pub used : reading.used s ≡ length (row_after same m hits)
  pub total : reading.total s ≡ length hits
  -- No more hits were accepted than can be counted.
  pub countable : length hits ≤ 4294967295
  -- The counts add up to N.
  pub adds_up : sum_of_counts (row_of reading s) ≡ reading.total s
  pub in_order : SoundRow same m (length hits) (row_of reading s)
  -- The used counters are those at places 0 to u - 1, each once.
  pub seated : FirstPlaces (reading.used s) (places (reading.placed s))
  -- The links of buckets and counters are as they should be.
  pub structured : Structured s

-- Besides, the finder finds each item at the place of its entry, and holds nothing else.
pub record Sound {S T F : Type 0} (same : T → T → Bool) (bindings : F → List (Binding T)) (room : F → ℕ) (lawful : F → Type 0) (reading : Reading S T) (Structured : S → Type 0) (m : ℕ) (hits : List T) (s : S) (f : F) : Type 0 where
  pub table : SoundTable same reading Structured m hits s
  -- Looking up the item of a used counter gives the place of that counter.
  pub own : Each (λ e. lookup same (bindings f) e.entry.item ≡ Some e.place) (reading.placed s)
  -- Looking up any item gives the place of its entry, or none if it has none.
  pub finds : (x : T) → lookup same (bindings f) x ≡ place_in same (reading.placed s) x
  pub held : length (bindings f) ≡ reading.used s
  pub fits : m ≤ room f
  pub is_lawful : lawful f
