-- How a summary is read: what it stands for, whatever it is stored in.
use Rattle.std.specs.Prelude.{◌≡◌, ℕ, ◌+◌, List, [], ◌∷◌, length, ◌==◌, nat_lt}
use Rattle.rows.specs.declared.entry.Entry.{Entry}
use Rattle.rows.specs.Row.{one_if}
use Rattle.table.specs.Placed.{Placed, entries, places}

-- S is the type of summaries, T that of the items they count.
pub record Reading (S T : Type 0) : Type 0 where
  -- The row with the places of its counters, lowest count first.
  pub placed : S → List (Placed T)
  -- m, the number of counters; u, the number of those in use; and N, the number of accepted hits.
  pub size : S → ℕ
  pub used : S → ℕ
  pub total : S → ℕ

module _ {S T : Type 0} (reading : Reading S T) where
  -- The row that a summary holds.
  abbrev pub row_of : S → List (Entry T)
  row_of s = entries (reading.placed s)

-- How often a place comes.
abbrev pub times : ℕ → List ℕ → ℕ
times p [] = 0
times p (q ∷ ps) = one_if (p == q) + times p ps

-- Of the first u places each comes once, and no other place comes.
abbrev pub FirstPlaces : ℕ → List ℕ → Type 0
FirstPlaces u ps = (p : ℕ) → times p ps ≡ one_if (nat_lt p u)

-- What is known of every summary, since its type says so. `Structured` says what the links of a summary keep to.
pub record Reliable {S T : Type 0} (reading : Reading S T) (Structured : S → Type 0) : Type 0 where
  pub used : (s : S) → reading.used s ≡ length (reading.placed s)
  pub seated : (s : S) → FirstPlaces (reading.used s) (places (reading.placed s))
  pub structured : (s : S) → Structured s
