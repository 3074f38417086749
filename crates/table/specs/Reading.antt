-- What the links of a table say: its buckets in order, each bucket's counters in order, and the placed row.
use Rattle.std.specs.Prelude.{ℕ, zero, suc, List, [], ◌∷◌, length, Some, None, Option}
use Rattle.std.specs.List.{flat_map}
use Rattle.links.specs.Lists.{next_in}
use Rattle.table.specs.declared.place.Place.{Place}
use Rattle.table.specs.Placed.{Placed}
use Rattle.table.specs.Fields.{counter_links, bucket_links, members_in, value_in, placed_in}

-- The places that links lead through, n at most.
abbrev pub walk : (ℕ → Option ℕ) → Option ℕ → ℕ → List ℕ
walk next None n = []
walk next (Some i) zero = []
walk next (Some i) (suc n) = i ∷ walk next (next i) n

module _ {T : Type 0} (t : List (Place T)) where
  -- The buckets from the one that `first` leads to.
  abbrev pub buckets : Option ℕ → List ℕ
  buckets first = walk (next_in bucket_links t) first (length t)

  -- The counters of the bucket b.
  abbrev pub counters : ℕ → List ℕ
  counters b = walk (next_in counter_links t) (members_in t b).first (length t)

  -- From the first bucket to the last, the counters of each in their order, at the bucket's count.
  abbrev pub placed_row : Option ℕ → List (Placed T)
  placed_row first = flat_map (λ b. flat_map (placed_in t (value_in t b)) (counters b)) (buckets first)
