-- What the links of a table keep to at all times, in the words of the walks along them.
use Rattle.std.specs.Prelude.{◌≡◌, ℕ, ◌+◌, ◌≤◌, cond, List, [], ◌∷◌, ◌++◌, length, None, ◌==◌, nat_lt}
use Rattle.std.specs.List.{AllByRecursion as Each}
use Rattle.links.specs.Chains.{Chain, last_or}
use Rattle.links.specs.Lists.{next_in, prev_in}
use Rattle.table.specs.declared.place.Place.{Place}
use Rattle.table.specs.declared.lists.Lists.{Lists}
use Rattle.table.specs.Placed.{places}
use Rattle.table.specs.Fields.{counter_links, bucket_links, owner_in, members_in, value_in}
use Rattle.table.specs.Reading.{buckets, counters, placed_row}
use Rattle.table.specs.Stands.{Rises}

-- How often i comes.
abbrev pub times : ℕ → List ℕ → ℕ
times i [] = 0
times i (j ∷ js) = cond (i == j) 1 0 + times i js

-- Once below n, and never from n on.
abbrev pub once : ℕ → ℕ → ℕ
once n i = cond (nat_lt i n) 1 0

-- A table whose places below `used` have counters in use, for `total` hits.
pub record Structure {T : Type 0} (t : List (Place T)) (s : Lists) (used total : ℕ) : Type 0 where
  -- The counts of the buckets in use rise strictly, and no bucket in use is empty.
  pub rising : Rises (value_in t) (buckets t s.main.first)
  pub filled : Each (λ b. 1 ≤ length (counters t b)) (buckets t s.main.first)
  -- Links name back, and ends are kept: of the buckets in use, of the free ones, and of the counters of each bucket in use.
  pub buckets_chained : Chain (next_in bucket_links t) (prev_in bucket_links t) None (buckets t s.main.first) None
  pub bucket_end : s.main.last ≡ last_or None (buckets t s.main.first)
  pub free_links : Chain (next_in bucket_links t) (prev_in bucket_links t) None (buckets t s.free.first) None
  pub free_end : s.free.last ≡ last_or None (buckets t s.free.first)
  pub counters_chained : Each (λ b. Chain (next_in counter_links t) (prev_in counter_links t) None (counters t b) None) (buckets t s.main.first)
  pub counter_ends : Each (λ b. (members_in t b).last ≡ last_or None (counters t b)) (buckets t s.main.first)
  -- Every counter names the bucket that it is in.
  pub owned : Each (λ b. Each (λ c. owner_in t c ≡ b) (counters t b)) (buckets t s.main.first)
  -- The counter of every place in use is attached once, and no other; every bucket is in use or free, once.
  pub attached : (c : ℕ) → times c (places (placed_row t s.main.first)) ≡ once used c
  pub spare : (b : ℕ) → times b (buckets t s.main.first ++ buckets t s.free.first) ≡ once (length t) b
  -- No count is above the number of hits.
  pub under : Each (λ e. e.entry.count ≤ total) (placed_row t s.main.first)
