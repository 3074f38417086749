-- What a table stands for: the buckets in use in order, each with its counters in order, and the free buckets.
use Rattle.std.specs.Prelude.{◌≡◌, ℕ, zero, suc, ◌<◌, List, [], ◌∷◌, ◌++◌, map, length}
use Rattle.std.specs.List.{AllByRecursion as Each}
use Rattle.links.specs.Chains.{Off, Cross}
use Rattle.links.specs.Lists.{Listed}
use Rattle.table.specs.declared.place.Place.{Place}
use Rattle.table.specs.declared.lists.Lists.{Lists}
use Rattle.table.specs.Fields.{counter_links, bucket_links, owner_in, members_in}

-- A bucket, and its counters in order.
pub record Group : Type 0 where
  pub at : ℕ
  pub members : List ℕ

abbrev pub group : ℕ → List ℕ → Group
group b ms = record { at = b; members = ms }

-- The buckets of groups.
abbrev pub ats : List Group → List ℕ
ats gs = map (λ g. g.at) gs

-- The table holds a group: its counters are the list between the bucket's ends, and each names the bucket.
pub record Holds {T : Type 0} (t : List (Place T)) (g : Group) : Type 0 where
  pub list : Listed counter_links t g.members (members_in t g.at)
  pub mine : Each (λ c. owner_in t c ≡ g.at) g.members

-- The buckets in use are those of the groups gs, and fs are the free ones: two lists of one kind that share no bucket.
pub record Full {T : Type 0} (t : List (Place T)) (s : Lists) (gs : List Group) (fs : List ℕ) : Type 0 where
  pub buckets : Listed bucket_links t (ats gs) s.main
  pub groups : Each (Holds t) gs
  pub unused : Listed bucket_links t fs s.free
  pub apart : Cross (ats gs) fs

-- The counter c is of the table, and in none of the groups.
pub record Loose {T : Type 0} (t : List (Place T)) (gs : List Group) (c : ℕ) : Type 0 where
  pub off : Each (λ g. Off c g.members) gs
  pub within : c < length t

-- The groups rs, after the bucket b with the counters ms if there are any; and the free buckets, with b if there are none.
abbrev pub with_group : ℕ → List ℕ → List Group → List Group
with_group b [] rs = rs
with_group b (x ∷ ms) rs = group b (x ∷ ms) ∷ rs

abbrev pub with_free : ℕ → List ℕ → List ℕ → List ℕ
with_free b [] fs = fs ++ b ∷ []
with_free b (x ∷ ms) fs = fs

-- The places below n, in order.
abbrev pub below : ℕ → List ℕ
below zero = []
below (suc n) = below n ++ n ∷ []
