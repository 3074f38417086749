-- What the links of a table keep to while no counter is detached.
use Rattle.std.specs.Prelude.{◌≡◌, ℕ, ◌+◌, ◌<◌, ◌≤◌, ◌⊎◌, List, [], ◌∷◌, length}
use Rattle.std.specs.List.{AllByRecursion as Each}
use Rattle.links.specs.Chains.{Within}
use Rattle.table.specs.declared.place.Place.{Place}
use Rattle.table.specs.declared.lists.Lists.{Lists}
use Rattle.table.specs.Fields.{value_in}
use Rattle.table.specs.Groups.{Group, Full}

-- How many counters the groups have.
abbrev pub tally : List Group → ℕ
tally [] = 0
tally (g ∷ gs) = length g.members + tally gs

-- f rises strictly along the list.
abbrev pub Rises : {A : Type 0} → (A → ℕ) → List A → Type 0
Rises f [] = Unit {0}
Rises f (x ∷ xs) = Each (λ y. f x < f y) xs × Rises f xs

-- The count that a group's counters have.
abbrev pub worth : {T : Type 0} → List (Place T) → Group → ℕ
worth t g = value_in t g.at

-- q is one of the places, and a counter of one of the groups.
abbrev pub In : ℕ → List ℕ → Type 0
In q [] = ⊥
In q (x ∷ xs) = (x ≡ q) ⊎ In q xs

abbrev pub Among : ℕ → List Group → Type 0
Among q [] = ⊥
Among q (g ∷ gs) = In q g.members ⊎ Among q gs

-- The groups gs and the free buckets fs are what the links say, with the counters of the places below `used` in use and
-- no count above `total`. From the numbers of counters and buckets it follows that a free bucket is left while a counter
-- is detached.
pub record Sound {T : Type 0} (t : List (Place T)) (s : Lists) (used total : ℕ) (gs : List Group) (fs : List ℕ) : Type 0 where
  pub full : Full t s gs fs
  pub rising : Rises (worth t) gs
  pub under : Each (λ g. worth t g ≤ total) gs
  pub positive : Each (λ g. 1 ≤ worth t g) gs
  pub inside : Each (λ g. Within used g.members) gs
  pub filled : Each (λ g. 1 ≤ length g.members) gs
  pub counters : tally gs ≡ used
  pub buckets : length gs + length fs ≡ length t
  pub fits : used ≤ length t
  pub seats : (q : ℕ) → q < used → Among q gs

pub record Stands {T : Type 0} (t : List (Place T)) (s : Lists) (used total : ℕ) : Type 0 where
  pub gs : List Group
  pub fs : List ℕ
  pub sound : Sound t s used total gs fs
