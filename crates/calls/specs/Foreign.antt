-- When a finder is foreign: what it answers cannot be of this summary.
use Rattle.std.specs.Prelude.{ℕ, Bool, true, false, cond, not, ◌||◌, List, [], ◌∷◌, Some, None, Option, ◌==◌, nat_le, nat_lt}
use Rattle.table.specs.Placed.{Placed, at_place}

-- An answer gives a place.
abbrev pub gives : Option ℕ → ℕ → Bool
gives (Some q) p = q == p
gives None p = false

module _ {T : Type 0} (same : T → T → Bool) where
  -- There is an entry, and it holds an item the same as x.
  abbrev pub holds : Option (Placed T) → T → Bool
  holds (Some e) x = same e.entry.item x
  holds None x = false

  -- The place given for x, if one is, is at or above u, or its counter holds no item the same as x.
  abbrev pub foreign_place : ℕ → List (Placed T) → T → Option ℕ → Bool
  foreign_place u row x (Some p) = nat_le u p || not (holds (at_place p row) x)
  foreign_place u row x None = false

-- The look-ups `find` do not give the first entry's place for that entry's item.
abbrev pub foreign_first : {T : Type 0} → List (Placed T) → (T → Option ℕ) → Bool
foreign_first [] find = true
foreign_first (first ∷ row) find = not (gives (find first.entry.item) first.place)

module _ {T : Type 0} (same : T → T → Bool) where
  -- For a hit with x in a table of m places, u of them in use: the place given for x is foreign. Or none is given, and
  -- u is below m and the finder, with room for `room` items, holds as many; or u is not, and the first entry is not found.
  abbrev pub foreign_hit : ℕ → ℕ → List (Placed T) → ℕ → ℕ → (T → Option ℕ) → T → Option ℕ → Bool
  foreign_hit m u row held room find x (Some p) = foreign_place same u row x (Some p)
  foreign_hit m u row held room find x None = cond (nat_lt u m) (nat_le room held) (foreign_first row find)
