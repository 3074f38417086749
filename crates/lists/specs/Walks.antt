-- A walk along the row by position, and what is ahead of it.
use Rattle.std.specs.Prelude.{ℕ, cond, List, [], ◌∷◌, reverse, Some, None, Option, ◌==◌}
use Rattle.rows.specs.declared.entry.Entry.{Entry}
use Rattle.table.specs.Placed.{Placed, entries}
use Rattle.counters.specs.Meaning.{placed}
use Rattle.lists.specs.declared.walk.Walk.{Walk}

module _ {T : Type 0} where
  -- Some entries from the one at the place p on; none if no entry is there.
  abbrev pub from_place : ℕ → List (Placed T) → List (Placed T)
  from_place p [] = []
  from_place p (e ∷ es) = cond (p == e.place) (e ∷ es) (from_place p es)

  -- The entries by position from the one at a place on.
  abbrev pub onwards : Option ℕ → List (Placed T) → List (Entry T)
  onwards None row = []
  onwards (Some p) row = entries (from_place p (reverse row))

  -- What a walk has ahead of it.
  abbrev pub ahead : Walk T → List (Entry T)
  ahead w = onwards w.place (placed w.counters.now)
