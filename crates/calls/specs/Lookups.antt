-- The places that a finder answers, beside the placed row: which are right, and what becomes of them at a hit.
use Rattle.std.specs.Prelude.{ℕ, ◌+◌, Bool, cond, List, [], ◌∷◌, length, Some, None, Option, nat_lt}
use Rattle.table.specs.Placed.{Placed}

module _ {T : Type 0} (same : T → T → Bool) where
  -- The place of the entry of x, or none.
  abbrev pub place_in : List (Placed T) → T → Option ℕ
  place_in [] x = None
  place_in (e ∷ row) x = cond (same e.entry.item x) (Some e.place) (place_in row x)

  -- ---- what becomes of the look-ups `find`

  -- x is found at the place now, and every other item where it was.
  abbrev pub with_item : T → ℕ → (T → Option ℕ) → T → Option ℕ
  with_item x place find y = cond (same y x) (Some place) (find y)

  -- x is found nowhere now, and every other item where it was.
  abbrev pub without_item : T → (T → Option ℕ) → T → Option ℕ
  without_item x find y = cond (same y x) None (find y)

  -- The first entry's item leaves, and x enters at its place.
  abbrev pub find_overtaken : T → List (Placed T) → (T → Option ℕ) → T → Option ℕ
  find_overtaken x [] find = find
  find_overtaken x (first ∷ row) find = with_item x first.place (without_item first.entry.item find)

  -- A hit with x in a table of m places, where x was found at a place, or not at all. A newcomer enters at the place u,
  -- which is the number of entries.
  abbrev pub find_after : ℕ → List (Placed T) → T → Option ℕ → (T → Option ℕ) → T → Option ℕ
  find_after m row x (Some place) find = find
  find_after m row x None find = cond (nat_lt (length row) m) (with_item x (length row) find) (find_overtaken x row find)

-- How many items the finder holds after such a hit.
abbrev pub held_count_after : {T : Type 0} → ℕ → List (Placed T) → Option ℕ → ℕ → ℕ
held_count_after m row (Some place) held = held
held_count_after m row None held = cond (nat_lt (length row) m) (held + 1) held
