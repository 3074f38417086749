-- The placed row: the entries of a row with the places of their counters, lowest count first, and what a hit does to it
-- once it is known at which place the item's entry stands, if anywhere.
use Rattle.std.specs.Prelude.{ℕ, zero, suc, ◌+◌, cond, List, [], ◌∷◌, map, length, Some, None, Option, ◌==◌, nat_le, nat_lt}
use Rattle.rows.specs.declared.entry.Entry.{Entry}

-- An entry of the row, and the place of its counter.
pub record Placed (T : Type 0) : Type 0 where
  pub place : ℕ
  pub entry : Entry T

-- The place at a position of a list of places, and the place right before p.
abbrev pub nth : List ℕ → ℕ → Option ℕ
nth [] i = None
nth (x ∷ xs) zero = Some x
nth (x ∷ xs) (suc i) = nth xs i

abbrev pub before : ℕ → List ℕ → Option ℕ
before p [] = None
before p (x ∷ []) = None
before p (x ∷ y ∷ xs) = cond (p == y) (Some x) (before p (y ∷ xs))

module _ {T : Type 0} where
  -- The row without its places, and its places alone.
  abbrev pub entries : List (Placed T) → List (Entry T)
  entries row = map (λ e. e.entry) row

  abbrev pub places : List (Placed T) → List ℕ
  places row = map (λ e. e.place) row

  abbrev pub put : ℕ → T → ℕ → ℕ → Placed T
  put place item count error = record { place = place; entry = record { item = item; count = count; error = error } }

  -- Put in behind all entries whose count is at most its own.
  abbrev pub insert : Placed T → List (Placed T) → List (Placed T)
  insert n [] = n ∷ []
  insert n (e ∷ row) = cond (nat_le e.entry.count n.entry.count) (e ∷ insert n row) (n ∷ e ∷ row)

  -- What stands at the place p, and the row without it.
  abbrev pub at_place : ℕ → List (Placed T) → Option (Placed T)
  at_place p [] = None
  at_place p (e ∷ row) = cond (p == e.place) (Some e) (at_place p row)

  abbrev pub off_place : ℕ → List (Placed T) → List (Placed T)
  off_place p [] = []
  off_place p (e ∷ row) = cond (p == e.place) row (e ∷ off_place p row)

  -- The entry found counts one more, and keeps its place, its item and its error.
  abbrev pub raised : Option (Placed T) → List (Placed T) → List (Placed T)
  raised (Some e) rest = insert (put e.place e.entry.item (e.entry.count + 1) e.entry.error) rest
  raised None rest = rest

  -- An item that has no entry, at a place that has no counter in use.
  abbrev pub entered : ℕ → T → List (Placed T) → List (Placed T)
  entered p x row = insert (put p x 1 0) row

  -- An item that has no entry takes over the first entry's place, and owes what that had counted.
  abbrev pub overtaken : T → List (Placed T) → List (Placed T)
  overtaken x [] = []
  overtaken x (e ∷ row) = insert (put e.place x (e.entry.count + 1) e.entry.count) row

  -- The row after a hit with x in a table of m places, where x was found at a place, or not at all.
  abbrev pub step : ℕ → List (Placed T) → T → Option ℕ → List (Placed T)
  step m row x (Some p) = raised (at_place p row) (off_place p row)
  step m row x None = cond (nat_lt (length row) m) (entered (length row) x row) (overtaken x row)

  -- ---- reading a row: by place, and by position, which is counted from 0 at the low end

  abbrev pub placed_entry : Option (Placed T) → Option (Entry T)
  placed_entry (Some e) = Some e.entry
  placed_entry None = None

  -- The place of the entry at a position, and that entry; none past the row's end.
  abbrev pub place_at : List (Placed T) → ℕ → Option ℕ
  place_at row i = nth (places row) i

  abbrev pub nth_entry : List (Placed T) → ℕ → Option (Entry T)
  nth_entry [] i = None
  nth_entry (e ∷ row) zero = Some e.entry
  nth_entry (e ∷ row) (suc i) = nth_entry row i

  -- The place of the entry right below the one at p; none if that is the lowest, or if p has no entry.
  abbrev pub place_below : ℕ → List (Placed T) → Option ℕ
  place_below p row = before p (places row)
