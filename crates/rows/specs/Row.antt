-- The row machine: the counters as a list of entries, lowest count first, and what a hit does to them.
use Rattle.std.specs.Prelude.{ℕ, ◌+◌, Bool, true, false, cond, List, [], ◌∷◌, length, Some, None, fold, Option, nat_le, nat_lt}
use Rattle.rows.specs.declared.entry.Entry.{Entry}

module _ {Item : Type 0} where
  -- The entry of an item with its count and its error.
  abbrev pub entry : Item → ℕ → ℕ → Entry Item
  entry x count error = record { item = x; count = count; error = error }

  -- An entry with an amount more on its count. It keeps its form of the item.
  abbrev pub raised : ℕ → Entry Item → Entry Item
  raised amount e = entry e.item (e.count + amount) e.error

  -- The row with an entry put in, behind all entries whose count is at most its own.
  abbrev pub insert : Entry Item → List (Entry Item) → List (Entry Item)
  insert new [] = new ∷ []
  insert new (e ∷ row) = cond (nat_le e.count new.count) (e ∷ insert new row) (new ∷ e ∷ row)

  -- The first entry, of count c, gives way to an item that had none: it gets the count c + 1 and the error c.
  abbrev pub take_over : Item → List (Entry Item) → List (Entry Item)
  take_over x [] = []
  take_over x (first ∷ row) = insert (entry x (first.count + 1) first.count) row

module _ {Item : Type 0} (same : Item → Item → Bool) where
  -- The entry of an item, or none: the first that holds a same item.
  abbrev pub entry_of : Item → List (Entry Item) → Option (Entry Item)
  entry_of x [] = None
  entry_of x (e ∷ row) = cond (same e.item x) (Some e) (entry_of x row)

  -- The row without the entry of an item.
  abbrev pub without : Item → List (Entry Item) → List (Entry Item)
  without x [] = []
  without x (e ∷ row) = cond (same e.item x) row (e ∷ without x row)

  -- A hit on a row of at most m entries, where the item's entry is known. An entry gets one more and
  -- moves. An item without one joins with count 1 while there is room; else it takes over the first entry.
  abbrev pub hit_at : ℕ → List (Entry Item) → Item → Option (Entry Item) → List (Entry Item)
  hit_at m row x (Some e) = insert (raised 1 e) (without x row)
  hit_at m row x None = cond (nat_lt (length row) m) (insert (entry x 1 0) row) (take_over x row)

  -- A hit with an item.
  abbrev pub hit : ℕ → List (Entry Item) → Item → List (Entry Item)
  hit m row x = hit_at m row x (entry_of x row)

  -- The row of m counters after a list of hits, the earliest first.
  abbrev pub row_after : ℕ → List Item → List (Entry Item)
  row_after m hits = fold (hit m) [] hits

-- 1 where a test passes.
abbrev pub one_if : Bool → ℕ
one_if true = 1
one_if false = 0

-- An item's hits: how many of the hits are with a same item.
abbrev pub hits_of : {Item : Type 0} → (Item → Item → Bool) → List Item → Item → ℕ
hits_of same [] x = 0
hits_of same (y ∷ hits) x = one_if (same y x) + hits_of same hits x
