-- What is read off a row of m counters: brackets, frequent lists, top lists, watched hits and shares.
use Rattle.std.specs.Prelude.{ℕ, zero, suc, ◌+◌, ◌-◌, ◌*◌, ◌/◌, min, max, Bool, true, cond, ◌&&◌, List, [], ◌∷◌, reverse, length, take, drop, is_some, Some, None, filter, Option, ◌==◌, nat_le, nat_lt}
use Rattle.rows.specs.declared.entry.Entry.{Entry}
use Rattle.rows.specs.Row.{entry_of}

-- ---- figures: bounds on hits that the row gives

module _ {Item : Type 0} where
  -- The row by position: its last entry is at position 1, the one before it at position 2, and so on.
  abbrev pub by_position : List (Entry Item) → List (Entry Item)
  by_position row = reverse row

  -- The count of the first of some entries, and a figure to take where there is none.
  abbrev pub first_count : ℕ → List (Entry Item) → ℕ
  first_count none [] = none
  first_count none (e ∷ row) = e.count

  -- The outside figure: an item without an entry has at most so many hits.
  -- It is 0 while the row has room, else the first entry's count.
  abbrev pub outside : ℕ → List (Entry Item) → ℕ
  outside m row = cond (nat_lt (length row) m) 0 (first_count 0 row)

  -- The lower figure of an entry: its item has at least so many hits.
  abbrev pub lower : Entry Item → ℕ
  lower e = e.count - e.error

  -- The figure after position i: the count at position i + 1, or the outside figure if i is the last.
  abbrev pub figure_after : ℕ → List (Entry Item) → ℕ → ℕ
  figure_after m row i = first_count (outside m row) (drop i (by_position row))

-- ---- brackets

module _ {Item : Type 0} where
  -- The bracket of an item: at least and at most how many hits it has. Its entry gives the lower figure and
  -- the count; without one it is 0 and the outside figure.
  abbrev pub bracket_at : ℕ → Option (Entry Item) → ℕ × ℕ
  bracket_at out (Some e) = (lower e, e.count)
  bracket_at out None = (0, out)

  abbrev pub bracket : (Item → Item → Bool) → ℕ → List (Entry Item) → Item → ℕ × ℕ
  bracket same m row x = bracket_at (outside m row) (entry_of same x row)

-- ---- frequent lists

-- The threshold of a support p/q in n hits: p × n / q rounded up, but at least 1.
abbrev pub threshold : ℕ → ℕ → ℕ → ℕ
threshold p q n = max 1 ((p * n + (q - 1)) / q)

module _ {Item : Type 0} where
  -- The frequent list of a threshold t: by position, every entry whose count is at least t.
  abbrev pub frequent : ℕ → List (Entry Item) → List (Entry Item)
  frequent t row = filter (λ e. nat_le t e.count) (by_position row)

  -- A line is sure if its lower figure is at least t.
  abbrev pub sure : ℕ → Entry Item → Bool
  sure t e = nat_le t (lower e)

  -- A frequent list is complete if the outside figure is below t.
  abbrev pub complete : ℕ → ℕ → List (Entry Item) → Bool
  complete t m row = nat_lt (outside m row) t

-- ---- top lists

-- Every element passes a test.
abbrev pub every : {X : Type 0} → (X → Bool) → List X → Bool
every test [] = true
every test (x ∷ xs) = test x && every test xs

-- The first of j, j + 1, .., j + more that passes a test.
abbrev pub smallest : (ℕ → Bool) → ℕ → ℕ → Option ℕ
smallest test j zero = cond (test j) (Some j) None
smallest test j (suc more) = cond (test j) (Some j) (smallest test (suc j) more)

-- The number found, or n where there is none.
abbrev pub or_else : ℕ → Option ℕ → ℕ
or_else n (Some j) = j
or_else n None = n

module _ {Item : Type 0} where
  -- The first j positions are clear of the rest: every lower figure there is at least the figure after j.
  abbrev pub clear : ℕ → List (Entry Item) → ℕ → Bool
  clear m row j = every (λ e. nat_le (figure_after m row j) (lower e)) (take j (by_position row))

  -- Where a top list of k ends: the smallest clear number from min(k, u) to u, of a row of u entries.
  abbrev pub cut : ℕ → ℕ → List (Entry Item) → Option ℕ
  cut k m row = smallest (clear m row) (min k (length row)) (length row - min k (length row))

  -- The top list of k: the positions up to the cut, or all where there is none.
  abbrev pub top : ℕ → ℕ → List (Entry Item) → List (Entry Item)
  top k m row = take (or_else (length row) (cut k m row)) (by_position row)

  -- A top list is guaranteed if there is a cut.
  abbrev pub guaranteed : ℕ → ℕ → List (Entry Item) → Bool
  guaranteed k m row = is_some (cut k m row)

  -- At each of the first k of some entries the lower figure is at least the count of the next,
  -- or at least the figure `out` at the last entry.
  abbrev pub falling : ℕ → ℕ → List (Entry Item) → Bool
  falling out zero es = true
  falling out (suc k) [] = true
  falling out (suc k) (e ∷ es) = nat_le (first_count out es) (lower e) && falling out k es

  -- A top list is ordered if at each of the first min(k, u) positions the lower figure is at least the figure after it.
  abbrev pub ordered : ℕ → ℕ → List (Entry Item) → Bool
  ordered k m row = falling (outside m row) k (by_position row)

-- ---- watched hits

module _ {Item : Type 0} (same : Item → Item → Bool) where
  -- An item is in a list if an entry holds a same item.
  abbrev pub listed : Item → List (Entry Item) → Bool
  listed x es = is_some (entry_of same x es)

  -- The first item, in the form that its entry holds, that is in one list and not in another.
  abbrev pub first_new : List (Entry Item) → List (Entry Item) → Option Item
  first_new [] others = None
  first_new (e ∷ es) others = cond (listed e.item others) (first_new es others) (Some e.item)

  -- The item that entered the first k positions, and the one that left them, between the row before a hit
  -- and the row after it; of a row with fewer than k entries, all are among the first k.
  abbrev pub entered : ℕ → List (Entry Item) → List (Entry Item) → Option Item
  entered k before after = first_new (take k (by_position after)) (take k (by_position before))

  abbrev pub left : ℕ → List (Entry Item) → List (Entry Item) → Option Item
  left k before after = first_new (take k (by_position before)) (take k (by_position after))

  abbrev pub watched : ℕ → List (Entry Item) → List (Entry Item) → Option Item × Option Item
  watched k before after = (entered k before after, left k before after)

-- ---- shares

-- The share of a lower figure in n hits: thousandths, rounded to a whole number, halves up; 0 where there are no hits.
abbrev pub share : ℕ → ℕ → ℕ
share figure n = cond (n == 0) 0 ((2 * (1000 * figure) + n) / (2 * n))
