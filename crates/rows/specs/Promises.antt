-- What the row machine promises: the theorem on rows, in named parts.
use Rattle.std.specs.Prelude.{◌≡◌, ℕ, ◌+◌, ◌-◌, ◌*◌, ◌<◌, ◌≤◌, min, Bool, true, false, cond, List, [], ◌∷◌, ◌++◌, length, take, drop, is_some, Some, None, Option}
use Rattle.std.specs.List.{AllByRecursion as Each}
use Rattle.rows.specs.declared.entry.Entry.{Entry}
use Rattle.rows.specs.Row.{entry, raised, entry_of, without, row_after, hits_of}
use Rattle.rows.specs.Questions.{by_position, outside, lower, figure_after, bracket, threshold, frequent, sure, complete, top, guaranteed, ordered, listed, entered, left, share}

-- ---- words

-- A test passes exactly if a fact holds.
pub record Exactly (test : Bool) (Fact : Type 0) : Type 0 where
  pub means : test ≡ true → Fact
  pub given : Fact → test ≡ true

-- Every earlier element stands in a relation to every later one.
abbrev pub Pairwise : {X : Type 0} → (X → X → Type 0) → List X → Type 0
Pairwise R [] = Unit {0}
Pairwise R (x ∷ xs) = Each (R x) xs × Pairwise R xs

-- j is the smallest number from low to high of which a fact holds.
pub record SmallestFrom (low high : ℕ) (Fact : ℕ → Type 0) (j : ℕ) : Type 0 where
  pub at_least : low ≤ j
  pub at_most : j ≤ high
  pub holds : Fact j
  pub first : (i : ℕ) → low ≤ i → i < j → Fact i → ⊥

module _ {Item : Type 0} where
  -- Counts never fall along the row.
  abbrev pub Sorted : List (Entry Item) → Type 0
  Sorted row = Pairwise (λ a b. a.count ≤ b.count) row

  -- No two entries hold the same item.
  abbrev pub Apart : (Item → Item → Bool) → List (Entry Item) → Type 0
  Apart same row = Pairwise (λ a b. same a.item b.item ≡ false) row

  abbrev pub sum_of_counts : List (Entry Item) → ℕ
  sum_of_counts [] = 0
  sum_of_counts (e ∷ row) = e.count + sum_of_counts row

  abbrev pub lower_of_first : List (Entry Item) → ℕ
  lower_of_first [] = 0
  lower_of_first (e ∷ es) = lower e

  -- The lower figure at position i, where positions count from 1.
  abbrev pub lower_at : List (Entry Item) → ℕ → ℕ
  lower_at row i = lower_of_first (drop (i - 1) (by_position row))

  -- Every lower figure at positions 1 to j is at least the figure after position j.
  abbrev pub ClearOfRest : ℕ → List (Entry Item) → ℕ → Type 0
  ClearOfRest m row j = (i : ℕ) → 1 ≤ i → i ≤ j → figure_after m row j ≤ lower_at row i

  -- The entries behind the entry of an item.
  abbrev pub behind_entry : (Item → Item → Bool) → Item → List (Entry Item) → List (Entry Item)
  behind_entry same x [] = []
  behind_entry same x (e ∷ row) = cond (same e.item x) row (behind_entry same x row)

  -- The form of an item that its entry holds.
  abbrev pub form_at : Option (Entry Item) → Option Item
  form_at (Some e) = Some e.item
  form_at None = None

-- ---- the row

-- The row of m counters after n hits: lowest count first, no two items the same, at most m entries,
-- every error below its count, and counts that add up to the number of hits.
pub record SoundRow {Item : Type 0} (same : Item → Item → Bool) (m n : ℕ) (row : List (Entry Item)) : Type 0 where
  pub sorted : Sorted row
  pub apart : Apart same row
  pub room : length row ≤ m
  pub error_below : Each (λ e. e.error < e.count) row
  pub adds_up : sum_of_counts row ≡ n

-- ---- hits

-- x is booked in a row: its entry is new, the others are as given and in their order, and behind the entry stand only greater counts.
pub record Booked {Item : Type 0} (same : Item → Item → Bool) (x : Item) (new : Entry Item) (others row : List (Entry Item)) : Type 0 where
  pub its_entry : entry_of same x row ≡ Some new
  pub others_stay : without same x row ≡ others
  pub behind_equals : Each (λ e. new.count < e.count) (behind_entry same x row)

-- What a hit with x does to a row of at most m entries.
pub record TrueHit {Item : Type 0} (same : Item → Item → Bool) (m : ℕ) (x : Item) (before after : List (Entry Item)) : Type 0 where
  -- An entry gets one more, and keeps its error and its form of the item.
  pub with_entry : (e : Entry Item) → entry_of same x before ≡ Some e → Booked same x (raised 1 e) (without same x before) after
  -- Without one, and with room, x joins.
  pub with_room : entry_of same x before ≡ None → length before < m → Booked same x (entry x 1 0) before after
  -- With no room, the first entry goes, and its count is the new error.
  pub without_room : (first : Entry Item) (rest : List (Entry Item)) → before ≡ first ∷ rest → entry_of same x before ≡ None → m ≤ length before →
      Booked same x (entry x (first.count + 1) first.count) rest after

-- ---- brackets

-- An item's hits lie between the two figures, and the gap times m is at most the number of all hits.
pub record TrueBracket {Item : Type 0} (same : Item → Item → Bool) (m : ℕ) (hits : List Item) (x : Item) (figures : ℕ × ℕ) : Type 0 where
  pub at_least : figures.0 ≤ hits_of same hits x
  pub at_most : hits_of same hits x ≤ figures.1
  pub narrow : (figures.1 - figures.0) * m ≤ length hits

-- ---- frequent lists

-- t is the least number from 1 on with q × t at least p × n.
pub record LeastThreshold (p q n t : ℕ) : Type 0 where
  pub positive : 1 ≤ t
  pub reaches : p * n ≤ q * t
  pub least : (s : ℕ) → 1 ≤ s → p * n ≤ q * s → t ≤ s

-- The frequent list of a threshold t.
pub record TrueFrequentList {Item : Type 0} (same : Item → Item → Bool) (m t : ℕ) (hits : List Item) (row lines : List (Entry Item)) : Type 0 where
  -- The lines are the entries with a count of at least t, by position: the first ones, and none behind them.
  pub first_positions : lines ≡ take (length lines) (by_position row)
  pub reaching : Each (λ e. t ≤ e.count) lines
  pub no_more : Each (λ e. e.count < t) (drop (length lines) (by_position row))
  -- A line is sure exactly if its lower figure is at least t; it then has at least t hits.
  pub sure_exactly : (e : Entry Item) → Exactly (sure t e) (t ≤ lower e)
  pub sure_lines : Each (λ e. sure t e ≡ true → t ≤ hits_of same hits e.item) lines
  -- The list is complete exactly if the outside figure is below t; it then omits no item with at least t hits.
  pub complete_exactly : Exactly (complete t m row) (outside m row < t)
  pub omits_none : complete t m row ≡ true → (x : Item) → t ≤ hits_of same hits x → listed same x lines ≡ true
  -- It is complete whenever t × m is more than the number of hits.
  pub complete_when : length hits < t * m → complete t m row ≡ true

-- ---- top lists

-- The top list of k, of a row of u entries.
pub record TrueTopList {Item : Type 0} (same : Item → Item → Bool) (m k : ℕ) (hits : List Item) (row lines : List (Entry Item)) : Type 0 where
  -- The lines are the first positions.
  pub first_positions : lines ≡ take (length lines) (by_position row)
  -- It is guaranteed exactly if some number from min(k, u) to u is clear of the rest. It then ends at the
  -- smallest, and otherwise lists all.
  pub guaranteed_means : guaranteed k m row ≡ true → SmallestFrom (min k (length row)) (length row) (ClearOfRest m row) (length lines)
  pub guaranteed_given : (j : ℕ) → min k (length row) ≤ j → j ≤ length row → ClearOfRest m row j → guaranteed k m row ≡ true
  pub otherwise_all : guaranteed k m row ≡ false → lines ≡ by_position row
  -- Guaranteed: every listed item has at least as many hits as every item left out.
  pub best : guaranteed k m row ≡ true → (x y : Item) → listed same x lines ≡ true → listed same y lines ≡ false → hits_of same hits y ≤ hits_of same hits x
  -- It is ordered exactly if at each position from 1 to min(k, u) the lower figure is at least the figure after it.
  pub ordered_exactly : Exactly (ordered k m row) ((i : ℕ) → 1 ≤ i → i ≤ min k (length row) → figure_after m row i ≤ lower_at row i)
  -- Ordered: along the first k lines hits never rise.
  pub never_rising : ordered k m row ≡ true → Pairwise (λ a b. hits_of same hits b.item ≤ hits_of same hits a.item) (take k lines)

-- ---- watched hits

-- x, in the form that its entry holds, is in one list and not in another, and every such item is the same as x.
pub record OnlyNew {Item : Type 0} (same : Item → Item → Bool) (es others : List (Entry Item)) (x : Item) : Type 0 where
  pub held : form_at (entry_of same x es) ≡ Some x
  pub new : listed same x others ≡ false
  pub only : (y : Item) → listed same y es ≡ true → listed same y others ≡ false → same x y ≡ true

-- What an answer says of the items in one list and not in another: there is only the one answered, or there is none.
abbrev pub TellsNew : {Item : Type 0} → (Item → Item → Bool) → List (Entry Item) → List (Entry Item) → Option Item → Type 0
TellsNew {Item} same es others (Some x) = OnlyNew same es others x
TellsNew {Item} same es others None = (y : Item) → listed same y es ≡ true → listed same y others ≡ true

-- Which item entered and which left the first k positions, by a hit with x between two rows.
pub record TrueWatch {Item : Type 0} (same : Item → Item → Bool) (k : ℕ) (x : Item) (before after : List (Entry Item)) : Type 0 where
  pub entering : TellsNew same (take k (by_position after)) (take k (by_position before)) (entered same k before after)
  pub leaving : TellsNew same (take k (by_position before)) (take k (by_position after)) (left same k before after)
  -- Only the item that was hit can enter, and none leaves unless one enters.
  pub only_the_hit : (y : Item) → entered same k before after ≡ Some y → same y x ≡ true
  pub by_another : is_some (left same k before after) ≡ true → is_some (entered same k before after) ≡ true

-- ---- shares

-- s is 1000 × figure / n rounded to a whole number: at most a half above it, and less than a half below it.
pub record TrueShare (figure n s : ℕ) : Type 0 where
  pub not_above : 1 ≤ n → 2 * (n * s) ≤ 2 * (1000 * figure) + n
  pub not_below : 1 ≤ n → 2 * (1000 * figure) < 2 * (n * s) + n
  pub of_no_hits : n ≡ 0 → s ≡ 0

-- ---- the theorem on rows

-- All that is promised of the row of m counters after some hits.
pub record KeptPromises {Item : Type 0} (same : Item → Item → Bool) (m : ℕ) (hits : List Item) : Type 0 where
  pub sound : SoundRow same m (length hits) (row_after same m hits)
  pub every_hit : (x : Item) → TrueHit same m x (row_after same m hits) (row_after same m (hits ++ x ∷ []))
  pub brackets : (x : Item) → TrueBracket same m hits x (bracket same m (row_after same m hits) x)
  pub thresholds : (p q : ℕ) → 1 ≤ q → LeastThreshold p q (length hits) (threshold p q (length hits))
  pub frequent_lists : (t : ℕ) → TrueFrequentList same m t hits (row_after same m hits) (frequent t (row_after same m hits))
  pub top_lists : (k : ℕ) → TrueTopList same m k hits (row_after same m hits) (top k m (row_after same m hits))
  pub watched_hits : (k : ℕ) (x : Item) → TrueWatch same k x (row_after same m hits) (row_after same m (hits ++ x ∷ []))
  pub shares : (figure : ℕ) → TrueShare figure (length hits) (share figure (length hits))

-- Of every row, after any hits, for every number of counters.
abbrev pub RowPromises : {Item : Type 0} → (Item → Item → Bool) → Type 0
RowPromises {Item} same = (m : ℕ) → 1 ≤ m → (hits : List Item) → KeptPromises same m hits
