-- What every answer says of the accepted hits before it, in words.
use Rattle.std.specs.Prelude.{◌≡◌, ℕ, ◌-◌, ◌*◌, ◌<◌, ◌≤◌, min, Bool, true, false, ◌||◌, List, [], ◌∷◌, ◌++◌, map, length, take, drop, is_some, is_ok, IfOk, IfErr, Some, None, Ok, Err, Option, Result}
use Rattle.std.specs.List.{AllByRecursion as Each}
use Rattle.rows.specs.declared.entry.Entry.{Entry}
use Rattle.rows.specs.Row.{entry, row_after, hits_of}
use Rattle.rows.specs.Questions.{by_position, outside, figure_after, bracket, threshold, frequent, top, watched}
use Rattle.rows.specs.Promises.{Exactly, Pairwise, SmallestFrom, lower_at, ClearOfRest, TrueBracket, LeastThreshold, TellsNew}
use Rattle.calls.specs.declared.refusal.Refusal.{Refusal}
use Rattle.calls.specs.declared.refusal.Refusal.TheVariants.{Size, Capacity, Occupied, Limit, Rank, Support, Lines, Foreign}
use Rattle.calls.specs.declared.answers.Line.{Line}
use Rattle.calls.specs.declared.answers.FrequentList.{FrequentList}
use Rattle.calls.specs.declared.answers.TopList.{TopList}
use Rattle.calls.specs.Refusals.{limit, rank, Unless}
use Rattle.calls.specs.Calls.{FrequentEnds, TopEnds}
use Rattle.calls.specs.Conditions.{Sized, Openable, Supported, Ranked}

-- ---- lines

module _ {T : Type 0} where
  -- What lines say of the row, without their marks.
  abbrev pub entries_of : List (Line T) → List (Entry T)
  entries_of lines = map (λ l. entry l.item l.count l.error) lines

  -- The first n lines were written, and those behind are as they were.
  pub record WrittenFirst (n : ℕ) (before after : List (Line T)) : Type 0 where
    pub room : n ≤ length before
    pub length_kept : length after ≡ length before
    pub behind : drop n after ≡ drop n before

-- An item is in a list if a line holds one the same as it.
abbrev pub in_lines : {T : Type 0} → (T → T → Bool) → T → List (Line T) → Bool
in_lines same x [] = false
in_lines same x (l ∷ lines) = same l.item x || in_lines same x lines

module _ {T : Type 0} (same : T → T → Bool) (m : ℕ) (hits : List T) where
  -- ---- what is answered, of m counters after these hits

  -- Which item entered and which left the first k positions, by a hit with x; each perhaps none.
  pub record TrueWatching (k : ℕ) (x : T) (answer : Option T × Option T) : Type 0 where
    pub entering : TellsNew same (take k (by_position (row_after same m (hits ++ x ∷ [])))) (take k (by_position (row_after same m hits))) answer.0
    pub leaving : TellsNew same (take k (by_position (row_after same m hits))) (take k (by_position (row_after same m (hits ++ x ∷ [])))) answer.1
    -- Only the item that was hit can enter, and none leaves unless one enters.
    pub only_the_hit : (y : T) → answer.0 ≡ Some y → same y x ≡ true
    pub by_another : is_some answer.1 ≡ true → is_some answer.0 ≡ true

  -- The frequent list of the support p/q, by its lines.
  pub record TrueFrequentLines (p q : ℕ) (a : FrequentList) (list : List (Line T)) : Type 0 where
    pub number : length list ≡ a.lines
    pub share : LeastThreshold p q (length hits) a.threshold
    -- The lines are the first positions, as many as have a count of at least the threshold.
    pub first_positions : entries_of list ≡ take a.lines (by_position (row_after same m hits))
    pub reaching : Each (λ l. a.threshold ≤ l.count) list
    pub no_more : Each (λ e. e.count < a.threshold) (drop a.lines (by_position (row_after same m hits)))
    -- A line is sure exactly if its lower figure is at least the threshold; its item then has at least so many hits.
    pub sure_exactly : Each (λ l. Exactly l.sure (a.threshold ≤ l.count - l.error)) list
    pub sure_lines : Each (λ l. l.sure ≡ true → a.threshold ≤ hits_of same hits l.item) list
    -- The list is complete exactly if the outside figure is below the threshold; it then omits no item with so many hits.
    pub complete_exactly : Exactly a.complete (outside m (row_after same m hits) < a.threshold)
    pub omits_none : a.complete ≡ true → (x : T) → a.threshold ≤ hits_of same hits x → in_lines same x list ≡ true
    pub complete_when : length hits < a.threshold * m → a.complete ≡ true

  -- The top list of k, by its lines.
  pub record TrueTopLines (k : ℕ) (a : TopList) (list : List (Line T)) : Type 0 where
    pub number : length list ≡ a.lines
    pub first_positions : entries_of list ≡ take a.lines (by_position (row_after same m hits))
    pub never_sure : Each (λ l. l.sure ≡ false) list
    -- The list is guaranteed exactly if some number from min(k, u) to u is clear of the rest, of a row of u entries.
    -- It then has as many lines as the smallest such number; otherwise it has u.
    pub guaranteed_means : a.guaranteed ≡ true → SmallestFrom (min k (length (row_after same m hits))) (length (row_after same m hits)) (ClearOfRest m (row_after same m hits)) a.lines
    pub guaranteed_given : (j : ℕ) → min k (length (row_after same m hits)) ≤ j → j ≤ length (row_after same m hits) → ClearOfRest m (row_after same m hits) j → a.guaranteed ≡ true
    pub otherwise_all : a.guaranteed ≡ false → a.lines ≡ length (row_after same m hits)
    -- Guaranteed: every listed item has at least as many hits as every item that is not listed.
    pub best : a.guaranteed ≡ true → (x y : T) → in_lines same x list ≡ true → in_lines same y list ≡ false → hits_of same hits y ≤ hits_of same hits x
    -- The list is ordered exactly if at each position from 1 to min(k, u) the lower figure is at least the figure after it.
    pub ordered_exactly : Exactly a.ordered ((i : ℕ) → 1 ≤ i → i ≤ min k (length (row_after same m hits)) → figure_after m (row_after same m hits) i ≤ lower_at (row_after same m hits) i)
    -- Ordered: along the first k lines hits never rise.
    pub never_rising : a.ordered ≡ true → Pairwise (λ l n. hits_of same hits n.item ≤ hits_of same hits l.item) (take k list)

  -- ---- call by call: how it ends by definition, when it is accepted, which refusal it is otherwise, and that what it
  -- answers is true

  pub record HitTruth (r : Result (Unit {0}) Refusal) : Type 0 where
    pub defined : Unless (limit (length hits) None) r (Unit {0}) (r ≡ Ok tt)
    pub accepted : Exactly (is_ok r) (length hits < 4294967295)
    pub at_limit : 4294967295 ≤ length hits → r ≡ Err Limit
    pub never_foreign : r ≡ Err Foreign → ⊥

  pub record WatchedTruth (k : ℕ) (x : T) (r : Result (Option T × Option T) Refusal) : Type 0 where
    pub defined : Unless (rank m k (limit (length hits) None)) r (Unit {0}) (r ≡ Ok (watched same k (row_after same m hits) (row_after same m (hits ++ x ∷ []))))
    pub accepted : Exactly (is_ok r) (Ranked m k × (length hits < 4294967295))
    pub off_rank : (Ranked m k → ⊥) → r ≡ Err Rank
    pub at_limit : Ranked m k → 4294967295 ≤ length hits → r ≡ Err Limit
    pub never_foreign : r ≡ Err Foreign → ⊥
    pub watching : IfOk r (λ a. TrueWatching k x a)

  -- A bracket is never refused.
  pub record BracketTruth (x : T) (r : Result (ℕ × ℕ) Refusal) : Type 0 where
    pub defined : r ≡ Ok (bracket same m (row_after same m hits) x)
    pub never_foreign : r ≡ Err Foreign → ⊥
    pub figures : IfOk r (λ a. TrueBracket same m hits x a)

  pub record FrequentTruth (p q : ℕ) (lines : List (Line T)) (r : Result FrequentList Refusal) (lines' : List (Line T)) : Type 0 where
    pub defined : FrequentEnds m (length hits) (row_after same m hits) p q lines r lines'
    pub accepted : Exactly (is_ok r) (Supported p q × (length (frequent (threshold p q (length hits)) (row_after same m hits)) ≤ length lines))
    pub off_support : (Supported p q → ⊥) → r ≡ Err Support
    pub too_long : Supported p q → length lines < length (frequent (threshold p q (length hits)) (row_after same m hits)) → r ≡ Err Lines
    pub never_foreign : r ≡ Err Foreign → ⊥
    pub unwritten : IfErr r (λ _. lines' ≡ lines)
    pub place : IfOk r (λ a. WrittenFirst a.lines lines lines')
    pub list : IfOk r (λ a. TrueFrequentLines p q a (take a.lines lines'))

  pub record TopTruth (k : ℕ) (lines : List (Line T)) (r : Result TopList Refusal) (lines' : List (Line T)) : Type 0 where
    pub defined : TopEnds m (row_after same m hits) k lines r lines'
    pub accepted : Exactly (is_ok r) (Ranked m k × (length (top k m (row_after same m hits)) ≤ length lines))
    pub off_rank : (Ranked m k → ⊥) → r ≡ Err Rank
    pub too_long : Ranked m k → length lines < length (top k m (row_after same m hits)) → r ≡ Err Lines
    pub never_foreign : r ≡ Err Foreign → ⊥
    pub unwritten : IfErr r (λ _. lines' ≡ lines)
    pub place : IfOk r (λ a. WrittenFirst a.lines lines lines')
    pub list : IfOk r (λ a. TrueTopLines k a (take a.lines lines'))

-- The check before an opening over m places, with room for so many items in a finder that holds some.
pub record OpenTruth (m room held : ℕ) (r : Result (Unit {0}) Refusal) : Type 0 where
  pub accepted : Exactly (is_ok r) (Openable m room held)
  pub off_size : (Sized m → ⊥) → r ≡ Err Size
  pub off_capacity : Sized m → room < m → r ≡ Err Capacity
  pub occupied : Sized m → m ≤ room → 0 < held → r ≡ Err Occupied
