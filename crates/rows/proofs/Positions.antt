-- A row by position: highest count first, and the figures that stand after a position.
use Rattle.std.proofs.Common.{◌≡◌, ℕ, zero, suc, ◌<◌, ◌≤◌, Bool, false, List, [], ◌∷◌, length, take, drop, Some, None, Option, subst, arith}
use Rattle.std.specs.List.{AllByRecursion as Each}
use Rattle.std.proofs.lemmas.List.{take-append-drop}
use Rattle.std.proofs.ByRecursion.{All-drop, All-append}
use Rattle.items.proofs.Turned.{all_reverse}
use Rattle.rows.specs.declared.entry.Entry.{Entry}
use Rattle.rows.specs.Row.{entry_of, without}
use Rattle.rows.specs.Questions.{by_position, first_count, outside, lower, figure_after}
use Rattle.rows.specs.Promises.{Pairwise, Sorted, lower_of_first}
use Rattle.rows.proofs.Lists.{all_from_reverse, pairwise_reverse, pairwise_drop}
use Rattle.rows.proofs.Put.{all_out}
use Rattle.rows.proofs.Sameness.{Absent, Found, found}
use Rattle.rows.proofs.Outside.{outside_lowest}
use Rattle.rows.proofs.Invariant.{Invariant, Covered}

-- Counts do not rise from one position to a later one.
abbrev pub HighestFirst : {Item : Type 0} → List (Entry Item) → Type 0
HighestFirst es = Pairwise (λ a b. b.count ≤ a.count) es

module _ {Item : Type 0} where
  pub positions_fall : (row : List (Entry Item)) → Sorted row → HighestFirst (by_position row)
  positions_fall row s = pairwise_reverse (λ a b. a.count ≤ b.count) row s

  pub first_highest : (out : ℕ) (es : List (Entry Item)) → HighestFirst es → Each (λ e. e.count ≤ first_count out es) es
  first_highest out [] f = tt
  first_highest out (e ∷ es) f = (omega arith, f.0)

  first_at_least : (out : ℕ) (es : List (Entry Item)) → Each (λ e. out ≤ e.count) es → out ≤ first_count out es
  first_at_least out [] a = omega arith
  first_at_least out (e ∷ es) a = a.0

  -- All of the first j lower figures reach a figure, said of the entries and said by position.
  pub lower_by_position : (figure : ℕ) (es : List (Entry Item)) (j : ℕ) → j ≤ length es → Each (λ e. figure ≤ lower e) (take j es) → (i : ℕ) → i < j →
      figure ≤ lower_of_first (drop i es)
  lower_by_position figure es zero l a i below = absurd (omega arith)
  lower_by_position figure [] (suc j) l a i below = absurd (omega arith)
  lower_by_position figure (e ∷ es) (suc j) l a zero below = a.0
  lower_by_position figure (e ∷ es) (suc j) l a (suc i) below = lower_by_position figure es j (omega arith) a.1 i (omega arith)

  pub lower_from_positions : (figure : ℕ) (es : List (Entry Item)) (j : ℕ) → ((i : ℕ) → i < j → figure ≤ lower_of_first (drop i es)) →
      Each (λ e. figure ≤ lower e) (take j es)
  lower_from_positions figure es zero h = tt
  lower_from_positions figure [] (suc j) h = tt
  lower_from_positions figure (e ∷ es) (suc j) h = (h 0 (omega arith), lower_from_positions figure es j (λ i below. h (suc i) (omega arith)))

module _ {Item : Type 0} {same : Item → Item → Bool} {m n : ℕ} {h : Item → ℕ} {row : List (Entry Item)} (k : Invariant same m h n row) where
  pub covered_positions : Each (Covered h) (by_position row)
  covered_positions = all_reverse (Covered h) row k.covers

  outside_below_next : (j : ℕ) → outside m row ≤ figure_after m row j
  outside_below_next j =
      first_at_least (outside m row) (drop j (by_position row)) (All-drop _ j (by_position row) (all_reverse (λ e. outside m row ≤ e.count) row (outside_lowest m row k.sorted)))

  behind_found : (j : ℕ) (y : Item) → Absent same y (take j (by_position row)) → (o : Option (Entry Item)) (rest : List (Entry Item)) →
      Found same y o rest (drop j (by_position row)) → h y ≤ figure_after m row j
  behind_found j y away (Some e) rest f =
      let eq : h e.item ≡ h y = k.alike e.item y f.0 in
      let c = all_out (Covered h) f.1 (All-drop _ j (by_position row) covered_positions) in
      let b = all_out (λ e. e.count ≤ figure_after m row j) f.1
      (first_highest (outside m row) (drop j (by_position row)) (pairwise_drop _ j (by_position row) (positions_fall row k.sorted))) in
      omega arith
  behind_found j y away None rest f =
      let everywhere : Absent same y row =
      all_from_reverse (λ e. same e.item y ≡ false) row
      (subst (Absent same y) (take-append-drop j (by_position row)) (All-append (λ e. same e.item y ≡ false) (take j (by_position row)) (drop j (by_position row)) away f)) in
      omega (arith, k.left_out y everywhere, outside_below_next j)

  -- An item that is not among the first j positions has at most the figure after position j as hits.
  pub behind : (j : ℕ) (y : Item) → Absent same y (take j (by_position row)) → h y ≤ figure_after m row j
  behind j y away = behind_found j y away (entry_of same y (drop j (by_position row))) (without same y (drop j (by_position row))) (found same y (drop j (by_position row)))
