-- The outside figure: the greatest that every count of a full row reaches, and at most an m-th of all hits.
use Rattle.std.proofs.Common.{◌≡◌, ℕ, ◌*◌, ◌<◌, ◌≤◌, ltb, List, [], ◌∷◌, length, sym, ◌∙◌, arith}
use Rattle.std.specs.List.{AllByRecursion as Each}
use Rattle.std.proofs.ByRecursion.{All-weaker}
use Rattle.std.proofs.lemmas.Bool.{cond_both, cond-true, cond-false, lt-ltb, le-ltb, ltb-true, ltb-false}
use Rattle.rows.specs.declared.entry.Entry.{Entry}
use Rattle.rows.specs.Row.{insert}
use Rattle.rows.specs.Questions.{first_count, outside}
use Rattle.rows.specs.Promises.{Sorted, sum_of_counts}
use Rattle.rows.proofs.Put.{Put, put_length, all_out, all_in, put_insert}

module _ {Item : Type 0} where
  pub outside_with_room : (m : ℕ) (row : List (Entry Item)) → length row < m → outside m row ≡ 0
  outside_with_room m row h = cond-true (ltb (length row) m) _ _ (lt-ltb (length row) m h)

  pub outside_full : (m : ℕ) (row : List (Entry Item)) → m ≤ length row → outside m row ≡ first_count 0 row
  outside_full m row h = cond-false (ltb (length row) m) _ _ (le-ltb (length row) m h)

  first_reaches : (c : ℕ) (row : List (Entry Item)) → 1 ≤ length row → Each (λ e. c ≤ e.count) row → c ≤ first_count 0 row
  first_reaches c [] h a = omega arith
  first_reaches c (e ∷ row) h a = a.0

  first_lowest : (row : List (Entry Item)) → Sorted row → Each (λ e. first_count 0 row ≤ e.count) row
  first_lowest [] s = tt
  first_lowest (e ∷ row) s = (omega arith, s.0)

  -- No count is below it,
  pub outside_lowest : (m : ℕ) (row : List (Entry Item)) → Sorted row → Each (λ e. outside m row ≤ e.count) row
  outside_lowest m row s =
      cond_both (ltb (length row) m) 0 (first_count 0 row) (λ o. Each (λ e. o ≤ e.count) row)
      (λ _. All-weaker (λ e. first_count 0 row ≤ e.count) (λ e. 0 ≤ e.count) (λ e _. omega arith) row (first_lowest row s))
      (λ _. first_lowest row s)

  -- and no figure above it has that, unless there is room.
  pub outside_greatest : (m c : ℕ) (row : List (Entry Item)) → 1 ≤ m → (length row < m → c ≡ 0) → Each (λ e. c ≤ e.count) row → c ≤ outside m row
  outside_greatest m c row pos free a =
      cond_both (ltb (length row) m) 0 (first_count 0 row) (λ o. c ≤ o)
      (λ t. omega (arith, free (ltb-true (length row) m t)))
      (λ t.
      let full : m ≤ length row = ltb-false (length row) m t in
      first_reaches c row (omega arith) a)

  -- The outside figure does not fall where an entry gives way to one that is no lower.
  pub outside_rises : (m : ℕ) → 1 ≤ m → (row rest : List (Entry Item)) (old new : Entry Item) → Sorted row → Put old rest row →
      old.count ≤ new.count → outside m row ≤ outside m (insert new rest)
  outside_rises m pos row rest old new s p l =
      let i : Put new rest (insert new rest) = put_insert new rest in
      let len : length (insert new rest) ≡ length row = put_length i ∙ sym (put_length p) in
      let low = all_out (λ e. outside m row ≤ e.count) p (outside_lowest m row s) in
      outside_greatest m (outside m row) (insert new rest) pos (λ free. outside_with_room m row (omega arith))
      (all_in (λ e. outside m row ≤ e.count) i (omega arith) low.1)

  sum_at_least : (c : ℕ) (row : List (Entry Item)) → Each (λ e. c ≤ e.count) row → c * length row ≤ sum_of_counts row
  sum_at_least c [] a = omega arith
  sum_at_least c (e ∷ row) a =
      let ih : c * length row ≤ sum_of_counts row = sum_at_least c row a.1 in
      let h : c ≤ e.count = a.0 in
      omega arith

  pub outside_share : (m : ℕ) (row : List (Entry Item)) → length row ≤ m → Sorted row → outside m row * m ≤ sum_of_counts row
  outside_share m row room s =
      cond_both (ltb (length row) m) 0 (first_count 0 row) (λ o. o * m ≤ sum_of_counts row)
      (λ t. omega arith)
      (λ t.
      let full : m ≡ length row = omega (arith, ltb-false (length row) m t) in
      rw full (sum_at_least (first_count 0 row) row (first_lowest row s)))
