-- Top lists are true.
use Rattle.std.proofs.Common.{◌≡◌, ℕ, zero, suc, ◌+◌, ◌-◌, ◌<◌, ◌≤◌, min, Bool, true, false, leb, List, [], ◌∷◌, length, take, drop, is_some, Some, None, Option, sym, refl, ap, ◌∙◌, subst, inl, inr, arith}
use Rattle.std.specs.List.{AllByRecursion as Each}
use Rattle.std.proofs.lemmas.List.{length-reverse, length-take-le, take_all, length-take, take_min}
use Rattle.std.proofs.ByRecursion.{All-weaker, All-take}
use Rattle.std.proofs.lemmas.Bool.{leb-true, le-leb, both_ways, and_parts, and_from, cond_both, cases_lt, true≢false, false≢true}
use Rattle.rows.specs.declared.entry.Entry.{Entry}
use Rattle.rows.specs.Row.{entry_of, without, hits_of}
use Rattle.rows.specs.Questions.{by_position, first_count, outside, lower, figure_after, smallest, or_else, clear, cut, top, falling, ordered, listed}
use Rattle.rows.specs.Promises.{Pairwise, SmallestFrom, ClearOfRest, lower_of_first, lower_at, TrueTopList}
use Rattle.rows.proofs.Lists.{all_both, all_from_every, every_from_all}
use Rattle.rows.proofs.Put.{all_out}
use Rattle.rows.proofs.Sameness.{Found, found, absent_from_listed}
use Rattle.rows.proofs.Positions.{HighestFirst, positions_fall, first_highest, lower_by_position, lower_from_positions, covered_positions, behind}
use Rattle.rows.proofs.Invariant.{Invariant, Covered}

-- ---- the search for the smallest number that passes

-- What the search from low to high tells.
abbrev pub Searched : (ℕ → Bool) → ℕ → ℕ → Option ℕ → Type 0
Searched test low high (Some j) = SmallestFrom low high (λ i. test i ≡ true) j
Searched test low high None = (i : ℕ) → low ≤ i → i ≤ high → test i ≡ true → ⊥

fails_from : (test : ℕ → Bool) (j i : ℕ) → test j ≡ false → j ≤ i → (suc j ≤ i → test i ≡ true → ⊥) → test i ≡ true → ⊥
fails_from test j i fails l later passes =
    elim (cases_lt j i) [ inl s ↦ later s passes | inr s ↦ let e : i ≡ j = omega arith in both_ways (test j) fails (ap test (sym e) ∙ passes) ]

searched_here : (test : ℕ → Bool) (j high : ℕ) → j ≤ high → test j ≡ true → Searched test j high (Some j)
searched_here test j high l passes = record { at_least = omega arith; at_most = l; holds = passes; first = λ i from below _. absurd (omega arith) }

searched_later : (test : ℕ → Bool) (j high : ℕ) (o : Option ℕ) → test j ≡ false → Searched test (suc j) high o → Searched test j high o
searched_later test j high (Some i) fails s = record {
  at_least = omega (arith, s.at_least);
  at_most = s.at_most;
  holds = s.holds;
  first = λ a from below. fails_from test j a fails from (λ later. s.first a later below);
}
searched_later test j high None fails s = λ a from upto. fails_from test j a fails from (λ later. s a later upto)

searched : (test : ℕ → Bool) (j more high : ℕ) → j + more ≡ high → Searched test j high (smallest test j more)
searched test j zero high e =
    cond_both (test j) (Some j) None (Searched test j high) (searched_here test j high (omega arith))
    (λ fails a from upto. fails_from test j a fails from (λ later. absurd (omega arith)))
searched test j (suc more) high e =
    cond_both (test j) (Some j) (smallest test (suc j) more) (Searched test j high) (searched_here test j high (omega arith))
    (λ fails. searched_later test j high (smallest test (suc j) more) fails (searched test (suc j) more high (omega arith)))

-- ---- the cut

module _ {Item : Type 0} (m : ℕ) (row : List (Entry Item)) where
  positions_length : length (by_position row) ≡ length row
  positions_length = length-reverse row

  clear_means : (j : ℕ) → j ≤ length row → clear m row j ≡ true → ClearOfRest m row j
  clear_means j l t i one upto =
      lower_by_position (figure_after m row j) (by_position row) j (omega (arith, positions_length))
      (All-weaker _ _ (λ e s. leb-true (figure_after m row j) (lower e) s) (take j (by_position row)) (all_from_every (λ e. leb (figure_after m row j) (lower e)) (take j (by_position row)) t))
      (i - 1) (omega arith)

  clear_given : (j : ℕ) → ClearOfRest m row j → clear m row j ≡ true
  clear_given j c =
      every_from_all (λ e. leb (figure_after m row j) (lower e)) (take j (by_position row))
      (All-weaker _ _ (λ e s. le-leb (figure_after m row j) (lower e) s) (take j (by_position row))
      (lower_from_positions (figure_after m row j) (by_position row) j (λ i below.
      let at : suc i - 1 ≡ i = omega arith in
      subst (λ p. figure_after m row j ≤ lower_of_first (drop p (by_position row))) at (c (suc i) (omega arith) (omega arith)))))

  -- The lines of a cut, or all of them where there is none.
  abbrev lines_to : Option ℕ → List (Entry Item)
  lines_to o = take (or_else (length row) o) (by_position row)

  ends_smallest : (low : ℕ) (o : Option ℕ) → Searched (clear m row) low (length row) o → is_some o ≡ true →
      SmallestFrom low (length row) (ClearOfRest m row) (length (lines_to o))
  ends_smallest low (Some j) s passes =
      let upto : j ≤ length (by_position row) = omega (arith, positions_length, s.at_most) in
      subst (SmallestFrom low (length row) (ClearOfRest m row)) (sym (length-take-le j (by_position row) upto)) record {
        at_least = s.at_least;
        at_most = s.at_most;
        holds = clear_means j s.at_most s.holds;
        first = λ i from below c. s.first i from below (clear_given i c);
      }
  ends_smallest low None s passes = absurd (false≢true passes)

  cut_exists : (low : ℕ) (o : Option ℕ) → Searched (clear m row) low (length row) o → (j : ℕ) → low ≤ j → j ≤ length row → ClearOfRest m row j → is_some o ≡ true
  cut_exists low (Some i) s j from upto c = refl
  cut_exists low None s j from upto c = absurd (s j from upto (clear_given j c))

  all_without_cut : (o : Option ℕ) → is_some o ≡ false → lines_to o ≡ by_position row
  all_without_cut (Some j) fails = absurd (true≢false fails)
  all_without_cut None fails = take_all (length row) (by_position row) (omega (arith, positions_length))

  pub cut_searched : (k : ℕ) → Searched (clear m row) (min k (length row)) (length row) (cut k m row)
  cut_searched k = searched (clear m row) (min k (length row)) (length row - min k (length row)) (length row) (omega arith)

-- ---- guaranteed lists

module _ {Item : Type 0} {same : Item → Item → Bool} {m n : ℕ} {h : Item → ℕ} {row : List (Entry Item)} (k : Invariant same m h n row) where
  -- A clear front: an item that is listed has at least the figure after the last line as hits.
  listed_reaches : (j : ℕ) (x : Item) → clear m row j ≡ true → (o : Option (Entry Item)) (rest : List (Entry Item)) →
      Found same x o rest (take j (by_position row)) → is_some o ≡ true → figure_after m row j ≤ h x
  listed_reaches j x t (Some e) rest f passes =
      let eq : h e.item ≡ h x = k.alike e.item x f.0 in
      let c = all_out (Covered h) f.1 (All-take _ j (by_position row) (covered_positions k)) in
      let s = all_out (λ e. leb (figure_after m row j) (lower e) ≡ true) f.1 (all_from_every (λ e. leb (figure_after m row j) (lower e)) (take j (by_position row)) t) in
      omega (arith, leb-true (figure_after m row j) (lower e) s.0)
  listed_reaches j x t None rest f passes = absurd (false≢true passes)

  best_to : (low high : ℕ) (o : Option ℕ) → Searched (clear m row) low high o → is_some o ≡ true →
      (x y : Item) → listed same x (lines_to m row o) ≡ true → listed same y (lines_to m row o) ≡ false → h y ≤ h x
  best_to low high (Some j) s passes x y inside out =
      let above : figure_after m row j ≤ h x = listed_reaches j x s.holds (entry_of same x (take j (by_position row))) (without same x (take j (by_position row))) (found same x (take j (by_position row))) inside in
      let below : h y ≤ figure_after m row j = behind k j y (absent_from_listed same y (take j (by_position row)) out) in
      omega arith
  best_to low high None s passes x y inside out = absurd (false≢true passes)

-- ---- ordered lists

module _ {Item : Type 0} where
  falling_at : (out k : ℕ) (es : List (Entry Item)) → falling out k es ≡ true → (i : ℕ) → i < k → i < length es →
      first_count out (drop (suc i) es) ≤ lower_of_first (drop i es)
  falling_at out zero es t i below inside = absurd (omega arith)
  falling_at out (suc k) [] t i below inside = absurd (omega arith)
  falling_at out (suc k) (e ∷ es) t zero below inside = leb-true (first_count out es) (lower e) (and_parts (leb (first_count out es) (lower e)) (falling out k es) t).0
  falling_at out (suc k) (e ∷ es) t (suc i) below inside = falling_at out k es (and_parts (leb (first_count out es) (lower e)) (falling out k es) t).1 i (omega arith) (omega arith)

  falling_from : (out k : ℕ) (es : List (Entry Item)) →
      ((i : ℕ) → i < k → i < length es → first_count out (drop (suc i) es) ≤ lower_of_first (drop i es)) → falling out k es ≡ true
  falling_from out zero es h = refl
  falling_from out (suc k) [] h = refl
  falling_from out (suc k) (e ∷ es) h =
      and_from (leb (first_count out es) (lower e)) (falling out k es) (le-leb (first_count out es) (lower e) (h 0 (omega arith) (omega arith)))
      (falling_from out k es (λ i below inside. h (suc i) (omega arith) (omega arith)))

  ordered_means : (k m : ℕ) (row : List (Entry Item)) → ordered k m row ≡ true → (i : ℕ) → 1 ≤ i → i ≤ min k (length row) → figure_after m row i ≤ lower_at row i
  ordered_means k m row t i one upto =
      let at : suc (i - 1) ≡ i = omega arith in
      subst (λ p. first_count (outside m row) (drop p (by_position row)) ≤ lower_at row i) at
      (falling_at (outside m row) k (by_position row) t (i - 1) (omega arith) (omega (arith, positions_length m row)))

  ordered_given : (k m : ℕ) (row : List (Entry Item)) → ((i : ℕ) → 1 ≤ i → i ≤ min k (length row) → figure_after m row i ≤ lower_at row i) → ordered k m row ≡ true
  ordered_given k m row h =
      falling_from (outside m row) k (by_position row) (λ i below inside.
      let at : suc i - 1 ≡ i = omega arith in
      subst (λ p. figure_after m row (suc i) ≤ lower_of_first (drop p (by_position row))) at (h (suc i) (omega arith) (omega (arith, positions_length m row))))

  never_rising : (h : Item → ℕ) (out k j : ℕ) (es : List (Entry Item)) → falling out k es ≡ true → HighestFirst es → Each (Covered h) es →
      Pairwise (λ a b. h b.item ≤ h a.item) (take k (take j es))
  never_rising h out zero j es t f c = tt
  never_rising h out (suc k) zero es t f c = tt
  never_rising h out (suc k) (suc j) [] t f c = tt
  never_rising h out (suc k) (suc j) (e ∷ es) t f c =
      let both = and_parts (leb (first_count out es) (lower e)) (falling out k es) t in
      let gap : first_count out es ≤ lower e = leb-true (first_count out es) (lower e) both.0 in
      let own = c.0 in (
        All-take _ k (take j es) (All-take _ j es
            (all_both (λ f. f.count ≤ first_count out es) (Covered h) (λ f. h f.item ≤ h e.item) (λ f a b. omega arith) es (first_highest out es f.1) c.1)),
        never_rising h out k j es both.1 f.1 c.1,
      )

pub true_top_list : {Item : Type 0} {same : Item → Item → Bool} {m : ℕ} {hits : List Item} {row : List (Entry Item)} →
    Invariant same m (hits_of same hits) (length hits) row → (k : ℕ) →
    TrueTopList same m k hits row (top k m row)
true_top_list {same} {m} {hits} {row} inv k = record {
  first_positions =
      let front : ℕ = or_else (length row) (cut k m row) in
      sym (ap (λ n. take n (by_position row)) (length-take front (by_position row)) ∙ take_min front (by_position row));
  guaranteed_means = ends_smallest m row (min k (length row)) (cut k m row) (cut_searched m row k);
  guaranteed_given = cut_exists m row (min k (length row)) (cut k m row) (cut_searched m row k);
  otherwise_all = all_without_cut m row (cut k m row);
  best = best_to inv (min k (length row)) (length row) (cut k m row) (cut_searched m row k);
  ordered_exactly = record { means = ordered_means k m row; given = ordered_given k m row };
  never_rising = λ t. never_rising (hits_of same hits) (outside m row) k (or_else (length row) (cut k m row)) (by_position row) t (positions_fall row inv.sorted) (covered_positions inv);
}
