-- The search for the cut of a top list, along the row by position with the least lower figure so far.
use Rattle.std.proofs.Common.{◌≡◌, ℕ, ◌+◌, ◌<◌, ◌≤◌, min, Bool, true, false, ◌&&◌, leb, List, length, take, Some, None, Option, sym, refl, ap, ◌∙◌, inl, inr, arith, subst}
use Rattle.std.specs.Bool.{then_some}
use Rattle.std.proofs.lemmas.List.{length-reverse, drop_all}
use Rattle.std.proofs.lemmas.Bool.{cases_eq, cases_lt, cases_Bool, and_from, and_left, and_right, le-leb, lt-leb, cases_order, both_ways}
use Rattle.rows.specs.declared.entry.Entry.{Entry}
use Rattle.rows.specs.Questions.{by_position, first_count, outside, lower, figure_after, every, or_else, clear, cut, top}
use Rattle.std.specs.Option.{unwrap_or}
use Rattle.std.proofs.lemmas.List.Recursion.{and_push}
use Rattle.rows.proofs.Top.{Searched as SmallestTold, cut_searched}
use Rattle.calls.specs.Lists.{line, top_lines}
use Rattle.counters.specs.declared.counters.Counters.{Counters}
use Rattle.counters.specs.Meaning.{size, placed}
use Rattle.lists.specs.Row.{row_of}
use Rattle.lists.proofs.Places.{length_entries}
use Rattle.lists.proofs.Listing.{number_of}
use Rattle.lists.proofs.Fronts.{Next}

-- ---- the first number that passes

module _ (test : ℕ → Bool) (low high : ℕ) where
  smallest_some : (o : Option ℕ) → SmallestTold test low high o → (n : ℕ) → low ≤ n → n ≤ high → ((i : ℕ) → low ≤ i → i < n → test i ≡ false) → test n ≡ true → o ≡ Some n
  smallest_some (Some i) s n from upto none passes = elim (cases_order i n) [
    | inl same ↦ ap Some same
    | inr (inl less) ↦ absurd (both_ways (test i) (none i s.at_least less) s.holds)
    | inr (inr more) ↦ absurd (s.first n from more passes)
  ]
  smallest_some None s n from upto none passes = absurd (s n from upto passes)

  smallest_none : (o : Option ℕ) → SmallestTold test low high o → ((i : ℕ) → low ≤ i → i ≤ high → test i ≡ false) → o ≡ None
  smallest_none (Some i) s none = absurd (both_ways (test i) (none i s.at_least s.at_most) s.holds)
  smallest_none None s none = refl

-- ---- the least lower figure

leb_min : (f a b : ℕ) → leb f (min a b) ≡ leb f a && leb f b
leb_min f a b =
    elim (cases_lt (min a b) f) [
      | inl below ↦ lt-leb f (min a b) below ∙ elim (cases_lt a f) [
        | inl l ↦ sym (and_left (leb f a) (leb f b) (lt-leb f a l))
        | inr l ↦ sym (and_right (leb f a) (leb f b) (lt-leb f b (omega arith)))
      ]
      | inr above ↦ le-leb f (min a b) above ∙ sym (and_from (leb f a) (leb f b) (le-leb f a (omega arith)) (le-leb f b (omega arith)))
    ]

module _ {T : Type 0} (m k most : ℕ) (row : List (Entry T)) where
  abbrev positions : List (Entry T)
  positions = by_position row

  -- n positions are passed: `least` is their least lower figure, as far as figures up to `most` can tell, and no cut was met.
  pub record Searched (n least : ℕ) : Type 0 where
    pub within : n ≤ length (by_position row)
    pub bound : (f : ℕ) → f ≤ most → leb f least ≡ every (λ e. leb f (lower e)) (take n (by_position row))
    pub uncut : (j : ℕ) → min k (length row) ≤ j → j < n → clear m row j ≡ false

  pub searched_none : (n least : ℕ) → n ≡ 0 → least ≡ most → Searched n least
  searched_none n least none is = rw none (record { within = omega arith; bound = λ f l. le-leb f least (omega arith); uncut = λ j from below. absurd (omega arith) })

  figure_next : (n : ℕ) (e : Entry T) → Next positions n e → figure_after m row n ≡ e.count
  figure_next n e at = ap (first_count (outside m row)) at.rest

  clear_next : (n least : ℕ) (e : Entry T) → Next positions n e → e.count ≤ most → Searched n least → clear m row n ≡ leb e.count least
  clear_next n least e at small h = rw (figure_next n e at) (sym (h.bound e.count small))

  pub searched_more : (n n' least least' : ℕ) (e : Entry T) → Next positions n e → e.count ≤ most → (k ≤ n → e.count ≤ least → ⊥) → n' ≡ n + 1 → least' ≡ min least (lower e) → Searched n least → Searched n' least'
  searched_more n n' least least' e at small fails one is h =
      let long : length positions ≡ length row = length-reverse row in
      record {
        within = omega (arith, at.below);
        bound = λ f l.
            ap (leb f) is ∙ leb_min f least (lower e) ∙ ap (λ (b : Bool). b && leb f (lower e)) (h.bound f l)
            ∙ sym (and_push (every (λ e. leb f (lower e))) (λ e. leb f (lower e)) refl (λ _ _. refl) (take n positions) e) ∙ ap (every (λ e. leb f (lower e))) (sym (ap (λ (i : ℕ). take i positions) one ∙ at.front));
        uncut = λ j from below.
            elim (cases_eq j n) [
              | inl same ↦
                  let reached : k ≤ n = omega (arith, at.below) in
                  let unclear : leb e.count least ≡ false = elim (cases_lt least e.count) [
                    | inl above ↦ lt-leb e.count least above
                    | inr figure ↦ absurd (fails reached figure)
                  ] in
                  ap (clear m row) same ∙ clear_next n least e at small h ∙ unclear
              | inr other ↦ h.uncut j from (omega arith)
            ];
      }

  pub cut_found : (n least : ℕ) (e : Entry T) → Next positions n e → e.count ≤ most → k ≤ n → e.count ≤ least → Searched n least → Some n ≡ cut k m row
  cut_found n least e at small reached figure h =
      let long : length positions ≡ length row = length-reverse row in
      sym (smallest_some (clear m row) (min k (length row)) (length row) (cut k m row) (cut_searched m row k) n (omega arith) (omega (arith, at.below)) h.uncut (clear_next n least e at small h ∙ le-leb e.count least figure))

  clear_end : (n least : ℕ) → length positions ≤ n → outside m row ≤ most → Searched n least → clear m row n ≡ leb (outside m row) least
  clear_end n least past small h = rw (ap (first_count (outside m row)) (drop_all n positions past)) (sym (h.bound (outside m row) small))

  pub cut_at_end : (n least all out : ℕ) → length positions ≤ n → all ≡ length row → outside m row ≤ most → out ≡ outside m row → Searched n least → then_some (leb out least) all ≡ cut k m row
  cut_at_end n least all out past full small is h =
      let long : length positions ≡ length row = length-reverse row in
      let within = h.within in
      let at_end : n ≡ all = omega arith in
      let clear_is : clear m row n ≡ leb out least = clear_end n least past small h ∙ ap (λ (f : ℕ). leb f least) (sym is) in
      elim (cases_Bool (leb out least)) [
        | inl passes ↦
            ap (λ (b : Bool). then_some b all) passes ∙ ap Some (sym at_end)
            ∙ sym (smallest_some (clear m row) (min k (length row)) (length row) (cut k m row) (cut_searched m row k) n (omega arith) (omega arith) h.uncut (clear_is ∙ passes))
        | inr fails ↦
            ap (λ (b : Bool). then_some b all) fails
            ∙ sym (smallest_none (clear m row) (min k (length row)) (length row) (cut k m row) (cut_searched m row k) (λ i from upto.
            elim (cases_eq i n) [
              | inl same ↦ ap (clear m row) same ∙ clear_is ∙ fails
              | inr other ↦ h.uncut i from (omega arith)
            ]))
      ]

-- ---- the list up to the cut

module _ {T : Type 0} (m k : ℕ) (row : List (Entry T)) where
  pub cut_within : (n : ℕ) → Some n ≡ cut k m row → n ≤ length (by_position row)
  cut_within n e =
      let s = subst (SmallestTold (clear m row) (min k (length row)) (length row)) (sym e) (cut_searched m row k) in
      omega (arith, s.at_most, length-reverse row)

  pub list_to_cut : (n : ℕ) → Some n ≡ cut k m row → top k m row ≡ take n (by_position row)
  list_to_cut n e = ap (λ (o : Option ℕ). take (or_else (length row) o) (by_position row)) (sym e)

  pub list_to_end : (n : ℕ) → n ≡ length row → None ≡ cut k m row → top k m row ≡ take n (by_position row)
  list_to_end n all e = ap (λ (o : Option ℕ). take (or_else (length row) o) (by_position row)) (sym e) ∙ ap (λ (i : ℕ). take i (by_position row)) (sym all)

-- How many lines there are: up to the cut, or all.
pub listed_lines : {T : Type 0} (k : ℕ) (s : Counters T) (o : Option ℕ) → o ≡ cut k (size s) (row_of s) → unwrap_or o (length (placed s)) ≡ length (top_lines k (size s) (row_of s))
listed_lines k s (Some n) is = number_of (line false) (top k (size s) (row_of s)) (by_position (row_of s)) n (cut_within (size s) k (row_of s) n is) (list_to_cut (size s) k (row_of s) n is)
listed_lines k s None is =
    let full : length (placed s) ≡ length (row_of s) = sym (length_entries (placed s)) in
    number_of (line false) (top k (size s) (row_of s)) (by_position (row_of s)) (length (placed s)) (omega (arith, length-reverse (row_of s))) (list_to_end (size s) k (row_of s) (length (placed s)) full is)
