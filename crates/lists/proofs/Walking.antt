-- One step of a walk: what it has ahead of it is its entry and what the next place has ahead.
use Rattle.std.proofs.Common.{◌≡◌, ℕ, eqb, ◌-◌, ◌≤◌, List, [], ◌∷◌, ◌++◌, reverse, length, Some, None, Option, sym, refl, ap, ◌∙◌, subst, inl, inr, ◌⊎◌, MatchOption, append_assoc, append-nil, arith}
use mathlib.Core.Logic.{∥∥₁_elim}
use Rattle.std.specs.List.{AllByRecursion as Each}
use Rattle.std.specs.Iterator.{YieldsFirst, MakesProgress, item_count}
use Rattle.std.proofs.lemmas.List.{length-map, map-append, reverse-append}
use Rattle.std.proofs.lemmas.Bool.{cond-true, cond-false, eqb-true, eq-eqb, eqb-false, cases_Bool}
use mathlib.Core.HLevel.{Unit-prop, ×_prop}
use Rattle.std.proofs.Props.{props}
use mathlib.Mathlib.Data.List.Basic.{map-reverse_aux}
use Rattle.items.proofs.Turned.{all_reverse}
use Rattle.rows.specs.declared.entry.Entry.{Entry}
use Rattle.rows.specs.Questions.{by_position}
use Rattle.links.specs.Chains.{Off, Apart, last_or}
use Rattle.links.proofs.Chains.{last_or_append}
use Rattle.links.proofs.Places.{off_left, off_right, apart_off}
use Rattle.table.specs.Placed.{Placed, places, entries, nth, before, place_at, place_below, at_place, placed_entry}
use Rattle.table.proofs.Positions.{before_mid, before_off, nth_last}
use Rattle.table.proofs.Rows.{at_mid, at_none}
use Rattle.table.proofs.Looking.{places_are, places_apart}
use Rattle.counters.specs.declared.counters.Counters.{Counters}
use Rattle.counters.specs.Meaning.{placed}
use Rattle.lists.specs.Walks.{from_place, onwards}
use Rattle.lists.proofs.Sorting.{short}

-- ---- places that come once

apart_prop : (xs : List ℕ) → IsProp (Apart xs)
apart_prop [] = Unit-prop
apart_prop (x ∷ xs) = ×_prop (hlevel props) (apart_prop xs)

module _ {T : Type 0} where
  -- No entry is at the place p.
  abbrev Clear : ℕ → List (Placed T) → Type 0
  Clear p es = Each (λ e. e.place ≡ p → ⊥) es

  clear : (p : ℕ) (es : List (Placed T)) → Off p (places es) → Clear p es
  clear p [] o = tt
  clear p (e ∷ es) o = (o.0, clear p es o.1)

  off : (p : ℕ) (es : List (Placed T)) → Clear p es → Off p (places es)
  off p [] o = tt
  off p (e ∷ es) o = (o.0, off p es o.1)

  -- The row round the entry at p.
  record Around (p : ℕ) (row : List (Placed T)) : Type 0 where
    lower : List (Placed T)
    own : Placed T
    upper : List (Placed T)
    whole : row ≡ lower ++ own ∷ upper
    at : own.place ≡ p

  sought : (p : ℕ) (row : List (Placed T)) → Around p row ⊎ Clear p row
  sought p [] = inr tt
  sought p (e ∷ row) = elim (cases_Bool (eqb p e.place)) [
    | inl same ↦ inl (record { lower = []; own = e; upper = row; whole = refl; at = sym (eqb-true p e.place same) })
    | inr other ↦ elim (sought p row) [
      | inl a ↦ inl (record { lower = e ∷ a.lower; own = a.own; upper = a.upper; whole = ap (λ es. e ∷ es) a.whole; at = a.at })
      | inr c ↦ inr ((λ same. eqb-false p e.place other (sym same)), c)
    ]
  ]

  from_mid : (p : ℕ) (es : List (Placed T)) (e : Placed T) (rest : List (Placed T)) → Clear p es → e.place ≡ p → from_place p (es ++ e ∷ rest) ≡ e ∷ rest
  from_mid p [] e rest c at = cond-true (eqb p e.place) (e ∷ rest) (from_place p rest) (eq-eqb p e.place (sym at))
  from_mid p (f ∷ es) e rest c at = elim (cases_Bool (eqb p f.place)) [
    | inl same ↦ absurd (c.0 (sym (eqb-true p f.place same)))
    | inr other ↦ cond-false (eqb p f.place) (f ∷ es ++ e ∷ rest) (from_place p (es ++ e ∷ rest)) other ∙ from_mid p es e rest c.1 at
  ]

  from_none : (p : ℕ) (es : List (Placed T)) → Clear p es → from_place p es ≡ []
  from_none p [] c = refl
  from_none p (e ∷ es) c = elim (cases_Bool (eqb p e.place)) [
    | inl same ↦ absurd (c.0 (sym (eqb-true p e.place same)))
    | inr other ↦ cond-false (eqb p e.place) (e ∷ es) (from_place p es) other ∙ from_none p es c.1
  ]

  -- ---- what is ahead, in a row where no place comes twice

  module _ (lower : List (Placed T)) (own : Placed T) (upper : List (Placed T)) (a : Apart (places (lower ++ own ∷ upper))) where
    others : Off own.place (places lower ++ places upper)
    others = apart_off (places lower) own.place (places upper) (subst Apart (map-append (λ e. e.place) lower (own ∷ upper)) a)

    below_off : Off own.place (places lower)
    below_off = off_left own.place (places lower) (places upper) others

    above_off : Off own.place (places upper)
    above_off = off_right own.place (places lower) (places upper) others

    -- From the entry's own place on: the entry, and those below it.
    ahead_own : onwards (Some own.place) (lower ++ own ∷ upper) ≡ own.entry ∷ entries (reverse lower)
    ahead_own =
        let turned : reverse (lower ++ own ∷ upper) ≡ reverse upper ++ own ∷ reverse lower =
        reverse-append lower (own ∷ upper) ∙ ap (λ es. es ++ reverse lower) (reverse-append (own ∷ []) upper) ∙ append_assoc (reverse upper) (own ∷ []) (reverse lower) in
        ap (λ es. entries (from_place own.place es)) turned
        ∙ ap entries (from_mid own.place (reverse upper) own (reverse lower) (all_reverse (λ e. e.place ≡ own.place → ⊥) upper (clear own.place upper above_off)) refl)

  from_end : (es : List (Placed T)) → (es ≡ []) ⊎ ((init : List (Placed T)) × (e : Placed T) × (es ≡ init ++ e ∷ []))
  from_end [] = inl refl
  from_end (e ∷ es) = inr (go e es)
    where
      go : (e : Placed T) (es : List (Placed T)) → (init : List (Placed T)) × (f : Placed T) × (e ∷ es ≡ init ++ f ∷ [])
      go e [] = ([], e, refl)
      go e (f ∷ es) = let r = go f es in (e ∷ r.0, r.1, ap (λ fs. e ∷ fs) r.2)

  -- From the place of the last of some entries on: those, from the last.
  ahead_last : (lower upper : List (Placed T)) → Apart (places (lower ++ upper)) → onwards (last_or None (places lower)) (lower ++ upper) ≡ entries (reverse lower)
  ahead_last lower upper a = elim (from_end lower) [
    | inl none ↦ rw none refl
    | inr last ↦
        let init = last.0 in
        let e = last.1 in
        let whole : lower ++ upper ≡ init ++ e ∷ upper = ap (λ es. es ++ upper) last.2 ∙ append_assoc init (e ∷ []) upper in
        let place : last_or None (places lower) ≡ Some e.place = ap (λ es. last_or None (places es)) last.2 ∙ ap (last_or None) (map-append (λ e. e.place) init (e ∷ [])) ∙ last_or_append None (places init) (e.place ∷ []) in
        let turned : reverse lower ≡ e ∷ reverse init = ap reverse last.2 ∙ reverse-append init (e ∷ []) in
        ap (λ (p : Option ℕ). onwards p (lower ++ upper)) place ∙ ap (onwards (Some e.place)) whole ∙ ahead_own init e upper (subst (λ es. Apart (places es)) whole a) ∙ sym (ap entries turned)
  ]

  -- ---- the row of counters

  module _ (s : Counters T) where
    apart : Apart (places (placed s))
    apart = ∥∥₁_elim s.sound (apart_prop (places (placed s))) (λ st. rw (places_are _ _ _ _ st.gs st.fs st.sound) (places_apart _ _ _ _ st.gs st.fs st.sound))

    pub begins : (r : Option ℕ) → r ≡ place_at (placed s) (length (placed s) - 1) → onwards r (placed s) ≡ by_position (entries (placed s))
    begins r is =
        let row : List (Placed T) = placed s in
        let last : r ≡ last_or None (places row) = is ∙ ap (λ (n : ℕ). nth (places row) (n - 1)) (sym (length-map row (λ e. e.place))) ∙ sym (nth_last (places row)) in
        let all : row ++ [] ≡ row = append-nil row in
        ap (λ (p : Option ℕ). onwards p row) last ∙ ap (onwards (last_or None (places row))) (sym all)
        ∙ ahead_last row [] (subst (λ es. Apart (places es)) (sym all) apart) ∙ map-reverse_aux (λ e. e.entry) row []

    pub few : (r : Option ℕ) → r ≡ place_at (placed s) (length (placed s) - 1) → length (onwards r (placed s)) ≤ 512
    few r is = omega (arith, ap length (begins r is), short s)

    -- A step from a place, which may be one without an entry.
    module _ (place below : Option ℕ) (r : Option (Entry T)) where
      abbrev Stepped : List (Placed T) → Option (Entry T) → Type 0
      Stepped row o = MatchOption o ((onwards place row ≡ []) × (onwards below row ≡ [])) (λ e. onwards place row ≡ e ∷ onwards below row)

      pub stepped : (p : ℕ) → place ≡ Some p → r ≡ placed_entry (at_place p (placed s)) → below ≡ place_below p (placed s) → Stepped (placed s) r
      stepped p is found is_below = elim (sought p (placed s)) [
        | inl h ↦
            let whole = h.lower ++ h.own ∷ h.upper in
            let a : Apart (places whole) = subst (λ es. Apart (places es)) h.whole apart in
            let down : Off h.own.place (places h.lower) = below_off h.lower h.own h.upper a in
            let entry : r ≡ Some h.own.entry =
            found ∙ ap (λ es. placed_entry (at_place p es)) h.whole ∙ ap placed_entry (at_mid p h.lower h.own h.upper (clear p h.lower (subst (λ q. Off q (places h.lower)) h.at down)) h.at) in
            let last : below ≡ last_or None (places h.lower) =
            is_below ∙ ap (place_below p) h.whole ∙ ap (λ q. place_below q whole) (sym h.at) ∙ ap (before h.own.place) (map-append (λ e. e.place) h.lower (h.own ∷ h.upper))
            ∙ before_mid h.own.place (places h.lower) (places h.upper) down (above_off h.lower h.own h.upper a) in
            let ahead_here : onwards place (placed s) ≡ h.own.entry ∷ entries (reverse h.lower) =
            ap (λ (q : Option ℕ). onwards q (placed s)) (is ∙ ap Some (sym h.at)) ∙ ap (onwards (Some h.own.place)) h.whole ∙ ahead_own h.lower h.own h.upper a in
            let ahead_then : onwards below (placed s) ≡ entries (reverse h.lower) =
            ap (λ (q : Option ℕ). onwards q (placed s)) last ∙ ap (onwards (last_or None (places h.lower))) h.whole ∙ ahead_last h.lower (h.own ∷ h.upper) a in
            subst (Stepped (placed s)) (sym entry) (ahead_here ∙ ap (λ es. h.own.entry ∷ es) (sym ahead_then))
        | inr c ↦
            subst (Stepped (placed s)) (sym (found ∙ ap placed_entry (at_none p (placed s) c))) (
              ap (λ (q : Option ℕ). onwards q (placed s)) is ∙ ap entries (from_none p (reverse (placed s)) (all_reverse (λ e. e.place ≡ p → ⊥) (placed s) c)),
              ap (λ (q : Option ℕ). onwards q (placed s)) (is_below ∙ before_off p (places (placed s)) (off p (placed s) c)),
            )
      ]

-- What yields the first of what is left makes progress.
pub progress : {S A : Type 0} (rest : S → List A) (s t : S) (r : Option A) → YieldsFirst rest s r t → MakesProgress (λ _. Unit {0}) (item_count rest) s r t
progress rest s t None y = record { on = λ _. tt; keeps = tt; rests = λ _. tt }
progress rest s t (Some x) y = record { on = λ _. (tt, tt, omega (arith, ap length y)); keeps = tt; rests = λ _. tt }
