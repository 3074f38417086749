-- The placed row, where the place found is that of the item's entry: a hit does to it what the row machine does.
use Rattle.std.proofs.Common.{◌≡◌, ℕ, ◌+◌, ◌<◌, ◌≤◌, Bool, true, false, cond, not, eqb, ltb, leb, List, [], ◌∷◌, length, Some, None, Option, sym, refl, ap, ◌∙◌, subst, arith}
use lib.ListN.{length-map}
use Rattle.std.specs.List.{AllByRecursion as Each}
use Rattle.std.proofs.ByRecursion.{All-weaker}
use Rattle.std.proofs.lemmas.Bool.{cond-true, cond-false, cond_both, eq-eqb, lt-leb, ltb-true, ltb-false, both_ways, or_from, false_from_ne_true}
use Rattle.items.proofs.Alike.{flipped, turned}
use Rattle.items.specs.Sameness.{Equivalence}
use Rattle.rows.specs.declared.entry.Entry.{Entry}
use Rattle.rows.specs.Row.{one_if, entry, raised as raised_entry, insert as insert_entry, take_over, entry_of, without, hit, hit_at}
use Rattle.rows.specs.Promises.{Pairwise, Apart}
use Rattle.rows.proofs.Lists.{all_both}
use Rattle.rows.proofs.Put.{Put, here, there, put_length, others_out}
use Rattle.table.specs.Placed.{Placed, entries, places, put, insert, at_place, off_place, raised, overtaken, step, placed_entry}
use Rattle.calls.specs.Reading.{times, FirstPlaces}
use Rattle.calls.specs.Lookups.{place_in, with_item, find_overtaken, find_after, held_count_after}
use Rattle.calls.specs.Foreign.{gives, holds, foreign_place, foreign_first, foreign_hit}
use Rattle.calls.specs.Calls.{entry_at}

-- ---- one entry put into a placed row

module _ {T : Type 0} where
  put_insert : (new : Placed T) (row : List (Placed T)) → Put new row (insert new row)
  put_insert new [] = here
  put_insert new (e ∷ row) = cond_both (leb e.entry.count new.entry.count) _ _ (Put new (e ∷ row)) (λ _. there (put_insert new row)) (λ _. here)

  pub entries_insert : (new : Placed T) (row : List (Placed T)) → entries (insert new row) ≡ insert_entry new.entry (entries row)
  entries_insert new [] = refl
  entries_insert new (e ∷ row) = go (entries_insert new row) (leb e.entry.count new.entry.count)
    where
      go : entries (insert new row) ≡ insert_entry new.entry (entries row) → (b : Bool) →
          entries (cond b (e ∷ insert new row) (new ∷ e ∷ row)) ≡ cond b (e.entry ∷ insert_entry new.entry (entries row)) (new.entry ∷ e.entry ∷ entries row)
      go ih true = ap (λ r. e.entry ∷ r) ih
      go ih false = refl

  times_put : {e : Placed T} {rest row : List (Placed T)} → Put e rest row → 1 ≤ times e.place (places row)
  times_put {e} here = omega (arith, ap one_if (eq-eqb e.place e.place refl))
  times_put {e} (there o) = omega (arith, times_put o)

-- ---- places that come once

one_at_most : (b : Bool) → one_if b ≤ 1
one_at_most true = omega arith
one_at_most false = omega arith

none_counted : (b : Bool) → one_if b ≤ 0 → b ≡ false
none_counted true l = absurd (omega arith)
none_counted false l = refl

pub one_counted : (b : Bool) → 1 ≤ one_if b → b ≡ true
one_counted true l = refl
one_counted false l = absurd (omega arith)

once : (u : ℕ) (ps : List ℕ) → FirstPlaces u ps → (p : ℕ) → times p ps ≤ 1
once u ps seated p = omega (arith, seated p, one_at_most (ltb p u))

module _ {T : Type 0} (same : T → T → Bool) where
  -- What stands at the place p is the entry of x.
  record Spot (x : T) (p : ℕ) (row : List (Placed T)) : Type 0 where
    e : Placed T
    stands : at_place p row ≡ Some e
    is_place : e.place ≡ p
    is_item : same e.entry.item x ≡ true
    found : entry_of same x (entries row) ≡ Some e.entry
    rest : entries (off_place p row) ≡ without same x (entries row)
    out : Put e (off_place p row) row

  spot : (x : T) (p : ℕ) (row : List (Placed T)) → place_in same row x ≡ Some p → times p (places row) ≤ 1 → Spot x p row
  spot x p [] eq single = absurd cc
  spot x p (f ∷ row) eq single = go (spot x p row) (same f.entry.item x) refl eq
    where
      go : (place_in same row x ≡ Some p → times p (places row) ≤ 1 → Spot x p row) → (b : Bool) → same f.entry.item x ≡ b → cond b (Some f.place) (place_in same row x) ≡ Some p → Spot x p (f ∷ row)
      go ih true t is =
          let i : f.place ≡ p = cc in
          let q : eqb p f.place ≡ true = eq-eqb p f.place (sym i) in
          record {
            e = f;
            stands = cond-true (eqb p f.place) _ _ q;
            is_place = i;
            is_item = t;
            found = cond-true (same f.entry.item x) _ _ t;
            rest = ap entries (cond-true (eqb p f.place) row (f ∷ off_place p row) q) ∙ sym (cond-true (same f.entry.item x) _ _ t);
            out = subst (λ r. Put f r (f ∷ row)) (sym (cond-true (eqb p f.place) row (f ∷ off_place p row) q)) here;
          }
      go ih false t is =
          let k : Spot x p row = ih is (omega arith) in
          let n : 1 ≤ times p (places row) = subst (λ i. 1 ≤ times i (places row)) k.is_place (times_put k.out) in
          let q : eqb p f.place ≡ false = none_counted (eqb p f.place) (omega arith) in
          record {
            e = k.e;
            stands = cond-false (eqb p f.place) _ _ q ∙ k.stands;
            is_place = k.is_place;
            is_item = k.is_item;
            found = cond-false (same f.entry.item x) _ _ t ∙ k.found;
            rest = ap entries (cond-false (eqb p f.place) row (f ∷ off_place p row) q) ∙ ap (λ r. f.entry ∷ r) k.rest ∙ sym (cond-false (same f.entry.item x) _ _ t);
            out = subst (λ r. Put k.e r (f ∷ row)) (sym (cond-false (eqb p f.place) row (f ∷ off_place p row) q)) (there k.out);
          }

  -- No entry is of x.
  abbrev pub Missing : T → List (Placed T) → Type 0
  Missing x row = Each (λ e. same e.entry.item x ≡ false) row × (entry_of same x (entries row) ≡ None)

  missing : (x : T) (row : List (Placed T)) → place_in same row x ≡ None → Missing x row
  missing x [] eq = (tt, refl)
  missing x (f ∷ row) eq = go (missing x row) (same f.entry.item x) refl eq
    where
      go : (place_in same row x ≡ None → Missing x row) → (b : Bool) → same f.entry.item x ≡ b → cond b (Some f.place) (place_in same row x) ≡ None → Missing x (f ∷ row)
      go ih true t is = absurd cc
      go ih false t is = let k = ih is in ((t, k.0), cond-false (same f.entry.item x) _ _ t ∙ k.1)

  -- ---- entries of different items

  abbrev pub Differ : Placed T → Placed T → Type 0
  Differ a b = same a.entry.item b.entry.item ≡ false

  all_entries : (P : Entry T → Type 0) (row : List (Placed T)) → Each P (entries row) → Each (λ e. P e.entry) row
  all_entries P [] a = tt
  all_entries P (e ∷ row) a = (a.0, all_entries P row a.1)

  pub all_differ : (row : List (Placed T)) → Apart same (entries row) → Pairwise Differ row
  all_differ [] a = tt
  all_differ (e ∷ row) a = (all_entries (λ b. same e.entry.item b.item ≡ false) row a.0, all_differ row a.1)

  module _ (laws : Equivalence same) where
    -- Looking an item up in a row with one entry put in.
    place_put : {e : Placed T} {rest row : List (Placed T)} → Put e rest row → Each (Differ e) rest → (y : T) → place_in same row y ≡ cond (same e.entry.item y) (Some e.place) (place_in same rest y)
    place_put here a y = refl
    place_put {e} (there {f} {rest} o) a y =
        ap (λ r. cond (same f.entry.item y) (Some f.place) r) (place_put o a.1 y) ∙
        swap (same f.entry.item y) (same e.entry.item y)
        (λ p q. both_ways (same e.entry.item f.entry.item) a.0 (laws.transitive e.entry.item y f.entry.item q (laws.symmetric f.entry.item y p)))
      where
        swap : (b c : Bool) → (b ≡ true → c ≡ true → ⊥) → cond b (Some f.place) (cond c (Some e.place) (place_in same rest y)) ≡ cond c (Some e.place) (cond b (Some f.place) (place_in same rest y))
        swap true true n = absurd (n refl refl)
        swap true false n = refl
        swap false c n = refl

    -- An item the same as x, from whose item all entries differ, has no place.
    no_place : (x y : T) (row : List (Placed T)) → Each (λ e. same x e.entry.item ≡ false) row → same x y ≡ true → place_in same row y ≡ None
    no_place x y [] a t = refl
    no_place x y (f ∷ row) a t =
        cond-false (same f.entry.item y) _ _ (false_from_ne_true (same f.entry.item y) (λ u. both_ways (same x f.entry.item) a.0 (laws.transitive x y f.entry.item t (laws.symmetric f.entry.item y u)))) ∙ no_place x y row a.1 t

    from_item : (x : T) (row : List (Placed T)) → Each (λ e. same e.entry.item x ≡ false) row → Each (λ e. same x e.entry.item ≡ false) row
    from_item x row a = All-weaker (λ e. same e.entry.item x ≡ false) (λ e. same x e.entry.item ≡ false) (λ e t. flipped same laws e.entry.item x t) row a

    -- Each entry is found at its own place.
    pub own_places : (row : List (Placed T)) → Pairwise Differ row → Each (λ e. place_in same row e.entry.item ≡ Some e.place) row
    own_places [] a = tt
    own_places (f ∷ row) a = (
      cond-true (same f.entry.item f.entry.item) _ _ (laws.reflexive f.entry.item),
      all_both (Differ f) (λ e. place_in same row e.entry.item ≡ Some e.place) _ (λ e d is. cond-false (same f.entry.item e.entry.item) _ _ d ∙ is) row a.0 (own_places row a.1),
    )

    module _ (m : ℕ) (pos : 1 ≤ m) (row : List (Placed T)) (seated : FirstPlaces (length row) (places row)) (x : T) where
      -- ---- the row

      pub entries_step : (o : Option ℕ) → place_in same row x ≡ o → entries (step m row x o) ≡ hit same m (entries row) x
      entries_step (Some p) eq =
          let k = spot x p row eq (once (length row) (places row) seated p) in
          let e = k.e in
          ap (λ o. entries (raised o (off_place p row))) k.stands ∙
          entries_insert (put e.place e.entry.item (e.entry.count + 1) e.entry.error) (off_place p row) ∙
          ap (insert_entry (raised_entry 1 e.entry)) k.rest ∙
          sym (ap (hit_at same m (entries row) x) k.found)
      entries_step None eq =
          go (ltb (length row) m) ∙
          sym (ap (λ n. cond (ltb n m) (insert_entry (entry x 1 0) (entries row)) (take_over x (entries row))) (length-map row (λ e. e.entry))) ∙
          sym (ap (hit_at same m (entries row) x) (missing x row eq).1)
        where
          over : (r : List (Placed T)) → entries (overtaken x r) ≡ take_over x (entries r)
          over [] = refl
          over (e ∷ r) = entries_insert (put e.place x (e.entry.count + 1) e.entry.count) r

          go : (b : Bool) → entries (cond b (insert (put (length row) x 1 0) row) (overtaken x row)) ≡ cond b (insert_entry (entry x 1 0) (entries row)) (take_over x (entries row))
          go true = entries_insert (put (length row) x 1 0) row
          go false = over row

      -- ---- how many

      pub held_step : (o : Option ℕ) → place_in same row x ≡ o → held_count_after m row o (length row) ≡ length (step m row x o)
      held_step (Some p) eq =
          let k = spot x p row eq (once (length row) (places row) seated p) in
          let e = k.e in
          put_length k.out ∙ sym (put_length (put_insert (put e.place e.entry.item (e.entry.count + 1) e.entry.error) (off_place p row))) ∙
          sym (ap (λ o. length (raised o (off_place p row))) k.stands)
      held_step None eq = go (ltb (length row) m) refl
        where
          over : (r : List (Placed T)) → 1 ≤ length r → length r ≡ length (overtaken x r)
          over [] l = absurd (omega arith)
          over (e ∷ r) l = sym (put_length (put_insert (put e.place x (e.entry.count + 1) e.entry.count) r))

          go : (b : Bool) → ltb (length row) m ≡ b → cond b (length row + 1) (length row) ≡ length (cond b (insert (put (length row) x 1 0) row) (overtaken x row))
          go true t = omega (arith, put_length (put_insert (put (length row) x 1 0) row))
          go false t = over row (omega (arith, ltb-false (length row) m t))

      -- ---- the look-ups

      pub finds_step : Pairwise Differ row → (o : Option ℕ) → place_in same row x ≡ o → (y : T) → place_in same (step m row x o) y ≡ find_after same m row x o (place_in same row) y
      finds_step apart (Some p) eq y =
          let k = spot x p row eq (once (length row) (places row) seated p) in
          let e = k.e in
          let a = others_out Differ (λ a b h. flipped same laws a.entry.item b.entry.item h) k.out apart in
          ap (λ o. place_in same (raised o (off_place p row)) y) k.stands ∙
          place_put (put_insert (put e.place e.entry.item (e.entry.count + 1) e.entry.error) (off_place p row)) a y ∙
          sym (place_put k.out a y)
      finds_step apart None eq y = go (ltb (length row) m) refl
        where
          -- The first entry has left.
          rest : (e : Placed T) (r : List (Placed T)) → Each (Differ e) r → (b c : Bool) → same y e.entry.item ≡ b → same e.entry.item y ≡ c → place_in same r y ≡ cond b None (cond c (Some e.place) (place_in same r y))
          rest e r a true c t u = no_place e.entry.item y r a (sym (turned same laws y e.entry.item) ∙ t)
          rest e r a false true t u = absurd (both_ways (same y e.entry.item) t (turned same laws y e.entry.item ∙ u))
          rest e r a false false t u = refl

          over : (r : List (Placed T)) → Pairwise Differ r → Each (λ e. same e.entry.item x ≡ false) r → 1 ≤ length r → place_in same (overtaken x r) y ≡ find_overtaken same x r (place_in same r) y
          over [] a n l = absurd (omega arith)
          over (e ∷ r) a n l =
              place_put (put_insert (put e.place x (e.entry.count + 1) e.entry.count) r) (from_item x r n.1) y ∙
              ap (λ b. cond b (Some e.place) (place_in same r y)) (turned same laws x y) ∙
              ap (λ q. cond (same y x) (Some e.place) q) (rest e r a.0 (same y e.entry.item) (same e.entry.item y) refl refl)

          go : (b : Bool) → ltb (length row) m ≡ b → place_in same (cond b (insert (put (length row) x 1 0) row) (overtaken x row)) y ≡ cond b (with_item same x (length row) (place_in same row)) (find_overtaken same x row (place_in same row)) y
          go true t =
              place_put (put_insert (put (length row) x 1 0) row) (from_item x row (missing x row eq).0) y ∙
              ap (λ b. cond b (Some (length row)) (place_in same row y)) (turned same laws x y)
          go false t = over row apart (missing x row eq).0 (omega (arith, ltb-false (length row) m t))

      -- ---- nothing is foreign

      pub own_place : (o : Option ℕ) → place_in same row x ≡ o → foreign_place same (length row) row x o ≡ false
      own_place (Some p) eq =
          let k = spot x p row eq (once (length row) (places row) seated p) in
          let n : 1 ≤ times p (places row) = subst (λ i. 1 ≤ times i (places row)) k.is_place (times_put k.out) in
          let below : p < length row = ltb-true p (length row) (one_counted (ltb p (length row)) (omega (arith, seated p))) in
          or_from (leb (length row) p) (not (holds same (at_place p row) x)) (lt-leb (length row) p below) (ap (λ o. not (holds same o x)) k.stands ∙ ap not k.is_item)
      own_place None eq = refl

      pub own_hit : (room : ℕ) → m ≤ room → (o : Option ℕ) → place_in same row x ≡ o → foreign_hit same m (length row) row (length row) room (place_in same row) x o ≡ false
      own_hit room fits (Some p) eq = own_place (Some p) eq
      own_hit room fits None eq = go (ltb (length row) m) refl
        where
          first : (r : List (Placed T)) → 1 ≤ length r → foreign_first r (place_in same r) ≡ false
          first [] l = absurd (omega arith)
          first (e ∷ r) l =
              ap (λ o. not (gives o e.place)) (cond-true (same e.entry.item e.entry.item) (Some e.place) (place_in same r e.entry.item) (laws.reflexive e.entry.item)) ∙
              ap not (eq-eqb e.place e.place refl)

          go : (b : Bool) → ltb (length row) m ≡ b → cond b (leb room (length row)) (foreign_first row (place_in same row)) ≡ false
          go true t = lt-leb room (length row) (omega (arith, ltb-true (length row) m t))
          go false t = first row (omega (arith, ltb-false (length row) m t))

      pub own_entry : (o : Option ℕ) → place_in same row x ≡ o → entry_at row o ≡ entry_of same x (entries row)
      own_entry (Some p) eq = let k = spot x p row eq (once (length row) (places row) seated p) in ap placed_entry k.stands ∙ sym k.found
      own_entry None eq = sym (missing x row eq).1
