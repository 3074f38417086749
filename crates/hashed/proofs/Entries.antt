-- What the entries of the slots stand for: where an item is found, and what changing one entry does to the bindings.
use Rattle.std.proofs.Common.{◌≡◌, ℕ, zero, suc, ◌%◌, ◌<◌, ◌≤◌, Bool, true, false, List, [], ◌∷◌, map, length, get_or, set, is_some, IfSome, Some, None, Err, Option, sym, refl, ap, ◌∙◌, inl, ⊎_elim, mod-lt, arith, length-set}
use mathlib.Core.Logic.{∥∥₁_elim}
use native.Mathlib.Bridge.{le_prop}
use lib.ListN.{length-map}
use Rattle.std.proofs.ByRecursion.{All-set, All-get_or}
use Rattle.std.proofs.lemmas.List.{set-get_or}
use Rattle.std.proofs.lemmas.Bool.{both_ways, cases_Bool, cond-true, cond-false, le-leb}
use Rattle.items.specs.Sameness.{Equivalence}
use Rattle.finders.specs.Calls.{Entered, Left}
use Rattle.finders.specs.Lookup.{lookup, Lacks, Apart}
use Rattle.finders.specs.Refusals.{unless_refused, enter_refusal, leave_refusal}
use Rattle.finders.specs.declared.finder.Binding.{Binding}
use Rattle.finders.specs.declared.refusal.Refusal.TheVariants.{Full, Absent}
use Rattle.finders.proofs.Bindings.{nowhere, lacking, lookup_out, apart_out, apart_in, entered, left}
use Rattle.items.proofs.Put.{Put, here, there, put_length}
use Rattle.hashed.specs.declared.slot.Entry.{Entry}
use Rattle.hashed.specs.declared.slot.Slot.{Slot}
use Rattle.hashed.specs.declared.table.Spot.{Spot}
use Rattle.hashed.specs.Chains.{In, Path}
use Rattle.hashed.specs.Members.{bindings_within}
use Rattle.hashed.specs.Slots.{entry_of, entries, heads, bindings_in, chain_of, Sound, Lawful}
use Rattle.hashed.specs.Steps.{entry_at, hits, hit_at, Located, Missing}
use Rattle.hashed.proofs.Clearing.{own_by_entry}
use Rattle.hashed.proofs.Standing.{head_of_free}

module _ {T : Type 0} where
  none_unless : (o : Option (Entry T)) → ((e : Entry T) → o ≡ Some e → ⊥) → o ≡ None
  none_unless None f = refl
  none_unless (Some e) f = absurd (f e refl)

  -- ---- one entry changed

  -- The bindings with an entry at i are those with none there, and its own.
  put_set : (es : List (Option (Entry T))) (i : ℕ) (e : Entry T) → i < length es → Put e.binding (bindings_in (set es i None)) (bindings_in (set es i (Some e)))
  put_set [] i e inside = absurd (omega arith)
  put_set (o ∷ es) zero e inside = here
  put_set (None ∷ es) (suc i) e inside = put_set es i e (omega arith)
  put_set (Some c ∷ es) (suc i) e inside = there (put_set es i e (omega arith))

  set_there : (es : List (Option (Entry T))) (i : ℕ) (o : Option (Entry T)) → entry_at es i ≡ o → set es i o ≡ es
  set_there es i o is = rw is at (set-get_or es i None)

  pub put_used : (es : List (Option (Entry T))) (i : ℕ) (e : Entry T) → i < length es → entry_at es i ≡ None → Put e.binding (bindings_in es) (bindings_in (set es i (Some e)))
  put_used es i e inside unused =
      rw (set_there es i None unused) at (put_set es i e inside)

  pub put_spent : (es : List (Option (Entry T))) (i : ℕ) (e : Entry T) → i < length es → entry_at es i ≡ Some e → Put e.binding (bindings_in (set es i None)) (bindings_in es)
  put_spent es i e inside is =
      rw (set_there es i (Some e) is) at (put_set es i e inside)

  -- ---- how many

  all_used : (es : List (Option (Entry T))) → ((i : ℕ) → i < length es → entry_at es i ≡ None → ⊥) → length (bindings_in es) ≡ length es
  all_used [] used = refl
  all_used (None ∷ es) used = absurd (used 0 (omega arith) refl)
  all_used (Some e ∷ es) used = ap suc (all_used es (λ i l. used (suc i) (omega arith)))

  -- A slot in use is in the chain of a mark.
  own_below : (n : ℕ) (es : List (Option (Entry T))) (i : ℕ) (e : Entry T) → 0 < n → entry_at es i ≡ Some e → get_or (map (chain_of n) es) i n < n
  own_below n es i e some is = rw (own_by_entry n es i ∙ ap (chain_of n) is) (mod-lt e.mark some)

  module _ (t : List (Slot T)) (free : Option ℕ) where
    same_length : length (entries t) ≡ length t
    same_length = length-map t entry_of

    -- No slot is free: as many bindings as slots.
    pub full : free ≡ None → ∥ Sound t free ∥₁ → length t ≤ length (bindings_in (entries t))
    full none sound = ∥∥₁_elim sound le_prop (λ st. omega (arith, all_used (entries t) (λ i l. used st i (omega (arith, same_length))), same_length))
      where
        empty : (xs : List ℕ) (from : Option ℕ) (link : ℕ → Option ℕ) (i : ℕ) → from ≡ None → Path link from xs → In i xs → ⊥
        empty [] from link i is path m = m
        empty (x ∷ xs) from link i is path m = cc

        used : Sound t free → (i : ℕ) → i < length t → entry_at (entries t) i ≡ None → ⊥
        used st i inside unused =
            let own = own_by_entry (length t) (entries t) i ∙ ap (chain_of (length t)) unused in
            empty (st.chain (length t)) _ _ i (head_of_free (length t) free (heads t) ∙ none) (st.linked (length t)) (rw own at (st.whole i inside))

    -- The first free slot.
    module _ (i : ℕ) (at : free ≡ Some i) (sound : ∥ Sound t free ∥₁) where
      first_in : (link : ℕ → Option ℕ) (from : Option ℕ) (xs : List ℕ) → from ≡ Some i → Path link from xs → In i xs
      first_in link from [] is path = cc
      first_in link from (x ∷ xs) is path = inl (cc)

      first : Sound t free → (i < length t) × (get_or (map (chain_of (length t)) (entries t)) i (length t) ≡ length t)
      first st = st.inside (length t) i (first_in _ _ (st.chain (length t)) (head_of_free (length t) free (heads t) ∙ at) (st.linked (length t)))

      pub free_inside : i < length t
      free_inside = ∥∥₁_elim sound le_prop (λ st. (first st).0)

      pub free_unused : entry_at (entries t) i ≡ None
      free_unused =
          none_unless (entry_at (entries t) i)
          (λ e at. ∥∥₁_elim sound (λ p q. absurd p) (λ st. let own = first st in let l = own_below (length t) (entries t) i e (omega (arith, own.0)) at in omega (arith, own.1)))

      -- An entry in it is one binding more.
      pub put_free : (e : Entry T) → Put e.binding (bindings_in (entries t)) (bindings_in (set (entries t) i (Some e)))
      put_free e = put_used (entries t) i e (omega (arith, free_inside, same_length)) free_unused

      pub spare : T → length (bindings_in (entries t)) < length t
      spare x =
          let e : Entry T = record { binding = record { item = x; place = 0 }; mark = 0 } in
          omega (arith, bindings_within (set (entries t) i (Some e)), length-set (entries t) i (Some e), same_length, put_length (put_free e))

-- ---- where an item is found

-- The entry of a slot that has an item that is the same as x.
pub record Hit {T : Type 0} (same : T → T → Bool) (x : T) (o : Option (Entry T)) : Type 0 where
  pub entry : Entry T
  pub is : o ≡ Some entry
  pub alike : same x entry.binding.item ≡ true

module _ {T : Type 0} (same : T → T → Bool) where
  hit_entry : (x : T) (o : Option (Entry T)) → hits same x o ≡ true → Hit same x o
  hit_entry x None h = absurd (both_ways false refl h)
  hit_entry x (Some e) h = record { entry = e; is = refl; alike = h }

  module _ (t : List (Slot T)) (x : T) (s : Spot) (located : Located same t x s) where
    pub located_entry : Hit same x (entry_at (entries t) s.here)
    located_entry = hit_entry x (entry_at (entries t) s.here) located.hit

    -- Without it there is one binding less.
    pub put_located : Put located_entry.entry.binding (bindings_in (set (entries t) s.here None)) (bindings_in (entries t))
    put_located = put_spent (entries t) s.here located_entry.entry (omega (arith, located.inside, length-map t entry_of)) located_entry.is

module _ {T : Type 0} (same : T → T → Bool) (mark_of : T → ℕ) (laws : Equivalence same) (marks : (x y : T) → same x y ≡ true → mark_of x ≡ mark_of y) where
  pub found_place : (t : List (Slot T)) (x : T) (s : Spot) (located : Located same t x s) → Apart same (bindings_in (entries t)) → lookup same (bindings_in (entries t)) x ≡ Some (located_entry same t x s located).entry.binding.place
  found_place t x s located apart =
      lookup_out same laws (put_located same t x s located) apart x
      ∙ cond-true _ _ _ (located_entry same t x s located).alike

  lacks_by : (es : List (Option (Entry T))) (x : T) → ((i : ℕ) → i < length es → hit_at same es x i ≡ false) → Lacks same (bindings_in es) x
  lacks_by [] x misses = tt
  lacks_by (None ∷ es) x misses = lacks_by es x (λ i l. misses (suc i) (omega arith))
  lacks_by (Some e ∷ es) x misses = (misses 0 (omega arith), lacks_by es x (λ i l. misses (suc i) (omega arith)))

  -- A same item has an equal mark, so it would be in the chain.
  pub missing_nowhere : (t : List (Slot T)) (x : T) → Missing same t x (mark_of x % length t) → Lawful same mark_of (entries t) → lookup same (bindings_in (entries t)) x ≡ None
  missing_nowhere t x missing lawful = nowhere same (bindings_in (entries t)) x (lacks_by (entries t) x misses)
    where
      misses : (i : ℕ) → i < length (entries t) → hit_at same (entries t) x i ≡ false
      misses i l =
          let es = entries t in
          ⊎_elim
          (λ (h : hit_at same es x i ≡ true).
          let found = hit_entry same x (entry_at es i) h in
          let mark : found.entry.mark ≡ mark_of found.entry.binding.item = rw found.is at (All-get_or (λ o. IfSome o (λ e. e.mark ≡ mark_of e.binding.item)) es i None l lawful.marked) in
          let chain = own_by_entry (length t) es i ∙ ap (chain_of (length t)) found.is ∙ ap (λ (m : ℕ). m % length t) (mark ∙ sym (marks x found.entry.binding.item found.alike)) in
          missing i (omega (arith, length-map t entry_of)) chain)
          (λ f. f)
          (cases_Bool (hit_at same es x i))

  -- ---- the calls

  module _ (es : List (Option (Entry T))) (i : ℕ) (e : Entry T) (lawful : Lawful same mark_of es) where
    module _ (out : Put e.binding (bindings_in es) (bindings_in (set es i (Some e)))) (mark : e.mark ≡ mark_of e.binding.item) (absent : lookup same (bindings_in es) e.binding.item ≡ None) where
      pub lawful_entered : Lawful same mark_of (set es i (Some e))
      lawful_entered = record {
        marked = All-set _ es i (Some e) mark lawful.marked;
        apart = apart_in same laws out (lacking same (bindings_in es) e.binding.item absent) lawful.apart;
      }

      pub entered_slot : Entered same (bindings_in es) e.binding.item e.binding.place (bindings_in (set es i (Some e)))
      entered_slot = entered same laws out lawful_entered.apart

    module _ (out : Put e.binding (bindings_in (set es i None)) (bindings_in es)) where
      pub lawful_left : Lawful same mark_of (set es i None)
      lawful_left = record {
        marked = All-set _ es i None tt lawful.marked;
        apart = (apart_out same laws out lawful.apart).1;
      }

      pub left_slot : (x : T) → same x e.binding.item ≡ true → Left same (bindings_in es) x (bindings_in (set es i None))
      left_slot x alike = left same laws out lawful.apart x alike

-- ---- when a call is refused

pub none_from_test : {X : Type 0} (o : Option X) → false ≡ is_some o → o ≡ None
none_from_test None f = refl
none_from_test (Some x) f = cc

module _ {T : Type 0} (same : T → T → Bool) (bs : List (Binding T)) (x : T) where
  pub fills : (room : ℕ) → lookup same bs x ≡ None → room ≤ length bs → Err Full ≡ unless_refused (enter_refusal same bs room x)
  fills room none all = ap unless_refused (sym (cond-false _ _ _ (ap is_some none) ∙ cond-true _ _ _ (le-leb _ _ all)))

  pub stays_out : lookup same bs x ≡ None → Err Absent ≡ unless_refused (leave_refusal same bs x)
  stays_out none = ap unless_refused (sym (cond-false _ _ _ (ap is_some none)))
