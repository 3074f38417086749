-- Slots that are all made free: one chain, from the last slot down to the first.
use Rattle.std.proofs.Common.{◌≡◌, ℕ, zero, suc, ◌<◌, ◌≤◌, cond, eqb, List, [], ◌∷◌, map, length, get_or, Some, None, Option, sym, refl, ap, ◌∙◌, inl, inr, ⊎_elim, arith}
use lib.ListN.{length-map}
use Rattle.std.proofs.Math.ListN.{get_or-map}
use Rattle.std.proofs.lemmas.List.{get_or_past}
use Rattle.std.proofs.lemmas.Bool.{cond_both, cases_eq, cases_lt, eqb-true, eq-eqb, ne_eqb}
use Rattle.hashed.specs.declared.slot.Entry.{Entry}
use Rattle.hashed.specs.declared.slot.Slot.{Slot}
use Rattle.hashed.specs.Chains.{In, Path}
use Rattle.hashed.specs.Slots.{entry_of, vacant_slot, entries, links, heads, bindings_in, chain_of, Sound}
use Rattle.hashed.specs.Steps.{entry_at, below, Cleared}

module _ {T : Type 0} where
  -- The chain of a slot, by its entry.
  pub own_by_entry : (n : ℕ) (es : List (Option (Entry T))) (i : ℕ) → get_or (map (chain_of n) es) i n ≡ chain_of n (entry_at es i)
  own_by_entry n es i = get_or-map (chain_of n) es i None

  pub none_used : (es : List (Option (Entry T))) → ((i : ℕ) → i < length es → entry_at es i ≡ None) → bindings_in es ≡ []
  none_used [] unused = refl
  none_used (None ∷ es) unused = none_used es (λ i l. unused (suc i) (omega arith))
  none_used (Some e ∷ es) unused = let first : ◌≡◌ {A = Option (Entry T)} (Some e) None = unused 0 (omega arith) in cc

abbrev down : ℕ → List ℕ
down zero = []
down (suc i) = i ∷ down i

in_down : (n i : ℕ) → i < n → In i (down n)
in_down zero i l = absurd (omega arith)
in_down (suc n) i l = ⊎_elim inl (λ (ne : i ≡ n → ⊥). inr (in_down n i (omega arith))) (cases_eq i n)

down_in : (n i : ℕ) → In i (down n) → i < n
down_in zero i m = absurd m
down_in (suc n) i m = ⊎_elim (λ (e : i ≡ n). omega arith) (λ (k : In i (down n)). let l = down_in n i k in omega arith) m

path_down : (link : ℕ → Option ℕ) (n : ℕ) → ((i : ℕ) → i < n → link i ≡ below i) → Path link (below n) (down n)
path_down link zero linked = refl
path_down link (suc n) linked =
    (refl, rw (linked n (omega arith)) (path_down link n (λ i l. linked i (omega arith))))

module _ {T : Type 0} (t : List (Slot T)) (cleared : Cleared t (length t)) where
  no_entry : (i : ℕ) → i < length t → entry_at (entries t) i ≡ None
  no_entry i l = get_or-map entry_of t i vacant_slot ∙ ap entry_of (cleared i l)

  linked_below : (i : ℕ) → i < length t → get_or (links t) i None ≡ below i
  linked_below i l = get_or-map (λ (s : Slot T). s.link) t i vacant_slot ∙ ap (λ (s : Slot T). s.link) (cleared i l)

  pub cleared_bindings : bindings_in (entries t) ≡ []
  cleared_bindings = none_used (entries t) (λ i l. no_entry i (omega (arith, length-map t entry_of)))

  no_head : (b : ℕ) → get_or (heads t) b None ≡ None
  no_head b =
      get_or-map (λ (s : Slot T). s.head) t b vacant_slot
      ∙ ⊎_elim
      (λ (l : b < length t). ap (λ (s : Slot T). s.head) (cleared b l))
      (λ (past : length t ≤ b). ap (λ (s : Slot T). s.head) (get_or_past t b vacant_slot past))
      (cases_lt b (length t))

  own_free : (i : ℕ) → i < length t → get_or (map (chain_of (length t)) (entries t)) i (length t) ≡ length t
  own_free i l = own_by_entry (length t) (entries t) i ∙ ap (chain_of (length t)) (no_entry i l)

  abbrev only : ℕ → List ℕ
  only b = cond (eqb b (length t)) (down (length t)) []

  pub cleared_sound : Sound t (below (length t))
  cleared_sound = record { chain = only; linked = linked; inside = inside; whole = whole }
    where
      linked : (b : ℕ) → Path (λ i. get_or (links t) i None) (cond (eqb b (length t)) (below (length t)) (get_or (heads t) b None)) (only b)
      linked b =
          ⊎_elim
          (λ (e : b ≡ length t).
          let yes' = eq-eqb b (length t) e in
          rw (yes') (path_down (λ i. get_or (links t) i None) (length t) linked_below))
          (λ (ne : b ≡ length t → ⊥). let no' = ne_eqb b (length t) ne in rw (no') (no_head b))
          (cases_eq b (length t))

      inside : (b i : ℕ) → In i (only b) → (i < length t) × (get_or (map (chain_of (length t)) (entries t)) i (length t) ≡ b)
      inside b i m =
          cond_both (eqb b (length t)) (down (length t)) [] (λ xs. In i xs → (i < length t) × (get_or (map (chain_of (length t)) (entries t)) i (length t) ≡ b))
          (λ t' k. let l = down_in (length t) i k in (l, own_free i l ∙ sym (eqb-true b (length t) t')))
          (λ _ k. absurd k)
          m

      whole : (i : ℕ) → i < length t → In i (only (get_or (map (chain_of (length t)) (entries t)) i (length t)))
      whole i l =
          rw (own_free i l, eq-eqb (length t) (length t) refl) (in_down (length t) i l)
