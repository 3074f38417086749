-- One counter in use, at p: where it stands, what the row has before and behind it, and what is read of it without a walk.
use Rattle.std.proofs.Common.{◌≡◌, ℕ, ◌<◌, ◌≤◌, List, [], ◌∷◌, ◌++◌, length, Some, None, Option, sym, refl, ap, ◌∙◌, append_assoc}
use Rattle.std.specs.List.{flat_map, AllByRecursion as Each}
use Rattle.std.proofs.ByRecursion.{All-append}
use Rattle.std.proofs.lemmas.List.Concat.{flat_map-append}
use Rattle.links.specs.Chains.{Off, Apart, last_or}
use Rattle.links.proofs.Alls.{all_left, all_mid}
use Rattle.links.proofs.Places.{off_left, apart_right, apart_cross, cross_first}
use Rattle.links.proofs.Chains.{last_or_append}
use Rattle.links.proofs.Listing.{prev_is}
use Rattle.table.specs.declared.place.Place.{Place}
use Rattle.table.specs.declared.lists.Lists.{Lists}
use Rattle.table.specs.Placed.{Placed, put, at_place, off_place, placed_entry, before}
use Rattle.table.specs.Fields.{counter_links, owner_of, owner_in, members_in, value_in, placed_of, placed_in}
use Rattle.table.specs.Reading.{placed_row}
use Rattle.table.specs.Groups.{Group, Holds, group, ats, with_group}
use Rattle.table.specs.Moves.{onto, own_entry, lower}
use Rattle.table.specs.Stands.{Sound}
use Rattle.table.proofs.Grouping.{pull_holds, pull_owner, pull_loose}
use Rattle.table.proofs.Bucketing.{prev_groups}
use Rattle.table.proofs.Rising.{parts}
use Rattle.table.proofs.Rows.{row_of, row, row_places, members_places, row_sound, at_mid, off_mid, stood, reads}
use Rattle.table.proofs.Positions.{before_mid}
use Rattle.table.proofs.Looking.{crowd, crowd_apart, last_crowd, or_last}

module _ {T : Type 0} (t : List (Place T)) (s : Lists) (used total : ℕ) (ls : List Group) (b : ℕ) (xs : List ℕ) (p : ℕ) (zs : List ℕ) (rs : List Group) (fs : List ℕ) (h : Sound t s used total (ls ++ group b (xs ++ p ∷ zs) ∷ rs) fs) where
  pub holds : Holds t (group b (xs ++ p ∷ zs))
  holds = pull_holds t s ls rs b p xs zs fs h.full

  pub owner_is : owner_in t p ≡ b
  owner_is = pull_owner t s ls rs b p xs zs fs h.full

  pub within : p < length t
  within = all_mid (λ x. x < length t) xs p zs holds.list.list.within

  -- ---- its entry, and the row before and behind it

  abbrev pub own : Placed T
  own = put p (stood t p within).counter.item (value_in t b) (stood t p within).counter.error

  abbrev pub lower_part : List (Placed T)
  lower_part = row t ls ++ flat_map (placed_in t (value_in t b)) xs

  abbrev pub upper_part : List (Placed T)
  upper_part = flat_map (placed_in t (value_in t b)) zs ++ row t rs

  pub own_read : (v : ℕ) → placed_in t v p ≡ put p (stood t p within).counter.item v (stood t p within).counter.error ∷ []
  own_read v = reads (placed_of p v) [] t p within

  pub row_split : placed_row t s.main.first ≡ lower_part ++ own ∷ upper_part
  row_split =
      let E = placed_in t (value_in t b) in
      let L = row t ls in
      let X = flat_map E xs in
      let Z = flat_map E zs in
      let Y = row t rs in
      let eo : flat_map E (xs ++ p ∷ zs) ≡ X ++ own ∷ Z = flat_map-append E xs (p ∷ zs) ∙ ap (λ (r : List (Placed T)). X ++ (r ++ Z)) (own_read (value_in t b)) in
      row_sound t s used total (ls ++ group b (xs ++ p ∷ zs) ∷ rs) fs h ∙ flat_map-append (row_of t) ls (group b (xs ++ p ∷ zs) ∷ rs) ∙ ap (λ (r : List (Placed T)). L ++ (r ++ Y)) eo
      ∙ ap (λ (r : List (Placed T)). L ++ r) (append_assoc X (own ∷ Z) Y) ∙ sym (append_assoc L X (own ∷ (Z ++ Y)))

  row_with : (ms : List ℕ) → row t (ls ++ with_group b ms rs) ≡ row t ls ++ (flat_map (placed_in t (value_in t b)) ms ++ row t rs)
  row_with [] = flat_map-append (row_of t) ls rs
  row_with (x ∷ ms) = flat_map-append (row_of t) ls (group b (x ∷ ms) ∷ rs)

  pub row_rest : row t ((ls ++ with_group b (xs ++ zs) []) ++ rs) ≡ lower_part ++ upper_part
  row_rest =
      let E = placed_in t (value_in t b) in
      let L = row t ls in
      let X = flat_map E xs in
      let Z = flat_map E zs in
      let Y = row t rs in
      ap (row t) (parts ls b (xs ++ zs) rs) ∙ row_with (xs ++ zs) ∙ ap (λ (r : List (Placed T)). L ++ (r ++ Y)) (flat_map-append E xs zs)
      ∙ ap (λ (r : List (Placed T)). L ++ r) (append_assoc X Z Y) ∙ sym (append_assoc L X (Z ++ Y))

  lower_clear : Each (λ e. e.place ≡ p → ⊥) lower_part
  lower_clear =
      let o = (pull_loose t s ls rs b p xs zs fs h.full).off in
      let m : Off p (xs ++ zs) = all_mid (λ g. Off p g.members) ls (group b (xs ++ zs)) rs o in
      All-append (λ e. e.place ≡ p → ⊥) (row t ls) (flat_map (placed_in t (value_in t b)) xs)
      (row_places (λ x. x ≡ p → ⊥) t ls (all_left (λ g. Off p g.members) ls (group b (xs ++ zs) ∷ rs) o))
      (members_places (λ x. x ≡ p → ⊥) t (value_in t b) xs (off_left p xs zs m))

  pub at_own : at_place p (placed_row t s.main.first) ≡ Some own
  at_own = ap (at_place p) row_split ∙ at_mid p lower_part own upper_part lower_clear refl

  pub off_own : off_place p (placed_row t s.main.first) ≡ lower_part ++ upper_part
  off_own = ap (off_place p) row_split ∙ off_mid p lower_part own upper_part lower_clear refl

  -- ---- read without a walk

  pub own_entry_placed : own_entry t p ≡ placed_entry (at_place p (placed_row t s.main.first))
  own_entry_placed =
      let x = stood t p within in
      let e : x.counter.bucket ≡ b = sym (reads owner_of 0 t p within) ∙ owner_is in
      let r : own_entry t p ≡ Some (record { item = x.counter.item; count = value_in t x.counter.bucket; error = x.counter.error }) =
      reads (λ q. Some (record { item = q.counter.item; count = value_in t q.counter.bucket; error = q.counter.error })) None t p within in
      r ∙ ap (λ (i : ℕ). Some (record { item = x.counter.item; count = value_in t i; error = x.counter.error })) e ∙ ap placed_entry (sym at_own)

  pub own_lower : lower t p ≡ before p (crowd (ls ++ group b (xs ++ p ∷ zs) ∷ rs))
  own_lower =
      let g : Group = group b (xs ++ p ∷ zs) in
      let us = crowd ls ++ xs in
      let vs = zs ++ crowd rs in
      let ec : crowd (ls ++ g ∷ rs) ≡ us ++ p ∷ vs =
      flat_map-append (λ k. k.members) ls (g ∷ rs) ∙ ap (λ (r : List ℕ). crowd ls ++ r) (append_assoc xs (p ∷ zs) (crowd rs)) ∙ sym (append_assoc (crowd ls) xs (p ∷ vs)) in
      let a : Apart (us ++ p ∷ vs) = rw (← ec) (crowd_apart t (ls ++ g ∷ rs) h.full.buckets.list.apart h.full.groups) in
      let e₁ : before p (crowd (ls ++ g ∷ rs)) ≡ last_or None us = ap (before p) ec ∙ before_mid p us vs (cross_first us p vs (apart_cross us (p ∷ vs) a)) (apart_right us (p ∷ vs) a).0 in
      let last : ℕ → Option ℕ = λ i. (members_in t i).last in
      let hl = all_left (Holds t) ls (g ∷ rs) h.full.groups in
      let fl = all_left (λ k. 1 ≤ length k.members) ls (g ∷ rs) h.filled in
      let e₂ : onto last (last_or None (ats ls)) ≡ last_or None (crowd ls) = last_crowd t None ls hl fl in
      rw (prev_is counter_links t xs p zs holds.list.list, owner_is, prev_groups t s.main ls g rs h.full.buckets)
      (or_last xs (onto last (last_or None (ats ls))) ∙ ap (λ (o : Option ℕ). last_or o xs) e₂ ∙ sym (last_or_append None (crowd ls) xs) ∙ sym e₁)
