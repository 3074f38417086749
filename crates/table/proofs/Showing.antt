-- What a table that stands shows of its placed row: the number of entries, the ends, the entry at a place, the place below.
use Rattle.std.proofs.Common.{◌≡◌, ℕ, zero, suc, ◌-◌, ◌<◌, ◌≤◌, eqb, List, [], ◌∷◌, ◌++◌, length, Some, None, sym, refl, ap, ◌∙◌}
use Rattle.std.proofs.lemmas.Option.{same_Some}
use Rattle.std.proofs.lemmas.List.{length-map}
use Rattle.std.proofs.lemmas.Bool.{eqb-true, eq-eqb, cond_both, cond-true}
use Rattle.links.specs.Chains.{Apart}
use Rattle.table.specs.declared.place.Place.{Place}
use Rattle.table.specs.declared.lists.Lists.{Lists}
use Rattle.table.specs.Placed.{Placed, places, at_place, placed_entry, nth_entry, place_at, place_below, nth, before}
use Rattle.table.specs.Reading.{placed_row}
use Rattle.table.specs.Groups.{group}
use Rattle.table.specs.Moves.{own_entry, lowest, highest, lower}
use Rattle.table.specs.Stands.{Sound, Stands}
use Rattle.table.proofs.Rising.{seat}
use Rattle.table.proofs.Positions.{nth_before, nth_off, before_off}
use Rattle.table.proofs.Looking.{crowd, places_are, places_apart, row_length, lowest_is, highest_is, unused_crowd, unused_entry}
use Rattle.table.proofs.Seats.{own_entry_placed, own_lower}

-- An entry's place leads to the entry, where no place comes twice.
entry_found : {T : Type 0} (row : List (Placed T)) (i p : ℕ) → Apart (places row) → place_at row i ≡ Some p → placed_entry (at_place p row) ≡ nth_entry row i
entry_found [] i p a e = refl
entry_found (x ∷ row) zero p a e = ap placed_entry (cond-true (eqb p x.place) (Some x) (at_place p row) (eq-eqb p x.place (sym (same_Some x.place p e))))
entry_found (x ∷ row) (suc i) p a e =
    cond_both (eqb p x.place) (Some x) (at_place p row) (λ r. placed_entry r ≡ nth_entry row i) (λ h. absurd (nth_off x.place (places row) i p a.0 e (eqb-true p x.place h)))
    (λ h. entry_found row i p a.1 e)

module _ {T : Type 0} (t : List (Place T)) (s : Lists) (used total : ℕ) (st : Stands t s used total) where
  pub used_is : length (placed_row t s.main.first) ≡ used
  used_is = row_length t s used total st.gs st.fs st.sound

  places_of : places (placed_row t s.main.first) ≡ crowd st.gs
  places_of = places_are t s used total st.gs st.fs st.sound

  apart : Apart (places (placed_row t s.main.first))
  apart = rw places_of (places_apart t s used total st.gs st.fs st.sound)

  pub first_is : lowest t s ≡ place_at (placed_row t s.main.first) 0
  first_is = lowest_is t s used total st.gs st.fs st.sound ∙ ap (λ (l : List ℕ). nth l 0) (sym places_of)

  pub last_is : highest t s ≡ place_at (placed_row t s.main.first) (length (placed_row t s.main.first) - 1)
  last_is =
      highest_is t s used total st.gs st.fs st.sound ∙ ap (λ (l : List ℕ). nth l (length l - 1)) (sym places_of)
      ∙ ap (λ (n : ℕ). nth (places (placed_row t s.main.first)) (n - 1)) (length-map (placed_row t s.main.first) (λ e. e.place))

  pub entry_is : (p : ℕ) → p < used → own_entry t p ≡ placed_entry (at_place p (placed_row t s.main.first))
  entry_is p lt =
      let at = seat p st.gs (st.sound.seats p lt) in
      let h : Sound t s used total (at.ls ++ group at.b (at.xs ++ p ∷ at.zs) ∷ at.rs) st.fs = rw (← at.is) st.sound in
      own_entry_placed t s used total at.ls at.b at.xs p at.zs at.rs st.fs h

  pub entry_none : (p : ℕ) → used ≤ p → None ≡ placed_entry (at_place p (placed_row t s.main.first))
  entry_none p le = ap placed_entry (sym (unused_entry t s used total st.gs st.fs st.sound p le))

  pub entry_steps : (p i : ℕ) → place_at (placed_row t s.main.first) i ≡ Some p → placed_entry (at_place p (placed_row t s.main.first)) ≡ nth_entry (placed_row t s.main.first) i
  entry_steps p i e = entry_found (placed_row t s.main.first) i p apart e

  pub below_is : (p : ℕ) → p < used → lower t p ≡ place_below p (placed_row t s.main.first)
  below_is p lt =
      let at = seat p st.gs (st.sound.seats p lt) in
      let h : Sound t s used total (at.ls ++ group at.b (at.xs ++ p ∷ at.zs) ∷ at.rs) st.fs = rw (← at.is) st.sound in
      own_lower t s used total at.ls at.b at.xs p at.zs at.rs st.fs h ∙ ap (before p) (sym (places_of ∙ ap crowd at.is))

  pub below_none : (p : ℕ) → used ≤ p → None ≡ place_below p (placed_row t s.main.first)
  below_none p le = sym (ap (before p) places_of ∙ before_off p (crowd st.gs) (unused_crowd t s used total st.gs st.fs st.sound p le))

  pub below_steps : (p i : ℕ) → place_at (placed_row t s.main.first) (suc i) ≡ Some p → place_below p (placed_row t s.main.first) ≡ place_at (placed_row t s.main.first) i
  below_steps p i e = nth_before (places (placed_row t s.main.first)) i p apart e
