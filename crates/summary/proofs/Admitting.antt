-- What a summary knows of its own row, and when the place that a finder gives is foreign.
use Rattle.std.proofs.Common.{◌≡◌, ℕ, ◌+◌, ◌<◌, ◌≤◌, Bool, true, false, cond, not, eqb, ltb, leb, List, [], ◌∷◌, length, Some, None, Option, refl, ap, ◌∙◌, arith}
use Rattle.std.proofs.lemmas.Bool.{both_ways, or_from, lt-leb, ltb-true}
use Rattle.calls.proofs.Stepping.{one_counted}
use Rattle.rows.specs.Row.{one_if}
use Rattle.table.specs.Placed.{Placed, places, at_place, placed_entry}
use Rattle.counters.specs.declared.counters.Counters.{Counters}
use Rattle.counters.specs.Meaning.{placed}
use Rattle.counters.proofs.Structures.{structured}
use Rattle.calls.specs.Reading.{times, FirstPlaces, Reliable}
use Rattle.calls.specs.Foreign.{holds, foreign_place}
use Rattle.calls.proofs.Structures.{first_places}
use Rattle.summary.specs.Meaning.{reading, Structured}
use Rattle.summary.specs.Steps.{entry_holds}

-- ---- the row of a summary

pub seated : {T : Type 0} (s : Counters T) → FirstPlaces (length (placed s)) (places (placed s))
seated s = first_places s.table.places.now s.table.lists (length (placed s)) s.total (structured s)

pub reliable : {T : Type 0} → Reliable {T = T} reading Structured
reliable = record { used = λ s. refl; seated = seated; structured = structured }

-- ---- places

module _ {T : Type 0} where
  -- A place that has an entry comes.
  comes : (p : ℕ) (row : List (Placed T)) (e : Placed T) → at_place p row ≡ Some e → 1 ≤ times p (places row)
  comes p [] e is = absurd cc
  comes p (f ∷ row) e is = go (eqb p f.place) refl (comes p row e) is
    where
      go : (b : Bool) → eqb p f.place ≡ b → (at_place p row ≡ Some e → 1 ≤ times p (places row)) → cond b (Some f) (at_place p row) ≡ Some e → 1 ≤ one_if (eqb p f.place) + times p (places row)
      go true t behind is = omega (arith, ap one_if t)
      go false t behind is = omega (arith, behind is)

  -- A place whose entry holds a same item is not foreign, and any other is.
  module _ (same : T → T → Bool) (row : List (Placed T)) (first : FirstPlaces (length row) (places row)) (x : T) where
    pub own_place : (p : ℕ) (o : Option (Placed T)) → at_place p row ≡ o → entry_holds same (placed_entry o) x ≡ true → foreign_place same (length row) row x (Some p) ≡ false
    own_place p None is t = absurd (both_ways false refl t)
    own_place p (Some e) is t =
        let below : p < length row = ltb-true p (length row) (one_counted (ltb p (length row)) (omega (arith, comes p row e is, first p))) in
        or_from (leb (length row) p) (not (holds same (at_place p row) x)) (lt-leb (length row) p below) (ap (λ o. not (holds same o x)) is ∙ ap not t)
