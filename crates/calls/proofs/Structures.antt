-- What the structure of a table gives of its placed row: its places are the first ones.
use Rattle.std.proofs.Common.{◌≡◌, ℕ, Bool, true, false, cond, eqb, ltb, List, [], ◌∷◌, refl, ◌∙◌, arith}
use Rattle.rows.specs.Row.{one_if}
use Rattle.table.specs.declared.place.Place.{Place}
use Rattle.table.specs.declared.lists.Lists.{Lists}
use Rattle.table.specs.Placed.{places}
use Rattle.table.specs.Reading.{placed_row}
use Rattle.table.specs.Structure.{Structure, times as times_of}
use Rattle.calls.specs.Reading.{times, FirstPlaces}

once_is : (b : Bool) → cond b 1 0 ≡ one_if b
once_is true = refl
once_is false = refl

times_is : (i : ℕ) (ps : List ℕ) → times i ps ≡ times_of i ps
times_is i [] = refl
times_is i (p ∷ ps) = omega (arith, once_is (eqb i p), times_is i ps)

module _ {T : Type 0} (t : List (Place T)) (s : Lists) (used total : ℕ) (structure : Structure t s used total) where
  pub first_places : FirstPlaces used (places (placed_row t s.main.first))
  first_places p = times_is p (places (placed_row t s.main.first)) ∙ structure.attached p ∙ once_is (ltb p used)
