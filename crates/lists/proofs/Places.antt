-- The row by place: how long it is, and its lowest entry.
use Rattle.std.proofs.Common.{◌≡◌, ℕ, List, [], ◌∷◌, length, Some, None, Option, refl}
use Rattle.std.proofs.lemmas.List.{length-map}
use Rattle.rows.specs.declared.entry.Entry.{Entry}
use Rattle.rows.specs.Questions.{first_count}
use Rattle.table.specs.Placed.{Placed, entries, nth_entry, place_at}

module _ {T : Type 0} where
  pub length_entries : (row : List (Placed T)) → length (entries row) ≡ length row
  length_entries row = length-map row (λ e. e.entry)

  pub no_lowest : (row : List (Placed T)) → place_at row 0 ≡ None → nth_entry row 0 ≡ None
  no_lowest [] e = refl
  no_lowest (x ∷ row) e = absurd cc

  pub lowest_of : (row : List (Placed T)) (e : Option (Entry T)) (r : ℕ) → e ≡ nth_entry row 0 → (e ≡ None → r ≡ 0) → ((x : Entry T) → e ≡ Some x → r ≡ x.count) → r ≡ first_count 0 (entries row)
  lowest_of [] e r is none some = none is
  lowest_of (x ∷ row) e r is none some = some x.entry is
