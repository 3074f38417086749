-- What a search through bindings answers.
use Rattle.std.specs.Prelude.{◌≡◌, ℕ, ◌<◌, Bool, true, List, length, Some, slice_index_or}
use Rattle.finders.specs.declared.finder.Binding.{Binding}
use Rattle.finders.specs.Lookup.{lookup}

-- The binding at the index i is the one that the look-up of x finds.
pub record FoundAt {Item : Type 0} (same : Item → Item → Bool) (bs : List (Binding Item)) (x : Item) (i : ℕ) : Type 0 where
  pub inside : i < length bs
  pub hits : (d : Binding Item) → same x (slice_index_or bs i d).item ≡ true
  pub reads : (d : Binding Item) → lookup same bs x ≡ Some (slice_index_or bs i d).place
