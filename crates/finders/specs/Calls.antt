-- What an accepted call does to the map of a finder, and what a finder is when it is made.
use Rattle.std.specs.Prelude.{◌≡◌, ℕ, ◌+◌, min, Bool, true, cond, List, [], length, Some, None}
use Rattle.finders.specs.declared.finder.Binding.{Binding}
use Rattle.finders.specs.Lookup.{lookup}

module _ {Item : Type 0} (same : Item → Item → Bool) where
  -- x is at the place now, and every other item where it was.
  pub record Entered (before : List (Binding Item)) (x : Item) (place : ℕ) (after : List (Binding Item)) : Type 0 where
    pub places : (y : Item) → lookup same after y ≡ cond (same y x) (Some place) (lookup same before y)
    pub number : length after ≡ length before + 1

  -- x is nowhere now, and every other item where it was.
  pub record Left (before : List (Binding Item)) (x : Item) (after : List (Binding Item)) : Type 0 where
    pub places : (y : Item) → lookup same after y ≡ cond (same y x) None (lookup same before y)
    pub number : length after + 1 ≡ length before

  -- Same items are found at the same place.
  abbrev pub LookupsAgree : Type 0
  LookupsAgree = (bs : List (Binding Item)) (x y : Item) → same x y ≡ true → lookup same bs x ≡ lookup same bs y

-- A finder made over so many slots, whatever they hold: it holds nothing, and a binding fits each slot, but no more than 1,024.
pub record MadeOver {Finder Item : Type 0} (bindings : Finder → List (Binding Item)) (room : Finder → ℕ) (slots : ℕ) (f : Finder) : Type 0 where
  pub empty : bindings f ≡ []
  pub capacity : room f ≡ min slots 1024
