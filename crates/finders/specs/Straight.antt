-- What a straight finder holds: the bindings in the first `held` of its slots.
use Rattle.std.specs.Prelude.{ℕ, List, length, take}
use Rattle.finders.specs.declared.finder.Binding.{Binding}
use Rattle.finders.specs.declared.straight.StraightFinder.{StraightFinder}

abbrev pub bindings_of : {Item : Type 0} → StraightFinder Item → List (Binding Item)
bindings_of f = take f.held f.slots.now

-- One binding fits each slot.
abbrev pub room_of : {Item : Type 0} → StraightFinder Item → ℕ
room_of f = length f.slots.now
