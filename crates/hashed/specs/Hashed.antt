-- What a hashed finder holds: the bindings in use, in the order of the slots.
use Rattle.std.specs.Prelude.{ℕ, List, length, Option}
use Rattle.finders.specs.declared.finder.Binding.{Binding}
use Rattle.hashed.specs.declared.slot.Entry.{Entry}
use Rattle.hashed.specs.declared.finder.HashedFinder.{HashedFinder}
use Rattle.hashed.specs.Slots.{entries, bindings_in}

module _ {Item : Type 0} where
  abbrev pub entries_of : HashedFinder Item → List (Option (Entry Item))
  entries_of f = entries f.table.slots.now

  abbrev pub bindings_of : HashedFinder Item → List (Binding Item)
  bindings_of f = bindings_in (entries_of f)

  -- One binding fits each slot.
  abbrev pub room_of : HashedFinder Item → ℕ
  room_of f = length f.table.slots.now
