-- What the slots of a hashed finder stand for, and how they are linked.
use Rattle.std.specs.Prelude.{◌≡◌, ℕ, ◌%◌, Bool, cond, List, map, length, IfSome, Some, None, Option, ◌==◌, slice_index_or}
use Rattle.std.specs.List.{filter_map, AllByRecursion as Each}
use Rattle.std.specs.Option.{option_map}
use Rattle.finders.specs.declared.finder.Binding.{Binding}
use Rattle.finders.specs.Lookup.{Apart}
use Rattle.hashed.specs.declared.slot.Entry.{Entry}
use Rattle.hashed.specs.declared.slot.Slot.{Slot}
use Rattle.hashed.specs.Chains.{Chained}

module _ {T : Type 0} where
  abbrev pub vacant_slot : Slot T
  vacant_slot = record { place = 0; held = None; link = None; head = None }

  -- The entry of a slot that is in use: the item that it holds, with its place and its mark. The others have none.
  abbrev pub entry_of : Slot T → Option (Entry T)
  entry_of s = option_map (λ h. record { binding = record { item = h.item; place = s.place }; mark = h.mark }) s.held

  abbrev pub entries : List (Slot T) → List (Option (Entry T))
  entries t = map entry_of t

  abbrev pub links : List (Slot T) → List (Option ℕ)
  links t = map (λ s. s.link) t

  abbrev pub heads : List (Slot T) → List (Option ℕ)
  heads t = map (λ s. s.head) t

  -- The bindings in use, in the order of the slots.
  abbrev pub bindings_in : List (Option (Entry T)) → List (Binding T)
  bindings_in es = filter_map (option_map (λ e. e.binding)) es

  -- The chain of a slot with this entry, of n chains: the one of the entry's mark. The slots that are not in use are a
  -- chain more, the n-th.
  abbrev pub chain_of : ℕ → Option (Entry T) → ℕ
  chain_of n None = n
  chain_of n (Some e) = e.mark % n

  -- The structure of n slots with these entries, links and heads, and `free` for the head of those not in use.
  abbrev pub Stands : ℕ → List (Option (Entry T)) → List (Option ℕ) → List (Option ℕ) → Option ℕ → Type 0
  Stands n es ls hs free = Chained n (λ i. slice_index_or (map (chain_of n) es) i n) (λ i. slice_index_or ls i None) (λ b. cond (b == n) free (slice_index_or hs b None))

  abbrev pub Sound : List (Slot T) → Option ℕ → Type 0
  Sound t free = Stands (length t) (entries t) (links t) (heads t) free

-- What the calls need to know of the items: the marks in store are theirs, and no two are the same.
pub record Lawful {T : Type 0} (same : T → T → Bool) (mark_of : T → ℕ) (es : List (Option (Entry T))) : Type 0 where
  pub marked : Each (λ o. IfSome o (λ e. e.mark ≡ mark_of e.binding.item)) es
  pub apart : Apart same (bindings_in es)
