-- What the steps of a call do, before they are put together.
use Rattle.std.specs.Prelude.{◌≡◌, ℕ, ◌+◌, ◌<◌, Bool, false, cond, List, [], ◌∷◌, length, Some, None, Ok, Option, Result, nat_le, nat_lt}
use Rattle.rows.specs.declared.entry.Entry.{Entry}
use Rattle.finders.specs.declared.finder.Binding.{Binding}
use Rattle.finders.specs.Lookup.{lookup}
use Rattle.table.specs.Placed.{Placed}
use Rattle.calls.specs.declared.refusal.Refusal.{Refusal}
use Rattle.calls.specs.Refusals.{unless_refused, limit, if_foreign, Unless}
use Rattle.calls.specs.Foreign.{foreign_place, foreign_first}
use Rattle.calls.specs.Lookups.{with_item, without_item}
use Rattle.calls.specs.Calls.{Accepted, is_foreign}
use Rattle.counters.specs.declared.counters.Counters.{Counters}
use Rattle.summary.specs.Meaning.{reading}

-- ---- the row

-- The first entry's item and place.
abbrev pub first_binding : {T : Type 0} → List (Placed T) → Option (Binding T)
first_binding [] = None
first_binding (first ∷ row) = Some (record { item = first.entry.item; place = first.place })

module _ {T : Type 0} (same : T → T → Bool) where
  -- There is an entry, and it holds an item the same as x.
  abbrev pub entry_holds : Option (Entry T) → T → Bool
  entry_holds (Some e) x = same e.item x
  entry_holds None x = false

-- ---- what is looked at before a write

module _ {T F : Type 0} (same : T → T → Bool) (bindings : F → List (Binding T)) (lawful : F → Type 0) where
  -- Where the finder says that x is, unless that is foreign.
  abbrev pub Located : Counters T → F → T → Result (Option ℕ) Refusal → Type 0
  Located s f x r =
      lawful f →
      Unless (if_foreign (foreign_place same (reading.used s) (reading.placed s) x (lookup same (bindings f) x))) r (Unit {0}) (r ≡ Ok (lookup same (bindings f) x))

  -- Whether the first entry's item is found at its place.
  abbrev pub FirstChecked : Counters T → F → Result (Unit {0}) Refusal → Type 0
  FirstChecked s f r = lawful f → r ≡ unless_refused (if_foreign (foreign_first (reading.placed s) (lookup same (bindings f))))

module _ {T F : Type 0} (same : T → T → Bool) (bindings : F → List (Binding T)) (room : F → ℕ) (lawful : F → Type 0) where
  -- Whether an item that is not found can be taken in.
  abbrev pub NewcomerChecked : Counters T → F → Result (Unit {0}) Refusal → Type 0
  NewcomerChecked s f r =
      lawful f →
      r ≡ unless_refused (if_foreign (cond (nat_lt (reading.used s) (reading.size s)) (nat_le (room f) (length (bindings f))) (foreign_first (reading.placed s) (lookup same (bindings f)))))

  -- Whether a hit with x can be counted, and where x was found.
  abbrev pub Admitted : Counters T → F → T → Result (Option ℕ) Refusal → Type 0
  Admitted s f x r =
      Unless (limit (reading.total s) None) r (Unit {0})
      (lawful f → Unless (if_foreign (is_foreign same bindings room lawful reading s f x)) r (Unit {0}) (r ≡ Ok (lookup same (bindings f) x)))

  -- ---- the finder, written

  -- The finder f' holds so many and looks up what `find` says; it is as lawful as f was.
  pub record Finds (f f' : F) (find : T → Option ℕ) (held : ℕ) : Type 0 where
    pub finds : (y : T) → lookup same (bindings f') y ≡ find y
    pub holds : length (bindings f') ≡ held
    pub fits : room f' ≡ room f
    pub still_lawful : lawful f'

  -- An item x that is not found is bound to a place, while there is room.
  abbrev pub Bound : F → T → ℕ → F → Type 0
  Bound f x place f' =
      lawful f → lookup same (bindings f) x ≡ None → length (bindings f) < room f →
      Finds f f' (with_item same x place (lookup same (bindings f))) (length (bindings f) + 1)

  -- An item x that is not found is bound to the place of one that is, and that one leaves.
  abbrev pub Rebound : F → Binding T → T → F → Type 0
  Rebound f old x f' =
      lawful f → lookup same (bindings f) old.item ≡ Some old.place → lookup same (bindings f) x ≡ None →
      Finds f f' (with_item same x old.place (without_item same old.item (lookup same (bindings f)))) (length (bindings f))

  -- ---- a hit, counted

  -- After what is looked at before a write: an admitted hit with x, found at a place or not at all, is an accepted one.
  abbrev pub Counted : Counters T → F → T → Option ℕ → Counters T → F → Type 0
  Counted s f x found s' f' =
      lawful f → reading.total s < 4294967295 → lookup same (bindings f) x ≡ found → is_foreign same bindings room lawful reading s f x ≡ false →
      Accepted same bindings room lawful reading s f x s' f'
