-- What is told of a watched hit from the item that was hit and the last of the first k positions.
use Rattle.std.specs.Prelude.{ℕ, Bool, true, false, cond, List, [], ◌∷◌, take, Some, None, Option}
use Rattle.rows.specs.declared.entry.Entry.{Entry}
use Rattle.rows.specs.Questions.{by_position, listed}

module _ {T : Type 0} where
  -- The item of the last of some entries.
  abbrev pub last_item : List (Entry T) → Option T
  last_item [] = None
  last_item (e ∷ []) = Some e.item
  last_item (e ∷ f ∷ es) = last_item (f ∷ es)

  -- The form that an entry holds, or that of the item x where there is none.
  abbrev pub form_of : Option (Entry T) → T → T
  form_of (Some e) x = e.item
  form_of None x = x

  -- The form of the item that was hit, if that is among the first positions now and was not before.
  abbrev pub entered_by : Bool → Bool → T → Option T
  entered_by true now form = None
  entered_by false now form = cond now (Some form) None

  -- The item, unless it is among some entries.
  abbrev pub left_by : (T → T → Bool) → Option T → List (Entry T) → Option T
  left_by same (Some x) es = cond (listed same x es) None (Some x)
  left_by same None es = None

  -- A hit with x, whose entry holds the form given, between two rows.
  abbrev pub told : (T → T → Bool) → ℕ → T → T → List (Entry T) → List (Entry T) → Option T × Option T
  told same k x form before after = (
    entered_by (listed same x (take k (by_position before))) (listed same x (take k (by_position after))) form,
    left_by same (last_item (take k (by_position before))) (take k (by_position after)),
  )
