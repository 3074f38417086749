-- Two facts on the bindings in use, for the ghost members of the hashed finder.
use Rattle.std.specs.Prelude.{◌≡◌, ℕ, ◌≤◌, Bool, List, [], ◌∷◌, length, IfSome, Some, None, Option}
use Rattle.std.proofs.Common.{arith}
use Rattle.std.proofs.lemmas.List.{length-map}
use Rattle.std.specs.List.{AllByRecursion as Each}
use Rattle.finders.specs.Fronts.{empty_apart}
use Rattle.hashed.specs.declared.slot.Entry.{Entry}
use Rattle.hashed.specs.declared.slot.Slot.{Slot}
use Rattle.hashed.specs.Slots.{entry_of, entries, bindings_in, Lawful}

module _ {T : Type 0} where
  -- At most one binding to a slot.
  pub bindings_within : (es : List (Option (Entry T))) → length (bindings_in es) ≤ length es
  bindings_within [] = omega arith
  bindings_within (None ∷ es) = omega (arith, bindings_within es)
  bindings_within (Some e ∷ es) = omega (arith, bindings_within es)

  pub slots_within : (t : List (Slot T)) → length (bindings_in (entries t)) ≤ length t
  slots_within t = omega (arith, bindings_within (entries t), length-map t entry_of)

  -- With no binding in use, no mark can be wrong.
  empty_marked : (mark_of : T → ℕ) (es : List (Option (Entry T))) → length (bindings_in es) ≡ 0 → Each (λ o. IfSome o (λ e. e.mark ≡ mark_of e.binding.item)) es
  empty_marked mark_of [] empty = tt
  empty_marked mark_of (None ∷ es) empty = (tt, empty_marked mark_of es empty)
  empty_marked mark_of (Some e ∷ es) empty = absurd (omega arith)

  pub empty_lawful : (same : T → T → Bool) (mark_of : T → ℕ) (es : List (Option (Entry T))) → length (bindings_in es) ≡ 0 → Lawful same mark_of es
  empty_lawful same mark_of es empty = record { marked = empty_marked mark_of es empty; apart = empty_apart same (bindings_in es) empty }
