-- When enter and leave are not refused, and what that tells.
use Rattle.std.proofs.Common.{◌≡◌, ℕ, ◌<◌, Bool, true, false, cond, leb, List, length, is_some, Some, None, Ok, Option, sym, refl, ap, ◌∙◌}
use Rattle.std.proofs.lemmas.Bool.{cond-true, cond-false, lt-leb, leb-false}
use Rattle.finders.specs.declared.finder.Binding.{Binding}
use Rattle.finders.specs.Lookup.{lookup}
use Rattle.finders.specs.Refusals.{unless_refused, enter_refusal_at, enter_refusal, leave_refusal}
use Rattle.finders.specs.declared.refusal.Refusal.TheVariants.{Full}

-- An item that is not refused is found nowhere, and there is room for it.
pub admitted : (found : Option ℕ) (held room : ℕ) → Ok tt ≡ unless_refused (enter_refusal_at found held room) → (found ≡ None) × (held < room)
admitted (Some place) held room ok = absurd cc
admitted None held room ok = (refl, by_test (leb room held) refl ok)
  where
    by_test : (t : Bool) → leb room held ≡ t → Ok tt ≡ unless_refused (cond t (Some Full) None) → held < room
    by_test true full o = absurd cc
    by_test false room-left o = leb-false room held room-left

module _ {Item : Type 0} (same : Item → Item → Bool) (bs : List (Binding Item)) (x : Item) where
  pub enters : (room : ℕ) → lookup same bs x ≡ None → length bs < room → Ok tt ≡ unless_refused (enter_refusal same bs room x)
  enters room none spare = ap unless_refused (sym (cond-false _ _ _ (ap is_some none) ∙ cond-false _ _ _ (lt-leb _ _ spare)))

  pub leaves : {place : ℕ} → lookup same bs x ≡ Some place → Ok tt ≡ unless_refused (leave_refusal same bs x)
  leaves found = ap unless_refused (sym (cond-true _ _ _ (ap is_some found)))
