-- Why a finder says no: the number of each refusal, and when each comes.
use Rattle.std.specs.Prelude.{ℕ, Bool, cond, ◌||◌, List, length, is_some, Some, None, Ok, Err, Option, Result, ◌==◌, nat_le, nat_lt}
use Rattle.finders.specs.declared.refusal.Refusal.{Refusal}
use Rattle.finders.specs.declared.refusal.Refusal.TheVariants.{Held, Full, Absent, Slots}
use Rattle.finders.specs.declared.finder.Binding.{Binding}
use Rattle.finders.specs.Lookup.{lookup}

abbrev pub number_of : Refusal → ℕ
number_of Held = 12
number_of Full = 13
number_of Absent = 14
number_of Slots = 15

-- The answer of a call that has nothing to tell but its refusal.
abbrev pub unless_refused : Option Refusal → Result Unit Refusal
unless_refused None = Ok tt
unless_refused (Some why) = Err why

-- A finder is made over 1 to 1,024 slots.
abbrev pub make_refusal : ℕ → Option Refusal
make_refusal slots = cond (slots == 0 || nat_lt 1024 slots) (Some Slots) None

-- An item is not entered where it is found already; then, not above the capacity.
abbrev pub enter_refusal_at : Option ℕ → ℕ → ℕ → Option Refusal
enter_refusal_at found held room = cond (is_some found) (Some Held) (cond (nat_le room held) (Some Full) None)

module _ {Item : Type 0} (same : Item → Item → Bool) where
  abbrev pub enter_refusal : List (Binding Item) → ℕ → Item → Option Refusal
  enter_refusal bs room x = enter_refusal_at (lookup same bs x) (length bs) room

  -- Only what is held can leave.
  abbrev pub leave_refusal : List (Binding Item) → Item → Option Refusal
  leave_refusal bs x = cond (is_some (lookup same bs x)) None (Some Absent)
