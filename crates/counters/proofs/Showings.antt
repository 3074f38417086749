-- What the links say of a table that stands is what the placed row says.
use Rattle.std.proofs.Common.{◌≡◌, ℕ, ◌+◌, ◌-◌, ◌<◌, ◌≤◌, length, Some, None, add-one, sym}
use mathlib.Core.Logic.{∥∥₁_elim}
use Rattle.std.proofs.Props.{props}
use Rattle.table.specs.Moves.{lowest, highest, lower, own_entry}
use Rattle.table.specs.Placed.{at_place, placed_entry, nth_entry, place_at, place_below}
use Rattle.table.proofs.Showing.{first_is, last_is, entry_is, entry_none, entry_steps, below_is, below_none, below_steps}
use base.Stored.{Coded, Coded-set}
use Rattle.counters.specs.declared.counters.Counters.{Counters}
use Rattle.counters.specs.Meaning.{placed}

module _ {T : Type 0} (s : Counters T) where
  pub lowest_place : place_at (placed s) 0 ≡ lowest s.table.places.now s.table.lists
  lowest_place = ∥∥₁_elim s.sound (hlevel props) (λ st. sym (first_is _ _ _ _ st))

  pub highest_place : place_at (placed s) (length (placed s) - 1) ≡ highest s.table.places.now s.table.lists
  highest_place = ∥∥₁_elim s.sound (hlevel props) (λ st. sym (last_is _ _ _ _ st))

  pub lower_place : (p : ℕ) → p < s.used → lower s.table.places.now p ≡ place_below p (placed s)
  lower_place p lt = ∥∥₁_elim s.sound (hlevel props) (λ st. below_is _ _ _ _ st p lt)

  pub no_lower_place : (p : ℕ) → s.used ≤ p → None ≡ place_below p (placed s)
  no_lower_place p past = ∥∥₁_elim s.sound (hlevel props) (λ st. below_none _ _ _ _ st p past)

  -- What is right below a position's place is the position below.
  pub one_below : (p i : ℕ) → place_at (placed s) (i + 1) ≡ Some p → place_below p (placed s) ≡ place_at (placed s) i
  one_below p i e = ∥∥₁_elim s.sound (hlevel props) (λ st. below_steps _ _ _ _ st p i (rw add-one at e))

module _ {T : Type 0} (c : Coded T) (s : Counters T) where
  pub entry_there : (p : ℕ) → p < s.used → own_entry s.table.places.now p ≡ placed_entry (at_place p (placed s))
  entry_there p lt = ∥∥₁_elim s.sound (hlevel (props, Coded-set c)) (λ st. entry_is _ _ _ _ st p lt)

  pub no_entry : (p : ℕ) → s.used ≤ p → None ≡ placed_entry (at_place p (placed s))
  no_entry p past = ∥∥₁_elim s.sound (hlevel (props, Coded-set c)) (λ st. entry_none _ _ _ _ st p past)

  pub entry_at_position : (p i : ℕ) → place_at (placed s) i ≡ Some p → placed_entry (at_place p (placed s)) ≡ nth_entry (placed s) i
  entry_at_position p i e = ∥∥₁_elim s.sound (hlevel (props, Coded-set c)) (λ st. entry_steps _ _ _ _ st p i e)
