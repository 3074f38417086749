-- What the moves of counters share: when a hit is made, and the table and the row after its steps.
use Rattle.std.proofs.Common.{◌≡◌, ℕ, ◌+◌, ◌<◌, ◌≤◌, ltb, List, [], ◌∷◌, length, Some, None, Ok, Err, sym, refl, ◌∙◌, arith}
use mathlib.Core.Logic.{∥∥₁_elim}
use Rattle.std.proofs.lemmas.Bool.{lt-ltb, le-ltb, cond-true, cond-false}
use Rattle.std.proofs.Props.{props}
use Rattle.table.specs.declared.place.Place.{Place}
use Rattle.table.specs.declared.lists.Lists.{Lists}
use Rattle.table.specs.Placed.{Placed, raised, entered, overtaken, at_place, off_place, place_at}
use Rattle.table.specs.Fields.{owner_in, value_in}
use Rattle.table.specs.Reading.{placed_row}
use Rattle.table.specs.Moves.{lowest}
use Rattle.table.specs.Stands.{Stands}
use Rattle.table.proofs.Moving.{Shows, raise_shows, enter_shows, replace_shows, count_under, lowest_used}
use Rattle.table.proofs.Showing.{used_is, first_is}
use Rattle.counters.specs.declared.counters.Counters.{Counters}
use Rattle.counters.specs.declared.counters.unmoved.Unmoved.TheVariants.{NoCounter, AtLimit}
use Rattle.counters.specs.Meaning.{moved_if, placed, limit}
use Rattle.counters.specs.Steps.{count_at, Lifted, Seated, Overtaken}

-- ---- when a hit is made

pub made : (a b a' b' total : ℕ) → a ≡ a' → b ≡ b' → a' < b' → total < limit → Ok tt ≡ moved_if (ltb a b) total
made a b a' b' total ea eb h k =
    sym (cond-true (ltb a b) _ (Err NoCounter) (lt-ltb a b (omega arith)) ∙ cond-true (ltb total limit) (Ok tt) (Err AtLimit) (lt-ltb total limit k))

pub no_counter : (a b a' b' total : ℕ) → a ≡ a' → b ≡ b' → b' ≤ a' → Err NoCounter ≡ moved_if (ltb a b) total
no_counter a b a' b' total ea eb h = sym (cond-false (ltb a b) _ (Err NoCounter) (le-ltb a b (omega arith)))

pub at_limit : (a b a' b' total : ℕ) → a ≡ a' → b ≡ b' → a' < b' → limit ≤ total → Err AtLimit ≡ moved_if (ltb a b) total
at_limit a b a' b' total ea eb h k =
    sym (cond-true (ltb a b) _ (Err NoCounter) (lt-ltb a b (omega arith)) ∙ cond-false (ltb total limit) (Ok tt) (Err AtLimit) (le-ltb total limit k))

module _ {T : Type 0} where
  -- The counters in use are as many as the row has entries.
  pub used_of : (s : Counters T) → length (placed s) ≡ s.used
  used_of s = ∥∥₁_elim s.sound (hlevel props) (λ st. used_is _ _ _ _ st)

  pub count_of : (s : Counters T) (p : ℕ) → p < s.used → value_in s.table.places.now (owner_in s.table.places.now p) ≤ s.total
  count_of s p lt = ∥∥₁_elim s.sound (hlevel props) (λ st. count_under _ _ _ _ p st lt)

  pub lowest_of : (s : Counters T) (p : ℕ) → lowest s.table.places.now s.table.lists ≡ Some p → p < s.used
  lowest_of s p e = ∥∥₁_elim s.sound (hlevel props) (λ st. lowest_used _ _ _ _ p st e)

  -- Without a lowest counter there is none.
  empty : (row : List (Placed T)) → place_at row 0 ≡ None → length row ≤ 0
  empty [] e = omega arith
  empty (x ∷ row) e = absurd cc

  pub none_of : (s : Counters T) → lowest s.table.places.now s.table.lists ≡ None → length (placed s) ≤ 0
  none_of s e = ∥∥₁_elim s.sound (hlevel props) (λ st. empty (placed s) (sym (first_is _ _ _ _ st) ∙ e))

  -- ---- the moves

  module _ (t t' : List (Place T)) (s s' : Lists) (used total : ℕ) where
    pub raise_made : (p : ℕ) → Stands t s used total → p < used → Lifted t t' s s' p → Shows t' s' used (total + 1) (raised (at_place p (placed_row t s.main.first)) (off_place p (placed_row t s.main.first)))
    raise_made p st lt l = raise_shows t l.between t' s l.ends s' used total p (count_at t p + 1) l.after st lt l.out refl l.back

    pub enter_made : (x : T) → Stands t s used total → used < length t → Seated t t' s s' used x → Shows t' s' (used + 1) (total + 1) (entered used x (placed_row t s.main.first))
    enter_made x st lt put = enter_shows t t' s s' used total x st lt put

    pub replace_made : (p : ℕ) (x : T) → Stands t s used total → lowest t s ≡ Some p → Overtaken t t' s s' p x → Shows t' s' used (total + 1) (overtaken x (placed_row t s.main.first))
    replace_made p x st el o =
        replace_shows t o.between t' s o.ends s' used total p (count_at t p + 1) (count_at t p) o.after x st el o.out refl refl o.back
