-- What the counters stand for, and what a move of them is.
use Rattle.std.specs.Prelude.{◌≡◌, ℕ, ◌+◌, Bool, cond, List, length, Ok, Err, Result, nat_lt}
use Rattle.table.specs.Placed.{Placed}
use Rattle.table.specs.Reading.{placed_row}
use Rattle.table.specs.Structure.{Structure}
use Rattle.counters.specs.declared.counters.Counters.{Counters}
use Rattle.counters.specs.declared.counters.unmoved.Unmoved.{Unmoved}
use Rattle.counters.specs.declared.counters.unmoved.Unmoved.TheVariants.{NoCounter, AtLimit}

-- How many places there are.
abbrev pub size : {T : Type 0} → Counters T → ℕ
size s = length s.table.places.now

-- The placed row, read along the links from the first bucket to the last.
abbrev pub placed : {T : Type 0} → Counters T → List (Placed T)
placed s = placed_row s.table.places.now s.table.lists.main.first

-- What the links keep to, with as many counters in use as the row has entries.
abbrev pub Structured : {T : Type 0} → Counters T → Type 0
Structured s = Structure s.table.places.now s.table.lists (length (placed s)) s.total

-- The greatest total, and so the greatest count.
abbrev pub limit : ℕ
limit = 4294967295

-- Whether a move is made: there must be a counter for it, and the total below its limit.
abbrev pub moved_if : Bool → ℕ → Result (Unit {0}) Unmoved
moved_if counter total = cond counter (cond (nat_lt total limit) (Ok tt) (Err AtLimit)) (Err NoCounter)

-- One hit: the placed row is then the one given, and the total one more.
pub record Moved {T : Type 0} (before after : Counters T) (given : List (Placed T)) : Type 0 where
  pub places : size after ≡ size before
  pub row : placed after ≡ given
  pub total : after.total ≡ before.total + 1
