-- Why a summary says no: the number of each refusal, and when each comes.
use Rattle.std.specs.Prelude.{◌≡◌, ℕ, Bool, cond, ◌||◌, Some, None, Ok, Err, Option, Result, ◌==◌, nat_le, nat_lt}
use Rattle.calls.specs.declared.refusal.Refusal.{Refusal}
use Rattle.calls.specs.declared.refusal.Refusal.TheVariants.{Size, Capacity, Occupied, Limit, Rank, Support, Lines, Foreign}

abbrev pub number_of : Refusal → ℕ
number_of Size = 1
number_of Capacity = 2
number_of Occupied = 3
number_of Limit = 4
number_of Rank = 5
number_of Support = 6
number_of Lines = 7
number_of Foreign = 8

-- The answer of a call that has nothing to tell but its refusal.
abbrev pub unless_refused : Option Refusal → Result (Unit {0}) Refusal
unless_refused None = Ok tt
unless_refused (Some why) = Err why

-- A summary is opened over 1 to 512 places, with a finder that has room for as many items and holds none.
abbrev pub open_refusal : ℕ → ℕ → ℕ → Option Refusal
open_refusal m room held =
    cond (m == 0 || nat_lt 512 m) (Some Size)
    (cond (nat_lt room m) (Some Capacity)
    (cond (nat_lt 0 held) (Some Occupied) None))

-- Each of these says when its refusal comes; what else a call may be refused for comes after it.

-- No hit is accepted after the first 4,294,967,295.
abbrev pub limit : ℕ → Option Refusal → Option Refusal
limit n next = cond (nat_le 4294967295 n) (Some Limit) next

-- Of m counters, 1 to m positions may be asked for.
abbrev pub rank : ℕ → ℕ → Option Refusal → Option Refusal
rank m k next = cond (k == 0 || nat_lt m k) (Some Rank) next

-- A support p/q has 1 ≤ p ≤ q ≤ 1,000,000.
abbrev pub support : ℕ → ℕ → Option Refusal → Option Refusal
support p q next = cond (p == 0 || (nat_lt q p || nat_lt 1000000 q)) (Some Support) next

-- A list of so many lines fits into no fewer.
abbrev pub length_refusal : ℕ → ℕ → Option Refusal
length_refusal listed supplied = cond (nat_lt supplied listed) (Some Lines) None

abbrev pub if_foreign : Bool → Option Refusal
if_foreign foreign = cond foreign (Some Foreign) None

-- If there is a refusal, it is the answer, and `kept` holds; otherwise the call goes on to `done`.
abbrev pub Unless : {Answer : Type 0} → Option Refusal → Result Answer Refusal → Type 0 → Type 0 → Type 0
Unless (Some why) r kept done = (r ≡ Err why) × kept
Unless None r kept done = done
