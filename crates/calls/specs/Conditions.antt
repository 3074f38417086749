-- What a call needs to be accepted, in words.
use Rattle.std.specs.Prelude.{◌≡◌, ℕ, ◌≤◌}

-- A number of places that a summary may have.
pub record Sized (m : ℕ) : Type 0 where
  pub some : 1 ≤ m
  pub at_most : m ≤ 512

-- An opening over m places: room for so many in a finder that holds none.
pub record Openable (m room held : ℕ) : Type 0 where
  pub sized : Sized m
  pub fits : m ≤ room
  pub empty : held ≡ 0

-- A support that may be asked for.
pub record Supported (p q : ℕ) : Type 0 where
  pub some : 1 ≤ p
  pub at_most_all : p ≤ q
  pub bounded : q ≤ 1000000

-- Of m counters, positions that may be asked for.
pub record Ranked (m k : ℕ) : Type 0 where
  pub some : 1 ≤ k
  pub at_most_all : k ≤ m
