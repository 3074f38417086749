-- When two items count as one.
use Rattle.std.specs.Prelude.{◌≡◌, Bool, true}

-- Sameness is an equivalence: of an item with itself, both ways round, and along a third.
pub record Equivalence {Item : Type 0} (same : Item → Item → Bool) : Type 0 where
  pub reflexive : (x : Item) → same x x ≡ true
  pub symmetric : (x y : Item) → same x y ≡ true → same y x ≡ true
  pub transitive : (x y z : Item) → same x y ≡ true → same y z ≡ true → same x z ≡ true
