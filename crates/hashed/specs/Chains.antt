-- Chains of slots: what the links and the heads of a hashed finder must keep to.
use Rattle.std.specs.Prelude.{◌≡◌, ℕ, ◌<◌, ◌⊎◌, List, [], ◌∷◌, Some, None, Option}

-- The slot i is in the list.
abbrev pub In : ℕ → List ℕ → Type 0
In i [] = ⊥
In i (j ∷ js) = (i ≡ j) ⊎ In i js

-- The links, beginning with `from`, go through the slots of the list in order, and end behind the last.
abbrev pub Path : (ℕ → Option ℕ) → Option ℕ → List ℕ → Type 0
Path link from [] = from ≡ None
Path link from (i ∷ is) = (from ≡ Some i) × Path link (link i) is

-- Of n slots each is in exactly one chain, its own. A chain is a list that the links go through from its head, so it
-- has no cycle.
pub record Chained (n : ℕ) (own : ℕ → ℕ) (link head : ℕ → Option ℕ) : Type 0 where
  pub chain : ℕ → List ℕ
  pub linked : (b : ℕ) → Path link (head b) (chain b)
  pub inside : (b i : ℕ) → In i (chain b) → (i < n) × (own i ≡ b)
  pub whole : (i : ℕ) → i < n → In i (chain (own i))
