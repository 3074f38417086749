-- Places that are linked both ways, over any two functions `next` and `prev` that give the links of a place.
use Rattle.std.specs.Prelude.{◌≡◌, ℕ, ◌<◌, List, [], ◌∷◌, Some, Option, ◌≢◌}
use Rattle.std.specs.List.{AllByRecursion as Each}

-- The link to the first of the places; `after` if there is none.
abbrev pub first_or : List ℕ → Option ℕ → Option ℕ
first_or [] after = after
first_or (x ∷ xs) after = Some x

-- The link to the last of the places; `before` if there is none.
abbrev pub last_or : Option ℕ → List ℕ → Option ℕ
last_or before [] = before
last_or before (x ∷ xs) = last_or (Some x) xs

-- The places xs are linked both ways in this order: `before` is the link back from the first, `after` the link on from the last.
abbrev pub Chain : (ℕ → Option ℕ) → (ℕ → Option ℕ) → Option ℕ → List ℕ → Option ℕ → Type 0
Chain next prev before [] after = Unit {0}
Chain next prev before (x ∷ xs) after = (prev x ≡ before) × (next x ≡ first_or xs after) × Chain next prev (Some x) xs after

-- y is none of xs.
abbrev pub Off : ℕ → List ℕ → Type 0
Off y xs = Each (λ x. x ≢ y) xs

-- No place comes twice.
abbrev pub Apart : List ℕ → Type 0
Apart [] = Unit {0}
Apart (x ∷ xs) = Off x xs × Apart xs

-- None of xs is one of ys.
abbrev pub Cross : List ℕ → List ℕ → Type 0
Cross xs ys = Each (λ x. Off x ys) xs

-- Every place lies below m.
abbrev pub Within : ℕ → List ℕ → Type 0
Within m xs = Each (λ x. x < m) xs
