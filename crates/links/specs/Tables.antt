-- Reading a field of a table's places, and editing one place: both say something of numbers past the table's end too.
use Rattle.std.specs.Prelude.{ℕ, zero, suc, List, [], ◌∷◌, Some, None, Option}

-- What f reads at the place i; d past the table's end.
abbrev pub read : {A M : Type 0} → (A → M) → M → List A → ℕ → M
read f d [] i = d
read f d (x ∷ t) zero = f x
read f d (x ∷ t) (suc i) = read f d t i

-- The table with e done at the place i; past its end there is nothing to do.
abbrev pub edit : {A : Type 0} → (A → A) → ℕ → List A → List A
edit e i [] = []
edit e zero (x ∷ t) = e x ∷ t
edit e (suc i) (x ∷ t) = x ∷ edit e i t

-- The table with e done at the place that a link leads to.
abbrev pub edit_at : {A : Type 0} → Option ℕ → (A → A) → List A → List A
edit_at None e t = t
edit_at (Some i) e t = edit e i t
