-- Lists of slots without repetition: they are no longer than the slots are many, and what a cut of one tells.
use Rattle.std.proofs.Common.{◌≡◌, ℕ, ◌<◌, ◌≤◌, true, false, eqb, ◌⊎◌, List, [], ◌∷◌, length, refl, inl, inr, ⊎_elim}
use Rattle.std.specs.List.{list_any, IsDistinct, AllByRecursion as Each}
use Rattle.std.proofs.lemmas.Bool.{both_ways, or_cases, eqb-true, ne_eqb}
use Rattle.std.proofs.lemmas.Map.Steps.{length-le_from_distinct_below}
use Rattle.hashed.specs.Chains.{In}
use Rattle.hashed.specs.Steps.{onto}

abbrev pub Distinct : List ℕ → Type 0
Distinct [] = Unit {0}
Distinct (x ∷ xs) = (In x xs → ⊥) × Distinct xs

any_in : (y : ℕ) (xs : List ℕ) → list_any (eqb y) xs ≡ true → In y xs
any_in y [] h = absurd (both_ways false refl h)
any_in y (x ∷ xs) h = ⊎_elim (λ e. inl (eqb-true y x e)) (λ k. inr (any_in y xs k)) (or_cases (eqb y x) (list_any (eqb y) xs) h)

all_other : (x : ℕ) (xs : List ℕ) → (In x xs → ⊥) → Each (λ y. eqb x y ≡ false) xs
all_other x [] off = tt
all_other x (y ∷ ys) off = (ne_eqb x y (λ e. off (inl e)), all_other x ys (λ m. off (inr m)))

is_distinct : (xs : List ℕ) → Distinct xs → IsDistinct eqb xs
unfolding IsDistinct
is_distinct [] d = tt
is_distinct (x ∷ xs) d = (all_other x xs d.0, is_distinct xs d.1)

-- A list of different numbers below n has at most n of them.
pub short : (n : ℕ) (xs : List ℕ) → Distinct xs → ((x : ℕ) → In x xs → x < n) → length xs ≤ n
short n xs d below = length-le_from_distinct_below xs n (is_distinct xs d) (λ y any. below y (any_in y xs any))

-- ---- a list in two parts, the front turned round

pub in_onto : (y : ℕ) (front back : List ℕ) → In y front ⊎ In y back → In y (onto front back)
in_onto y [] back m = ⊎_elim absurd (λ n. n) m
in_onto y (x ∷ front) back m =
    in_onto y front (x ∷ back) (⊎_elim (⊎_elim (λ e. inr (inl e)) inl) (λ n. inr (inr n)) m)

pub onto_in : (y : ℕ) (front back : List ℕ) → In y (onto front back) → In y front ⊎ In y back
onto_in y [] back m = inr m
onto_in y (x ∷ front) back m =
    ⊎_elim (λ n. inl (inr n)) (⊎_elim (λ e. inl (inl e)) inr) (onto_in y front (x ∷ back) m)

pub distinct_back : (front back : List ℕ) → Distinct (onto front back) → Distinct back
distinct_back [] back d = d
distinct_back (x ∷ front) back d = (distinct_back front (x ∷ back) d).1

pub distinct_parts : (front back : List ℕ) → Distinct (onto front back) → (y : ℕ) → In y front → In y back → ⊥
distinct_parts [] back d y m n = m
distinct_parts (x ∷ front) back d y m n =
    ⊎_elim
    (λ (e : y ≡ x). (distinct_back front (x ∷ back) d).0 (rw e at n))
    (λ (m : In y front). distinct_parts front (x ∷ back) d y m (inr n))
    m
