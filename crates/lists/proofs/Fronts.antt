-- Lists from the front: what is first behind i elements, and the front with one element more.
use Rattle.std.proofs.Common.{◌≡◌, ℕ, zero, suc, ◌+◌, ◌<◌, ◌≤◌, List, [], ◌∷◌, ◌++◌, length, get_or, take, drop, Some, None, Option, sym, refl, ap, ◌∙◌, le_of_suc-le-suc, not-suc-le-zero, add-one, arith}

abbrev pub first : {X : Type 0} → List X → Option X
first [] = None
first (x ∷ xs) = Some x

-- x is the element of the list behind i others.
pub record Next {X : Type 0} (xs : List X) (i : ℕ) (x : X) : Type 0 where
  pub below : i < length xs
  pub rest : drop i xs ≡ x ∷ drop (i + 1) xs
  pub front : take (i + 1) xs ≡ take i xs ++ x ∷ []

module _ {X : Type 0} where
  pub first_none : (xs : List X) (i : ℕ) → first (drop i xs) ≡ None → length xs ≤ i
  first_none [] i e = omega arith
  first_none (x ∷ xs) zero e = absurd cc
  first_none (x ∷ xs) (suc i) e = let l = first_none xs i e in omega arith

  pub first_get_or : (xs : List X) (i : ℕ) (d : X) → i < length xs → first (drop i xs) ≡ Some (get_or xs i d)
  first_get_or [] i d l = absurd (not-suc-le-zero l)
  first_get_or (x ∷ xs) zero d l = refl
  first_get_or (x ∷ xs) (suc i) d l = first_get_or xs i d (le_of_suc-le-suc l)

  parts : (xs : List X) (i : ℕ) (x : X) → first (drop i xs) ≡ Some x → (i < length xs) × (drop i xs ≡ x ∷ drop (suc i) xs) × (take (suc i) xs ≡ take i xs ++ x ∷ [])
  parts [] zero x e = absurd cc
  parts [] (suc i) x e = absurd cc
  parts (y ∷ xs) zero x e = let same : y ≡ x = cc in (omega arith, ap (λ z. z ∷ xs) same, ap (λ z. z ∷ []) same)
  parts (y ∷ xs) (suc i) x e = let p = parts xs i x e in let l = p.0 in (omega arith, p.1, ap (λ r. y ∷ r) p.2)

  pub next : (xs : List X) (i : ℕ) (x : X) → first (drop i xs) ≡ Some x → Next xs i x
  next xs i x e = let p = parts xs i x e in record { below = p.0; rest = rw add-one p.1; front = rw add-one p.2 }

  -- There is an element behind fewer than all.
  pub reached : (xs : List X) (i : ℕ) → i < length xs → (x : X) × Next xs i x
  reached [] i l = absurd (not-suc-le-zero l)
  reached (x ∷ xs) i l = (get_or (x ∷ xs) i x, next (x ∷ xs) i (get_or (x ∷ xs) i x) (first_get_or (x ∷ xs) i x l))

  -- What is left behind n elements begins with x.
  pub splits : (xs : List X) (n : ℕ) (x : X) (rest : List X) → x ∷ rest ≡ drop n xs → Next xs n x × (rest ≡ drop (n + 1) xs)
  splits xs n x rest e = let at = next xs n x (ap first (sym e)) in (at, ap (λ ys. drop 1 ys) (e ∙ at.rest))
