-- Lists of places by position: the last, the one before another, and where none comes twice.
use Rattle.std.proofs.Common.{◌≡◌, ℕ, zero, suc, ◌-◌, eqb, List, [], ◌∷◌, ◌++◌, length, Some, None, sym, refl, ◌∙◌, arith}
use Rattle.std.proofs.lemmas.Option.{same_Some}
use Rattle.std.proofs.lemmas.Bool.{eqb-true, eq-eqb, cond_both, cond-true}
use Rattle.links.specs.Chains.{Off, Apart, first_or, last_or}
use Rattle.table.specs.Placed.{nth, before}

pub nth_first : (xs : List ℕ) → first_or xs None ≡ nth xs 0
nth_first [] = refl
nth_first (x ∷ xs) = refl

last_nth : (x : ℕ) (xs : List ℕ) → last_or (Some x) xs ≡ nth (x ∷ xs) (length xs)
last_nth x [] = refl
last_nth x (y ∷ ys) = last_nth y ys

pub nth_last : (xs : List ℕ) → last_or None xs ≡ nth xs (length xs - 1)
nth_last [] = refl
nth_last (x ∷ xs) = let e : length (x ∷ xs) - 1 ≡ length xs = omega arith in rw e (last_nth x xs)

-- ---- the place before p

pub before_none : (p x : ℕ) (xs : List ℕ) → Off p xs → before p (x ∷ xs) ≡ None
before_none p x [] o = refl
before_none p x (y ∷ ys) o =
    cond_both (eqb p y) (Some x) (before p (y ∷ ys)) (λ r. r ≡ None) (λ h. absurd (o.0 (sym (eqb-true p y h)))) (λ h. before_none p y ys o.1)

before_from : (p x : ℕ) (xs zs : List ℕ) → Off p xs → before p (x ∷ (xs ++ p ∷ zs)) ≡ last_or (Some x) xs
before_from p x [] zs o = cond-true (eqb p p) (Some x) (before p (p ∷ zs)) (eq-eqb p p refl)
before_from p x (y ∷ ys) zs o =
    cond_both (eqb p y) (Some x) (before p (y ∷ (ys ++ p ∷ zs))) (λ r. r ≡ last_or (Some y) ys) (λ h. absurd (o.0 (sym (eqb-true p y h)))) (λ h. before_from p y ys zs o.1)

pub before_mid : (p : ℕ) (xs zs : List ℕ) → Off p xs → Off p zs → before p (xs ++ p ∷ zs) ≡ last_or None xs
before_mid p [] zs o q = before_none p p zs q
before_mid p (x ∷ xs) zs o q = before_from p x xs zs o.1

pub before_off : (p : ℕ) (xs : List ℕ) → Off p xs → before p xs ≡ None
before_off p [] o = refl
before_off p (x ∷ xs) o = before_none p x xs o.1

-- ---- positions, where none comes twice

pub nth_off : (y : ℕ) (xs : List ℕ) (i p : ℕ) → Off y xs → nth xs i ≡ Some p → p ≡ y → ⊥
nth_off y [] i p o e q = cc
nth_off y (x ∷ xs) zero p o e q = o.0 (same_Some x p e ∙ q)
nth_off y (x ∷ xs) (suc i) p o e q = nth_off y xs i p o.1 e q

-- The place at one position less is the one before.
pub nth_before : (xs : List ℕ) (i p : ℕ) → Apart xs → nth xs (suc i) ≡ Some p → before p xs ≡ nth xs i
nth_before [] i p a e = absurd cc
nth_before (x ∷ []) i p a e = absurd cc
nth_before (x ∷ y ∷ ys) zero p a e = cond-true (eqb p y) (Some x) (before p (y ∷ ys)) (eq-eqb p y (sym (same_Some y p e)))
nth_before (x ∷ y ∷ ys) (suc i) p a e =
    cond_both (eqb p y) (Some x) (before p (y ∷ ys)) (λ r. r ≡ nth (y ∷ ys) i) (λ h. absurd (nth_off y ys i p a.1.0 e (eqb-true p y h))) (λ h. nth_before (y ∷ ys) i p a.1 e)
