-- What holds of all elements of a list, or of all pairs: joined, turned round, cut and filtered.
use Rattle.std.proofs.Common.{◌≡◌, ℕ, zero, suc, Bool, true, false, cond, List, [], ◌∷◌, reverse, take, drop, filter, refl, subst, map}
use mathlib.Core.List.{reverse_aux}
use Rattle.std.specs.List.{AllByRecursion as Each}
use Rattle.std.proofs.lemmas.List.{reverse-reverse}
use Rattle.std.proofs.ByRecursion.{All-weaker, All-take, All-map}
use Rattle.std.proofs.lemmas.Bool.{and_parts, and_from, both_ways}
use Rattle.items.proofs.Turned.{all_reverse}
use Rattle.rows.specs.Questions.{every}
use Rattle.rows.specs.Promises.{Pairwise}

module _ {X : Type 0} where
  -- ---- all

  pub all_both : (P Q R : X → Type 0) → ((x : X) → P x → Q x → R x) → (xs : List X) → Each P xs → Each Q xs → Each R xs
  all_both P Q R f [] p q = tt
  all_both P Q R f (x ∷ xs) p q = (f x p.0 q.0, all_both P Q R f xs p.1 q.1)

  pub all_from_reverse : (P : X → Type 0) (xs : List X) → Each P (reverse xs) → Each P xs
  all_from_reverse P xs a = subst (Each P) (reverse-reverse xs) (all_reverse P (reverse xs) a)

  -- What holds of all that a test keeps holds of every element that passes.
  pub all_from_kept : (test : X → Bool) (P : X → Type 0) (xs : List X) → Each P (filter test xs) → Each (λ x. test x ≡ true → P x) xs
  all_from_kept test P [] a = tt
  all_from_kept test P (x ∷ xs) a = go (test x) refl (all_from_kept test P xs) a
    where
      go : (b : Bool) → test x ≡ b → (Each P (filter test xs) → Each (λ y. test y ≡ true → P y) xs) →
          Each P (cond b (x ∷ filter test xs) (filter test xs)) → Each (λ y. test y ≡ true → P y) (x ∷ xs)
      go true t behind a = (λ _. a.0, behind a.1)
      go false t behind a = (λ u. absurd (both_ways (test x) t u), behind a)

  pub all_from_every : (test : X → Bool) (xs : List X) → every test xs ≡ true → Each (λ x. test x ≡ true) xs
  all_from_every test [] t = tt
  all_from_every test (x ∷ xs) t = let both = and_parts (test x) (every test xs) t in (both.0, all_from_every test xs both.1)

  pub every_from_all : (test : X → Bool) (xs : List X) → Each (λ x. test x ≡ true) xs → every test xs ≡ true
  every_from_all test [] a = refl
  every_from_all test (x ∷ xs) a = and_from (test x) (every test xs) a.0 (every_from_all test xs a.1)

  -- ---- pairs

  pub pairwise_weaker : (R S : X → X → Type 0) → ((x y : X) → R x y → S x y) → (xs : List X) → Pairwise R xs → Pairwise S xs
  pairwise_weaker R S f [] a = tt
  pairwise_weaker R S f (x ∷ xs) a = (All-weaker (R x) (S x) (f x) xs a.0, pairwise_weaker R S f xs a.1)

  none_before : (R : X → X → Type 0) (xs : List X) → Each (λ x. Each (λ y. R y x) []) xs
  none_before R [] = tt
  none_before R (x ∷ xs) = (tt, none_before R xs)

  pairwise_reverse_onto : (R : X → X → Type 0) (xs ys : List X) → Pairwise R xs → Pairwise (λ a b. R b a) ys → Each (λ x. Each (λ y. R y x) ys) xs →
      Pairwise (λ a b. R b a) (reverse_aux xs ys)
  pairwise_reverse_onto R [] ys a b c = b
  pairwise_reverse_onto R (x ∷ xs) ys a b c =
      pairwise_reverse_onto R xs (x ∷ ys) a.1 (c.0, b) (all_both (R x) (λ z. Each (λ y. R y z) ys) _ (λ z r s. (r, s)) xs a.0 c.1)

  pub pairwise_reverse : (R : X → X → Type 0) (xs : List X) → Pairwise R xs → Pairwise (λ a b. R b a) (reverse xs)
  pairwise_reverse R xs a = pairwise_reverse_onto R xs [] a tt (none_before R xs)

  pub pairwise_drop : (R : X → X → Type 0) (n : ℕ) (xs : List X) → Pairwise R xs → Pairwise R (drop n xs)
  pairwise_drop R zero xs a = a
  pairwise_drop R (suc n) [] a = tt
  pairwise_drop R (suc n) (x ∷ xs) a = pairwise_drop R n xs a.1

  pub pairwise_take : (R : X → X → Type 0) (n : ℕ) (xs : List X) → Pairwise R xs → Pairwise R (take n xs)
  pairwise_take R zero xs a = tt
  pairwise_take R (suc n) [] a = tt
  pairwise_take R (suc n) (x ∷ xs) a = (All-take (R x) n xs a.0, pairwise_take R n xs a.1)

pub pairwise_map : {X Y : Type 0} (R : Y → Y → Type 0) (f : X → Y) (xs : List X) → Pairwise (λ a b. R (f a) (f b)) xs → Pairwise R (map f xs)
pairwise_map R f [] a = tt
pairwise_map R f (x ∷ xs) a = (All-map (R (f x)) f xs a.0, pairwise_map R f xs a.1)
