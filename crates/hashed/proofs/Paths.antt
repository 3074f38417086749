-- Paths through links: where one begins settles it, so it never comes back to a slot.
use Rattle.std.proofs.Common.{◌≡◌, ℕ, zero, suc, ◌<◌, ◌≤◌, List, [], ◌∷◌, length, Some, None, Option, refl, ap, ◌∙◌, inl, inr, ⊎_elim, arith}
use Rattle.hashed.specs.Chains.{In, Path}
use Rattle.hashed.specs.Steps.{onto}
use Rattle.hashed.proofs.Lists.{Distinct}

module _ (link : ℕ → Option ℕ) where
  pub path_length : (from : Option ℕ) (xs ys : List ℕ) → Path link from xs → Path link from ys → length xs ≡ length ys
  path_length from [] [] p q = refl
  path_length from [] (y ∷ ys) p q = cc
  path_length from (x ∷ xs) [] p q = cc
  path_length from (x ∷ xs) (y ∷ ys) p q =
      let e : y ≡ x = cc in
      ap suc (path_length (link x) xs ys p.1 (rw e at q.1))

  -- What is left of a path behind one of its slots.
  rest : (x : ℕ) (from : Option ℕ) (xs : List ℕ) → In x xs → Path link from xs → (ys : List ℕ) × Path link (link x) ys × (length ys < length xs)
  rest x from [] m p = absurd m
  rest x from (y ∷ ys) m p =
      ⊎_elim
      (λ (e : x ≡ y). (ys, rw e p.1, omega arith))
      (λ (m : In x ys). let r = rest x (link y) ys m p.1 in (r.0, r.1, omega (arith, r.2)))
      m

  pub path_distinct : (from : Option ℕ) (xs : List ℕ) → Path link from xs → Distinct xs
  path_distinct from [] p = tt
  path_distinct from (x ∷ xs) p = (
    λ m. let r = rest x (link x) xs m p.1 in omega (arith, path_length (link x) xs r.0 p.1 r.1, r.2),
    path_distinct (link x) xs p.1,
  )

  -- How many slots the links go through, at most `most`.
  abbrev pub steps : ℕ → Option ℕ → ℕ
  steps zero from = 0
  steps (suc most) None = 0
  steps (suc most) (Some i) = suc (steps most (link i))

  pub steps_path : (most : ℕ) (from : Option ℕ) (xs : List ℕ) → Path link from xs → length xs ≤ most → steps most from ≡ length xs
  steps_path zero from [] p le = refl
  steps_path zero from (x ∷ xs) p le = absurd (omega arith)
  steps_path (suc most) from [] p le = ap (steps (suc most)) p
  steps_path (suc most) from (x ∷ xs) p le =
      ap (steps (suc most)) p.0 ∙ ap suc (steps_path most (link x) xs p.1 (omega arith))

module _ (link link' : ℕ → Option ℕ) where
  -- Other links take the same path if they agree at its slots.
  pub path_kept : (from : Option ℕ) (xs : List ℕ) → ((x : ℕ) → In x xs → link' x ≡ link x) → Path link from xs → Path link' from xs
  path_kept from [] same p = p
  path_kept from (x ∷ xs) same p =
      (p.0, rw (same x (inl refl)) (path_kept (link x) xs (λ y m. same y (inr m)) p.1))

  -- And if they agree at the front, they take what the back becomes behind it.
  pub path_onto : (front back back' : List ℕ) → ((from : Option ℕ) → Path link from back → Path link' from back') → ((x : ℕ) → In x front → link' x ≡ link x) → (from : Option ℕ) → Path link from (onto front back) → Path link' from (onto front back')
  path_onto [] back back' on same from p = on from p
  path_onto (x ∷ front) back back' on same from p =
      path_onto front (x ∷ back) (x ∷ back') (λ o q. (q.0, rw (same x (inl refl)) (on (link x) q.1))) (λ y m. same y (inr m)) from p
