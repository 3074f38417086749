-- m places below m, none twice, are all of them: each comes once.
use Rattle.std.proofs.Common.{◌≡◌, ℕ, zero, suc, ◌+◌, ◌<◌, ◌≤◌, cond, eqb, ltb, List, [], ◌∷◌, length, sym, refl, ◌∙◌, ⊎_elim, arith, inl, inr}
use Rattle.std.proofs.lemmas.Bool.{eqb-true, cond_both, cases_lt, cond-true, cond-false, lt-ltb, le-ltb, eq-eqb, ne_eqb, cases_order}
use Rattle.std.proofs.ByRecursion.{All-weaker}
use Rattle.links.specs.Chains.{Off, Apart, Within}
use Rattle.table.specs.Structure.{times, once}

-- ---- one place

times_off : (c : ℕ) (xs : List ℕ) → Off c xs → times c xs ≡ 0
times_off c [] o = refl
times_off c (x ∷ xs) o =
    let r = times_off c xs o.1 in
    omega (arith, cond-false {A = ℕ} (eqb c x) 1 0 (ne_eqb c x (λ e. o.0 (sym e))))

times_most : (c : ℕ) (xs : List ℕ) → Apart xs → times c xs ≤ 1
times_most c [] a = omega arith
times_most c (x ∷ xs) a =
    let r = times_most c xs a.1 in
    cond_both (eqb c x) 1 0 (λ n. n + times c xs ≤ 1)
    (λ e. let q : x ≡ c = sym (eqb-true c x e) in let o : Off c xs = rw (← q) a.0 in let z = times_off c xs o in omega arith)
    (λ e. omega arith)

-- ---- all places below n together

abbrev total : ℕ → List ℕ → ℕ
total zero xs = 0
total (suc n) xs = times n xs + total n xs

total_none : (n : ℕ) → total n [] ≡ 0
total_none zero = refl
total_none (suc n) = let r = total_none n in omega arith

once_below : (n x : ℕ) → x < n → once n x ≡ 1
once_below n x l = cond-true (ltb x n) 1 0 (lt-ltb x n l)

once_past : (n x : ℕ) → n ≤ x → once n x ≡ 0
once_past n x l = cond-false (ltb x n) 1 0 (le-ltb x n l)

once_more : (n x : ℕ) → cond (eqb n x) 1 0 + once n x ≡ once (suc n) x
once_more n x = elim (cases_order n x) [
  | inl same ↦ omega (arith, cond-true {A = ℕ} (eqb n x) 1 0 (eq-eqb n x same), once_past n x (omega arith), once_below (suc n) x (omega arith))
  | inr other ↦
      let none : cond {A = ℕ} (eqb n x) 1 0 ≡ 0 = cond-false {A = ℕ} (eqb n x) 1 0 (ne_eqb n x (omega arith)) in
      elim other [
        | inl less ↦ omega (arith, once_past n x (omega arith), once_past (suc n) x (omega arith))
        | inr more ↦ omega (arith, once_below n x more, once_below (suc n) x (omega arith))
      ]
]

total_more : (n x : ℕ) (xs : List ℕ) → total n (x ∷ xs) ≡ once n x + total n xs
total_more zero x xs = omega (arith, once_past 0 x (omega arith))
total_more (suc n) x xs = let r = total_more n x xs in let q = once_more n x in omega arith

total_within : (n : ℕ) (xs : List ℕ) → Within n xs → total n xs ≡ length xs
total_within n [] w = total_none n
total_within n (x ∷ xs) w =
    let e = total_more n x xs in
    let o = once_below n x w.0 in
    let r = total_within n xs w.1 in omega arith

total_most : (n : ℕ) (xs : List ℕ) → Apart xs → total n xs ≤ n
total_most zero xs a = omega arith
total_most (suc n) xs a = let r = total_most n xs a in let t = times_most n xs a in omega arith

total_gap : (n c : ℕ) (xs : List ℕ) → Apart xs → c < n → times c xs ≡ 0 → total n xs + 1 ≤ n
total_gap zero c xs a l z = absurd (omega arith)
total_gap (suc n) c xs a l z =
    ⊎_elim (λ i. let r = total_gap n c xs a i z in let t = times_most n xs a in omega arith)
    (λ i. let e : c ≡ n = omega arith in let z' : times n xs ≡ 0 = rw (← e) z in let r = total_most n xs a in omega arith) (cases_lt c n)

pub covers : (m : ℕ) (xs : List ℕ) → Apart xs → Within m xs → length xs ≡ m → (c : ℕ) → times c xs ≡ once m c
covers m xs a w e c =
    ⊎_elim
    (λ l.
    let o = once_below m c l in
    let t = times_most c xs a in
    let s = total_within m xs w in
    let k : times c xs ≡ 0 → ⊥ = λ z. let g = total_gap m c xs a l z in omega arith in omega (arith, k))
    (λ l. times_off c xs (All-weaker (λ x. x < m) (λ x. x ≡ c → ⊥) (λ x i q. omega arith) xs w) ∙ sym (once_past m c l)) (cases_lt c m)
