-- Zeros on the left of a list of digits, and that digits of one length are known by the number that they write.
use Rattle.std.proofs.Common.{◌≡◌, ℕ, zero, suc, ◌+◌, ◌-◌, ◌*◌, ◌%◌, ◌<◌, ◌≤◌, eqb, List, [], ◌∷◌, ◌++◌, reverse, length, replicate, sym, refl, ap, ◌∙◌, arith}
use mathlib.Core.List.{reverse-cons}
use Rattle.std.proofs.lemmas.Int.Digits.{number_push}
use Rattle.std.proofs.ByRecursion.{All-append}
use Rattle.std.proofs.lemmas.List.{length-append, length-replicate, length-reverse, reverse-reverse}
use Rattle.std.specs.Int.Digits.{AllBelowBase}
use Rattle.std.proofs.lemmas.List.Elements.{recursion_from_All, All-replicate}
use Rattle.items.proofs.Turned.{all_reverse}
use Rattle.items.specs.Gtins.{weighted, check_sum_lem, checked, number_of, filled}

-- ---- a zero weighs nothing

weighted_zero : (w : ℕ) (ds : List ℕ) → weighted w (ds ++ 0 ∷ []) ≡ weighted w ds
weighted_zero w [] = omega arith
weighted_zero w (d ∷ ds) = ap (λ n. w * d + n) (weighted_zero (4 - w) ds)

check_sum_zero : (ds : List ℕ) → check_sum_lem (ds ++ 0 ∷ []) ≡ check_sum_lem ds
check_sum_zero [] = refl
check_sum_zero (check ∷ ds) = ap (λ n. n + check) (weighted_zero 3 ds)

pub checked_zeros : (zeros : ℕ) (ds : List ℕ) → checked (replicate zeros 0 ++ ds) ≡ checked ds
checked_zeros zero ds = refl
checked_zeros (suc k) ds =
    ap (λ n. eqb (n % 10) 0) (ap check_sum_lem (reverse-cons 0 (replicate k 0 ++ ds)) ∙ check_sum_zero (reverse (replicate k 0 ++ ds)))
    ∙ checked_zeros k ds

pub number_of_zeros : (zeros : ℕ) (ds : List ℕ) → number_of (replicate zeros 0 ++ ds) ≡ number_of ds
number_of_zeros zero ds = refl
number_of_zeros (suc k) ds = number_of_zeros k ds

-- ---- digits of one length, read from the right

from_right : List ℕ → ℕ
from_right [] = 0
from_right (d ∷ ds) = from_right ds * 10 + d

number_of_from_right : (ds : List ℕ) → number_of (reverse ds) ≡ from_right ds
unfolding from_right
number_of_from_right [] = refl
number_of_from_right (d ∷ ds) = ap number_of (reverse-cons d ds) ∙ number_push 10 (reverse ds) d ∙ ap (λ n. n * 10 + d) (number_of_from_right ds)

from_right_tells : (ds es : List ℕ) → length ds ≡ length es → AllBelowBase 10 ds → AllBelowBase 10 es → from_right ds ≡ from_right es → ds ≡ es
unfolding from_right
from_right_tells [] [] long u v same = refl
from_right_tells [] (e ∷ es) long u v same = absurd (omega arith)
from_right_tells (d ∷ ds) [] long u v same = absurd (omega arith)
from_right_tells (d ∷ ds) (e ∷ es) long u v same =
    let last : d ≡ e = omega (arith, u.0, v.0) in
    let rest : from_right ds ≡ from_right es = omega (arith, u.0, v.0) in
    let tail : ds ≡ es = from_right_tells ds es (omega arith) u.1 v.1 rest in
    cc

number_of_tells : (ds es : List ℕ) → length ds ≡ length es → AllBelowBase 10 ds → AllBelowBase 10 es → number_of ds ≡ number_of es → ds ≡ es
number_of_tells ds es long u v same =
    let read : (cs : List ℕ) → number_of cs ≡ from_right (reverse cs) = λ cs. ap number_of (sym (reverse-reverse cs)) ∙ number_of_from_right (reverse cs) in
    let turned : reverse ds ≡ reverse es =
    from_right_tells (reverse ds) (reverse es) (omega (arith, length-reverse ds, length-reverse es)) (all_reverse (λ n. n < 10) ds u) (all_reverse (λ n. n < 10) es v) (sym (read ds) ∙ same ∙ read es) in
    sym (reverse-reverse ds) ∙ ap reverse turned ∙ reverse-reverse es

-- ---- filled to fourteen digits

pub filled_tells : (ds es : List ℕ) → length ds ≤ 14 → length es ≤ 14 → AllBelowBase 10 ds → AllBelowBase 10 es → number_of ds ≡ number_of es → filled ds ≡ filled es
filled_tells ds es short short' u v same =
    number_of_tells (filled ds) (filled es) (wide ds short ∙ sym (wide es short')) (under_filled ds u) (under_filled es v)
    (number_of_zeros (14 - length ds) ds ∙ same ∙ sym (number_of_zeros (14 - length es) es))
  where
    wide : (cs : List ℕ) → length cs ≤ 14 → length (filled cs) ≡ 14
    wide cs s = omega (arith, length-append (replicate (14 - length cs) 0) cs, length-replicate {A = ℕ} (14 - length cs) 0)

    under_filled : (cs : List ℕ) → AllBelowBase 10 cs → AllBelowBase 10 (filled cs)
    under_filled cs = All-append (λ n. n < 10) (replicate (14 - length cs) 0) cs
        (recursion_from_All (λ n. n < 10) (replicate (14 - length cs) 0) (All-replicate (λ n. n < 10) (14 - length cs) 0 (omega arith)))
