-- Decimal digits, one by one: what the bytes are, and the sum and the number that they give.
use Rattle.std.proofs.Common.{◌≡◌, ℕ, ◌+◌, ◌&&◌, ◌-◌, ◌*◌, ◌^◌, ◌<◌, ◌≤◌, true, List, [], ◌∷◌, ◌++◌, map, reverse, length, get_or, take, mul_comm, subst, refl, ap, ◌∙◌, arith}
use native.Mathlib.Nat.{pow-le-pow_right}
use Rattle.std.proofs.ByRecursion.{All-get_or, All-take, All-map, All-weaker}
use Rattle.std.proofs.lemmas.Bool.{and_parts, leb-true}
use Rattle.std.proofs.lemmas.Bool.Decides.{nat_tests}
use Rattle.std.proofs.lemmas.Int.Digits.{number_lt, number_push}
use Rattle.std.proofs.lemmas.List.{take-map, map-append, length-map, length-take-le}
use Rattle.std.proofs.lemmas.List.Sums.{sum_by-cons}
use Rattle.std.specs.Char.{is_ascii_digit}
use Rattle.std.specs.Int.Digits.{AllBelowBase, number_from_digits_after}
use Rattle.std.specs.List.{AllByRecursion as Each, list_all, fold, sum_by, enumerate_from}
use Rattle.std.specs.Str.{all_ascii_digits}
use mathlib.Mathlib.Data.List.Basic.{map-reverse_aux}
use Rattle.items.proofs.Turned.{all_reverse}
use Rattle.items.specs.Articles.{digits}
use Rattle.items.specs.Gtins.{weight_at, weighted, check_sum_lem, number_of}

-- ---- each byte is one from '0' to '9'

pub each_is_digit : (bytes : List ℕ) → list_all is_ascii_digit bytes ≡ all_ascii_digits bytes
each_is_digit [] = refl
each_is_digit (b ∷ bytes) = ap (λ t. is_ascii_digit b && t) (each_is_digit bytes)

abbrev IsDigit : ℕ → Type 0
IsDigit b = (48 ≤ b) × (b ≤ 57)

each_digit : (bytes : List ℕ) → all_ascii_digits bytes ≡ true → Each IsDigit bytes
each_digit [] t = tt
each_digit (b ∷ bytes) t =
    let parts = and_parts _ _ t in
    let bounds = and_parts _ _ parts.0 in
    ((leb-true _ _ bounds.0, leb-true _ _ bounds.1), each_digit bytes parts.1)

pub digits_under : (bytes : List ℕ) → all_ascii_digits bytes ≡ true → AllBelowBase 10 (digits bytes)
digits_under bytes t = All-map (λ d. d < 10) (λ b. b - 48) bytes (All-weaker IsDigit (λ b. b - 48 < 10) (λ b h. omega (arith, h.1)) bytes (each_digit bytes t))

each_placed : (bytes : List ℕ) (i : ℕ) → Each IsDigit bytes → Each (λ p. IsDigit p.1) (enumerate_from i bytes)
each_placed [] i each = tt
each_placed (b ∷ bytes) i each = (each.0, each_placed bytes (i + 1) each.1)

module _ (bytes : List ℕ) (t : all_ascii_digits bytes ≡ true) (i : ℕ) where
  pub digit_at : (b : ℕ) → (i < length bytes) × (b ≡ get_or bytes i b) → (48 ≤ b) × (b ≤ 57)
  digit_at b at = rw at.1 (All-get_or IsDigit bytes i b at.0 (each_digit bytes t))

  pub digit_from_right : (p : ℕ × ℕ) → i < length (enumerate_from 0 (reverse bytes)) → p ≡ get_or (enumerate_from 0 (reverse bytes)) i p → (48 ≤ p.1) × (p.1 ≤ 57)
  digit_from_right p inside at =
      rw at (All-get_or (λ q. IsDigit q.1) (enumerate_from 0 (reverse bytes)) i p inside (each_placed (reverse bytes) 0 (all_reverse IsDigit bytes (each_digit bytes t))))

  -- Fewer than fourteen digits write a number below ten to the thirteenth.
  pub number_of_small : i < length bytes → length bytes ≤ 14 → number_of (digits (take i bytes)) < 10000000000000
  number_of_small inside short =
      let long : length (digits (take i bytes)) ≡ i = length-map (take i bytes) (λ b. b - 48) ∙ length-take-le i bytes (omega arith) in
      let below : number_of (digits (take i bytes)) < 10 ^ length (digits (take i bytes)) =
      number_lt 10 (digits (take i bytes)) (subst (AllBelowBase 10) (take-map (λ b. b - 48) i bytes) (All-take (λ d. d < 10) i (digits bytes) (digits_under bytes t))) in
      let small : 10 ^ length (digits (take i bytes)) ≤ 10 ^ 13 = pow-le-pow_right (omega arith) {j = 13} (omega arith) in
      omega arith

-- ---- the number, from the left

pub number_folds : (bytes : List ℕ) (n : ℕ) → fold (λ (m b : ℕ). m * 10 + (b - 48)) n bytes ≡ number_from_digits_after 10 n (digits bytes)
number_folds [] n = refl
number_folds (b ∷ bytes) n = number_folds bytes (n * 10 + (b - 48))

-- One digit more on the right, where v reads the bytes.
pub number_of_more : {X : Type 0} (v : X → ℕ) (xs : List X) (x : X) → number_of (digits (map v (xs ++ x ∷ []))) ≡ number_of (digits (map v xs)) * 10 + (v x - 48)
number_of_more v xs x =
    ap (λ bs. number_of (digits bs)) (map-append v xs (x ∷ [])) ∙ ap number_of (map-append (λ b. b - 48) (map v xs) (v x ∷ []))
    ∙ number_push 10 (digits (map v xs)) (v x - 48)

-- ---- the check sum, from the right

-- What a byte adds, by its place.
abbrev pub weighs : ℕ × ℕ → ℕ
weighs p = (p.1 - 48) * weight_at p.0

weights_turn : (i : ℕ) → weight_at (i + 1) ≡ 4 - weight_at i
weights_turn i = grind (arith, nat_tests)

weighs_all : (bytes : List ℕ) (i : ℕ) → sum_by weighs (enumerate_from i bytes) ≡ weighted (weight_at i) (digits bytes)
weighs_all [] i = refl
weighs_all (b ∷ bytes) i =
    sum_by-cons weighs (i, b) (enumerate_from (i + 1) bytes) ∙ ap (λ n. (b - 48) * weight_at i + n) (weighs_all bytes (i + 1))
    ∙ ap (λ n. n + weighted (weight_at (i + 1)) (digits bytes)) (mul_comm (b - 48) (weight_at i))
    ∙ ap (λ w. weight_at i * (b - 48) + weighted w (digits bytes)) (weights_turn i)

-- The check digit weighs 1, as if it were one of the others.
pub check_sum_weighted : (ds : List ℕ) → weighted 1 ds ≡ check_sum_lem ds
check_sum_weighted [] = refl
check_sum_weighted (check ∷ ds) = omega arith

pub sum_of_weights : (bytes : List ℕ) → sum_by weighs (enumerate_from 0 (reverse bytes)) ≡ check_sum_lem (reverse (digits bytes))
sum_of_weights bytes = weighs_all (reverse bytes) 0 ∙ ap (weighted 1) (map-reverse_aux (λ b. b - 48) bytes []) ∙ check_sum_weighted (reverse (digits bytes))
