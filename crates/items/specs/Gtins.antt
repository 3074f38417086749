-- GTINs, the article numbers of GS1, as lists of decimal digits, the last of which is the check digit.
use Rattle.std.specs.Prelude.{ℕ, ◌+◌, ◌-◌, ◌*◌, ◌%◌, Bool, cond, List, [], ◌∷◌, ◌++◌, reverse, length, replicate, ◌==◌}
use Rattle.std.specs.Int.Digits.{number_from_digits}

-- The weight of a digit by its place from the right, where the check digit is at 0: 1 and 3 take turns.
abbrev pub weight_at : ℕ → ℕ
weight_at place = cond (place % 2 == 0) 1 3

-- The digits, each times its weight, added up: weights 3 and 1 (4 - 3 and 4 - 1) take turns, and w is the first.
abbrev pub weighted : ℕ → List ℕ → ℕ
weighted w [] = 0
weighted w (d ∷ ds) = w * d + weighted (4 - w) ds

-- The digits from the right: the check digit, added to the weighted sum of the others, which weigh 3, 1, 3, 1 and so on.
abbrev pub check_sum_lem : List ℕ → ℕ
check_sum_lem [] = 0
check_sum_lem (check ∷ ds) = weighted 3 ds + check

-- The check digit is right if that is a multiple of 10.
abbrev pub checked : List ℕ → Bool
checked ds = check_sum_lem (reverse ds) % 10 == 0

-- The number that the digits write.
abbrev pub number_of : List ℕ → ℕ
number_of ds = number_from_digits 10 ds

-- Zeros on the left, so that there are fourteen digits.
abbrev pub filled : List ℕ → List ℕ
filled ds = replicate (14 - length ds) 0 ++ ds
