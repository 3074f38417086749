-- Articles: which bytes make one, and which two are the same.
use Rattle.std.specs.Prelude.{ℕ, ◌-◌, ◌%◌, Bool, cond, List, map, length, is_ok, Some, None, Option, Ok, Err, Result, ◌==◌}
use Rattle.std.specs.Str.{all_ascii_digits}
use Rattle.items.specs.declared.article.Article.{Article}
use Rattle.items.specs.declared.article.Length.{Length}
use Rattle.items.specs.declared.article.Length.TheVariants.{Eight, Twelve, Thirteen, Fourteen}
use Rattle.items.specs.declared.fault.ArticleFault.{ArticleFault}
use Rattle.items.specs.declared.fault.ArticleFault.TheVariants.{WrongLength, NotADigit, WrongCheckDigit}
use Rattle.items.specs.Gtins.{checked, number_of}

-- The digits that the bytes spell; '0' is the byte 48.
abbrev pub digits : List ℕ → List ℕ
digits bytes = map (λ b. b - 48) bytes

abbrev pub digit_count : Length → ℕ
digit_count Eight = 8
digit_count Twelve = 12
digit_count Thirteen = 13
digit_count Fourteen = 14

-- A GTIN has 8, 12, 13 or 14 digits.
abbrev pub length_of : ℕ → Result Length ArticleFault
length_of n = cond (n == 8) (Ok Eight) (cond (n == 12) (Ok Twelve) (cond (n == 13) (Ok Thirteen) (cond (n == 14) (Ok Fourteen) (Err WrongLength))))

-- Why bytes are not the digits of a code: the length is looked at first.
abbrev pub digits_fault : List ℕ → Option ArticleFault
digits_fault bytes = cond (is_ok (length_of (length bytes))) (cond (all_ascii_digits bytes) None (Some NotADigit)) (Some WrongLength)

-- Bytes of a right length: each must be a digit, and the check digit must be right.
abbrev pub made_of : Length → List ℕ → Result Article ArticleFault
made_of n bytes =
    cond (all_ascii_digits bytes)
    (cond (checked (digits bytes)) (Ok (record { number = number_of (digits bytes); length = n })) (Err WrongCheckDigit))
    (Err NotADigit)

abbrev pub if_length : Result Length ArticleFault → List ℕ → Result Article ArticleFault
if_length (Err why) bytes = Err why
if_length (Ok n) bytes = made_of n bytes

-- What any bytes make: the length is looked at first, then the digits, then the check digit.
abbrev pub made_from : List ℕ → Result Article ArticleFault
made_from bytes = if_length (length_of (length bytes)) bytes

-- Articles are the same when their numbers are equal, in however many digits.
abbrev pub same_article : Article → Article → Bool
same_article x y = x.number == y.number

abbrev pub article_mark : Article → ℕ
article_mark x = x.number % 65536
