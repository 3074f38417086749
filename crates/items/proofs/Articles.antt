-- The laws of articles: what an article that was made tells of its bytes.
use Rattle.std.proofs.Common.{◌≡◌, ℕ, ◌-◌, ◌≤◌, Bool, true, false, cond, List, length, Ok, Err, Result, sym, refl, ap, ◌∙◌, arith}
use Rattle.std.proofs.lemmas.List.{length-map}
use Rattle.std.proofs.lemmas.Bool.{eq-eqb, eqb-true}
use Rattle.std.proofs.lemmas.Bool.Decides.{nat_tests}
use Rattle.std.specs.Str.{all_ascii_digits}
use Rattle.items.specs.declared.article.Article.{Article}
use Rattle.items.specs.declared.article.Length.{Length}
use Rattle.items.specs.declared.article.Length.TheVariants.{Eight, Twelve, Thirteen, Fourteen}
use Rattle.items.specs.declared.fault.ArticleFault.{ArticleFault}
use Rattle.items.specs.declared.fault.ArticleFault.TheVariants.{NotADigit, WrongCheckDigit}
use Rattle.items.specs.Articles.{digits, digit_count, length_of, if_length, made_from}
use Rattle.items.specs.ArticleLaws.{Spells, ArticleLaws}
use Rattle.items.specs.Gtins.{checked, number_of}
use Rattle.items.proofs.Digits.{digits_under}
use Rattle.items.proofs.Zeros.{checked_zeros, number_of_zeros, filled_tells}

count_known : (n : ℕ) (l : Length) → length_of n ≡ Ok l → digit_count l ≡ n
count_known n Eight known = grind (arith, nat_tests)
count_known n Twelve known = grind (arith, nat_tests)
count_known n Thirteen known = grind (arith, nat_tests)
count_known n Fourteen known = grind (arith, nat_tests)

spells : (bytes : List ℕ) (x : Article) → made_from bytes ≡ Ok x → Spells bytes x
spells bytes x made = by_length (length_of (length bytes)) refl made
  where
    by_check : (l : Length) → length_of (length bytes) ≡ Ok l → all_ascii_digits bytes ≡ true → (b : Bool) → checked (digits bytes) ≡ b → cond b (Ok (record { number = number_of (digits bytes); length = l })) (Err WrongCheckDigit) ≡ Ok x → Spells bytes x
    by_check l known spelled true right m = record { spelled = spelled; right = right; number = cc; count = let e : x.length ≡ l = cc in ap digit_count e ∙ count_known (length bytes) l known }
    by_check l known spelled false wrong m = absurd cc

    by_digits : (l : Length) → length_of (length bytes) ≡ Ok l → (b : Bool) → all_ascii_digits bytes ≡ b → cond b (cond (checked (digits bytes)) (Ok (record { number = number_of (digits bytes); length = l })) (Err WrongCheckDigit)) (Err NotADigit) ≡ Ok x → Spells bytes x
    by_digits l known true spelled m = by_check l known spelled (checked (digits bytes)) refl m
    by_digits l known false broken m = absurd cc

    by_length : (o : Result Length ArticleFault) → length_of (length bytes) ≡ o → if_length o bytes ≡ Ok x → Spells bytes x
    by_length (Err why) known m = absurd cc
    by_length (Ok l) known m = by_digits l known (all_ascii_digits bytes) refl m

short : (l : Length) → digit_count l ≤ 14
short Eight = omega arith
short Twelve = omega arith
short Thirteen = omega arith
short Fourteen = omega arith

pub count_short : (n : ℕ) (l : Length) → length_of n ≡ Ok l → n ≤ 14
count_short n l known = omega (arith, count_known n l known, short l)

pub article_laws : ArticleLaws
article_laws = record {
  none_unchecked = spells;
  zeros_keep_check = checked_zeros;
  zeros_keep_number = number_of_zeros;
  same_if_filled = λ a b x y p q agree.
      let unfilled : number_of (digits a) ≡ number_of (digits b) =
      sym (number_of_zeros (14 - length (digits a)) (digits a)) ∙ ap number_of agree ∙ number_of_zeros (14 - length (digits b)) (digits b) in
      eq-eqb _ _ ((spells a x p).number ∙ unfilled ∙ sym (spells b y q).number);
  filled_if_same = λ a b x y p q same.
      let here = spells a x p in
      let there = spells b y q in
      filled_tells (digits a) (digits b)
      (omega (arith, length-map a (λ c. c - 48), here.count, short x.length))
      (omega (arith, length-map b (λ c. c - 48), there.count, short y.length))
      (digits_under a here.spelled) (digits_under b there.spelled)
      (sym here.number ∙ eqb-true _ _ same ∙ there.number);
}
