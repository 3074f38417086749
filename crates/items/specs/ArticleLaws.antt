-- What holds of all articles: when one is made, and that zeros on the left do not matter.
use Rattle.std.specs.Prelude.{◌≡◌, ℕ, true, List, ◌++◌, length, replicate, Ok}
use Rattle.std.specs.Str.{all_ascii_digits}
use Rattle.items.specs.declared.article.Article.{Article}
use Rattle.items.specs.Articles.{digits, digit_count, made_from, same_article}
use Rattle.items.specs.Gtins.{checked, number_of, filled}

-- The article is what the bytes spell, and its check digit is right.
pub record Spells (bytes : List ℕ) (x : Article) : Type 0 where
  pub spelled : all_ascii_digits bytes ≡ true
  pub right : checked (digits bytes) ≡ true
  pub number : x.number ≡ number_of (digits bytes)
  pub count : digit_count x.length ≡ length bytes

pub record ArticleLaws : Type 0 where
  -- None is made without a right check digit.
  pub none_unchecked : (bytes : List ℕ) (x : Article) → made_from bytes ≡ Ok x → Spells bytes x
  -- Zeros on the left change neither the check digit nor the number.
  pub zeros_keep_check : (zeros : ℕ) (ds : List ℕ) → checked (replicate zeros 0 ++ ds) ≡ checked ds
  pub zeros_keep_number : (zeros : ℕ) (ds : List ℕ) → number_of (replicate zeros 0 ++ ds) ≡ number_of ds
  -- Two articles are the same exactly if they agree after filling with zeros on the left to fourteen digits.
  pub same_if_filled : (a b : List ℕ) (x y : Article) → made_from a ≡ Ok x → made_from b ≡ Ok y → filled (digits a) ≡ filled (digits b) → same_article x y ≡ true
  pub filled_if_same : (a b : List ℕ) (x y : Article) → made_from a ≡ Ok x → made_from b ≡ Ok y → same_article x y ≡ true → filled (digits a) ≡ filled (digits b)
