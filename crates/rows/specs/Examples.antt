-- The worked examples: what the definitions give for short lists of hits.
use Rattle.std.specs.Prelude.{◌≡◌, ℕ, ◌+◌, true, false, List, [], ◌∷◌, map, Some, None, Ok}
use Rattle.items.specs.declared.label.Label.{Label}
use Rattle.items.specs.declared.article.Article.{Article}
use Rattle.items.specs.declared.article.Length.TheVariants.{Thirteen, Fourteen}
use Rattle.items.specs.Labels.{same_label}
use Rattle.items.specs.Articles.{digit_count, made_from, same_article}
use Rattle.rows.specs.declared.entry.Entry.{Entry}
use Rattle.rows.specs.Row.{entry, row_after}
use Rattle.rows.specs.Questions.{bracket, threshold, frequent, sure, complete, top, guaranteed, ordered, watched, share}

abbrev pub label : ℕ → Label
label n = record { number = n }

-- A digit sequence as text; the byte of '0' is 48.
abbrev pub spelled : List ℕ → List ℕ
spelled digits = map (λ d. 48 + d) digits

-- 2000000000008 and 02000000000008, as they are made.
abbrev pub with_thirteen : Article
with_thirteen = record { number = 2000000000008; length = Thirteen }

abbrev pub with_fourteen : Article
with_fourteen = record { number = 2000000000008; length = Fourteen }

-- The row of m counters after hits with labels, by their numbers.
abbrev pub labels_after : ℕ → List ℕ → List (Entry Label)
labels_after m hits = row_after same_label m (map label hits)

-- m 2, hits 1 3 2 2: label 2 takes a counter over, and rises.
pub record TakenOver (row : List (Entry Label)) : Type 0 where
  pub entries : row ≡ entry (label 3) 1 0 ∷ entry (label 2) 3 1 ∷ []
  pub top_lines : top 1 2 row ≡ entry (label 2) 3 1 ∷ []
  pub is_guaranteed : guaranteed 1 2 row ≡ true
  pub is_ordered : ordered 1 2 row ≡ true

-- m 2, hits 1 2 2 3: two counts of 2, one of which may be too high. The later one stands behind.
pub record Tied (row : List (Entry Label)) : Type 0 where
  pub entries : row ≡ entry (label 2) 2 0 ∷ entry (label 3) 2 1 ∷ []
  pub top_lines : top 1 2 row ≡ entry (label 3) 2 1 ∷ entry (label 2) 2 0 ∷ []
  pub not_guaranteed : guaranteed 1 2 row ≡ false
  pub not_ordered : ordered 1 2 row ≡ false
  -- The same with support 1/2.
  pub half_of_four : threshold 1 2 4 ≡ 2
  pub frequent_lines : frequent 2 row ≡ entry (label 3) 2 1 ∷ entry (label 2) 2 0 ∷ []
  pub sure_marks : map (sure 2) (frequent 2 row) ≡ false ∷ true ∷ []
  pub not_complete : complete 2 2 row ≡ false

-- m 1, hits 7 7 9: label 9 has the only counter, though 7 was hit more often.
pub record OneCounter (row : List (Entry Label)) : Type 0 where
  pub entries : row ≡ entry (label 9) 3 2 ∷ []
  pub bracket_of_nine : bracket same_label 1 row (label 9) ≡ (1, 3)
  pub bracket_of_seven : bracket same_label 1 row (label 7) ≡ (0, 3)
  pub top_lines : top 1 1 row ≡ entry (label 9) 3 2 ∷ []
  pub not_guaranteed : guaranteed 1 1 row ≡ false
  pub not_ordered : ordered 1 1 row ≡ false

-- No hit, with any number m of counters.
pub record NoHit (m : ℕ) (row : List (Entry Label)) : Type 0 where
  pub half_of_none : threshold 1 2 0 ≡ 1
  pub no_frequent_line : frequent 1 row ≡ []
  pub is_complete : complete 1 m row ≡ true
  pub no_top_line : top 1 m row ≡ []
  pub is_guaranteed : guaranteed 1 m row ≡ true
  pub is_ordered : ordered 1 m row ≡ true

-- m 3, hit 5, top 2: fewer entries than asked for.
pub record FewerThanAsked (row : List (Entry Label)) : Type 0 where
  pub top_lines : top 2 3 row ≡ entry (label 5) 1 0 ∷ []
  pub is_guaranteed : guaranteed 2 3 row ≡ true
  pub is_ordered : ordered 2 3 row ≡ true

-- m 2, hits 1 3 1, the first position watched: the rows before the first hit and after each.
pub record Watching (before one two three : List (Entry Label)) : Type 0 where
  pub first_hit : watched same_label 1 before one ≡ (Some (label 1), None)
  pub second_hit : watched same_label 1 one two ≡ (Some (label 3), Some (label 1))
  pub third_hit : watched same_label 1 two three ≡ (Some (label 1), Some (label 3))

-- m 3, hits 5 5 6, top 2: both are listed, though the first alone would be clear of the rest.
pub record TwoAsked (row : List (Entry Label)) : Type 0 where
  pub top_lines : top 2 3 row ≡ entry (label 5) 2 0 ∷ entry (label 6) 1 0 ∷ []
  pub is_guaranteed : guaranteed 2 3 row ≡ true
  pub is_ordered : ordered 2 3 row ≡ true

-- m 2, the articles 2000000000008 and 02000000000008: one entry of count 2, in the form that came first.
pub record OneArticle (row : List (Entry Article)) : Type 0 where
  pub thirteen_made : made_from (spelled (2 ∷ 0 ∷ 0 ∷ 0 ∷ 0 ∷ 0 ∷ 0 ∷ 0 ∷ 0 ∷ 0 ∷ 0 ∷ 0 ∷ 8 ∷ [])) ≡ Ok with_thirteen
  pub fourteen_made : made_from (spelled (0 ∷ 2 ∷ 0 ∷ 0 ∷ 0 ∷ 0 ∷ 0 ∷ 0 ∷ 0 ∷ 0 ∷ 0 ∷ 0 ∷ 0 ∷ 8 ∷ [])) ≡ Ok with_fourteen
  pub entries : row ≡ entry with_thirteen 2 0 ∷ []
  pub thirteen_digits : map (λ e. digit_count e.item.length) row ≡ 13 ∷ []

pub record WorkedExamples : Type 0 where
  pub taken_over : TakenOver (labels_after 2 (1 ∷ 3 ∷ 2 ∷ 2 ∷ []))
  pub tied : Tied (labels_after 2 (1 ∷ 2 ∷ 2 ∷ 3 ∷ []))
  pub one_counter : OneCounter (labels_after 1 (7 ∷ 7 ∷ 9 ∷ []))
  pub no_hit : (m : ℕ) → NoHit m (labels_after m [])
  pub fewer_than_asked : FewerThanAsked (labels_after 3 (5 ∷ []))
  pub two_asked : TwoAsked (labels_after 3 (5 ∷ 5 ∷ 6 ∷ []))
  pub a_third_of_four : threshold 1 3 4 ≡ 2
  pub one_article : OneArticle (row_after same_article 2 (with_thirteen ∷ with_fourteen ∷ []))
  pub watching : Watching (labels_after 2 []) (labels_after 2 (1 ∷ [])) (labels_after 2 (1 ∷ 3 ∷ [])) (labels_after 2 (1 ∷ 3 ∷ 1 ∷ []))
  pub one_in_sixteen : share 1 16 ≡ 63
