-- The worked examples, by computation.
use Rattle.std.proofs.Common.{◌≡◌, true, ltb, refl}
use Rattle.std.proofs.lemmas.Bool.{cond_both}
use Rattle.rows.specs.Examples.{WorkedExamples}

pub worked_examples : WorkedExamples
worked_examples = record {
  taken_over = record { entries = refl; top_lines = refl; is_guaranteed = refl; is_ordered = refl };
  tied = record {
    entries = refl;
    top_lines = refl;
    not_guaranteed = refl;
    not_ordered = refl;
    half_of_four = refl;
    frequent_lines = refl;
    sure_marks = refl;
    not_complete = refl;
  };
  one_counter = record { entries = refl; bracket_of_nine = refl; bracket_of_seven = refl; top_lines = refl; not_guaranteed = refl; not_ordered = refl };
  no_hit = λ m. record {
    half_of_none = refl;
    no_frequent_line = refl;
    is_complete = cond_both (ltb 0 m) 0 0 (λ out. ltb out 1 ≡ true) (λ _. refl) (λ _. refl);
    no_top_line = refl;
    is_guaranteed = refl;
    is_ordered = refl;
  };
  fewer_than_asked = record { top_lines = refl; is_guaranteed = refl; is_ordered = refl };
  two_asked = record { top_lines = refl; is_guaranteed = refl; is_ordered = refl };
  a_third_of_four = refl;
  one_article = record { thirteen_made = refl; fourteen_made = refl; entries = refl; thirteen_digits = refl };
  watching = record { first_hit = refl; second_hit = refl; third_hit = refl };
  one_in_sixteen = refl;
}
