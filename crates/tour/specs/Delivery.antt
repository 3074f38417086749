-- What becomes of a delivered code, given the article that it makes or its fault.
use Rattle.std.specs.Prelude.{ℕ, List, Some, None, Ok, Err, Option, Result}
use Rattle.items.specs.declared.article.Article.{Article}
use Rattle.items.specs.declared.fault.ArticleFault.{ArticleFault}
use Rattle.items.specs.Articles.{same_article}
use Rattle.items.specs.Faults.{fault_number}
use Rattle.finders.specs.declared.finder.Binding.{Binding}
use Rattle.finders.specs.declared.refusal.Refusal.{Refusal}
use Rattle.finders.specs.Lookup.{lookup}
use Rattle.finders.specs.Refusals.{number_of, enter_refusal, leave_refusal}
use Rattle.tour.specs.declared.delivery.Trouble.{Trouble}
use Rattle.tour.specs.declared.delivery.Trouble.TheVariants.{Spoiled, Refused}

abbrev pub trouble_number : Trouble → ℕ
trouble_number (Spoiled fault) = fault_number fault
trouble_number (Refused why) = number_of why

-- The answer, unless the finder refuses.
abbrev pub unless_trouble : {X : Type 0} → X → Option Refusal → Result X Trouble
unless_trouble x None = Ok x
unless_trouble x (Some why) = Err (Refused why)

module _ (bs : List (Binding Article)) where
  abbrev pub checked_in : ℕ → Result Article ArticleFault → Result Article Trouble
  checked_in room (Err fault) = Err (Spoiled fault)
  checked_in room (Ok article) = unless_trouble article (enter_refusal same_article bs room article)

  abbrev pub looked_up : Result Article ArticleFault → Result (Option ℕ) Trouble
  looked_up (Err fault) = Err (Spoiled fault)
  looked_up (Ok article) = Ok (lookup same_article bs article)

  abbrev pub taken_out : Result Article ArticleFault → Result Unit Trouble
  taken_out (Err fault) = Err (Spoiled fault)
  taken_out (Ok article) = unless_trouble tt (leave_refusal same_article bs article)
