-- What an equivalence gives: items that are, or are not, the same as others that are the same.
use Rattle.std.proofs.Common.{◌≡◌, Bool, true, false, sym, ◌∙◌, inl, inr}
use Rattle.std.proofs.lemmas.Bool.{both_ways, false_from_ne_true, cases_Bool}
use Rattle.items.specs.Sameness.{Equivalence}

module _ {Item : Type 0} (same : Item → Item → Bool) (laws : Equivalence same) where
  pub flipped : (x y : Item) → same x y ≡ false → same y x ≡ false
  flipped x y h = false_from_ne_true (same y x) (λ t. both_ways (same x y) h (laws.symmetric y x t))

  -- a is the same as x and not as y: then x and y are not the same.
  pub differs : (a x y : Item) → same a x ≡ true → same a y ≡ false → same x y ≡ false
  differs a x y t h = false_from_ne_true (same x y) (λ u. both_ways (same a y) h (laws.transitive a x y t u))

  -- Two items that are the same as a third.
  pub same_by_third : (a x y : Item) → same a x ≡ true → same a y ≡ true → same x y ≡ true
  same_by_third a x y t u = laws.transitive x a y (laws.symmetric a x t) u

  pub turned : (x y : Item) → same x y ≡ same y x
  turned x y = elim (cases_Bool (same x y)) [
    | inl t ↦ t ∙ sym (laws.symmetric x y t)
    | inr f ↦ f ∙ sym (flipped x y f)
  ]

  -- Same items are the same as the same items, on either side.
  pub alike_first : (x y z : Item) → same x y ≡ true → same x z ≡ same y z
  alike_first x y z t = elim (cases_Bool (same y z)) [
    | inl u ↦ laws.transitive x y z t u ∙ sym u
    | inr f ↦ differs y x z (laws.symmetric x y t) f ∙ sym f
  ]

  pub alike_second : (x y z : Item) → same y z ≡ true → same x y ≡ same x z
  alike_second x y z t = turned x y ∙ alike_first y z x t ∙ turned z x
