-- What a list of bindings stands for when one is put in or taken out, for any sameness.
use Rattle.std.proofs.Common.{◌≡◌, ℕ, Bool, true, false, cond, List, [], ◌∷◌, Some, None, Option, sym, refl, ap, ◌∙◌, ⊎_elim, arith}
use Rattle.std.proofs.ByRecursion.{All-weaker}
use Rattle.std.proofs.lemmas.Bool.{both_ways, false_from_ne_true, cases_Bool, cond-true, cond-false}
use Rattle.items.proofs.Alike.{flipped, alike_first}
use Rattle.items.specs.Sameness.{Equivalence}
use Rattle.finders.specs.declared.finder.Binding.{Binding}
use Rattle.finders.specs.Lookup.{lookup, Lacks, Apart}
use Rattle.finders.specs.Calls.{Entered, Left}
use Rattle.items.proofs.Put.{Put, here, there, put_length, all_out, all_in}

module _ {Item : Type 0} (same : Item → Item → Bool) where
  -- ---- an item that no binding has is found nowhere, and the other way round

  pub nowhere : (bs : List (Binding Item)) (x : Item) → Lacks same bs x → lookup same bs x ≡ None
  nowhere [] x lacks = refl
  nowhere (b ∷ bs) x lacks = cond-false _ _ _ lacks.0 ∙ nowhere bs x lacks.1

  pub lacking : (bs : List (Binding Item)) (x : Item) → lookup same bs x ≡ None → Lacks same bs x
  lacking [] x none = tt
  lacking (b ∷ bs) x none =
      ⊎_elim
      (λ t. let clash : Some b.place ≡ None = sym (cond-true _ _ _ t) ∙ none in absurd cc)
      (λ f. (f, lacking bs x (sym (cond-false _ _ _ f) ∙ none)))
      (cases_Bool (same x b.item))

  module _ (laws : Equivalence same) where
    pub lookup_alike : (bs : List (Binding Item)) (x y : Item) → same x y ≡ true → lookup same bs x ≡ lookup same bs y
    lookup_alike [] x y t = refl
    lookup_alike (b ∷ bs) x y t =
        ap (λ (c : Bool). cond c (Some b.place) (lookup same bs x)) (alike_first same laws x y b.item t)
        ∙ ap (λ (o : Option ℕ). cond (same y b.item) (Some b.place) o) (lookup_alike bs x y t)

    lacks_alike : (bs : List (Binding Item)) (x y : Item) → same x y ≡ true → Lacks same bs x → Lacks same bs y
    lacks_alike bs x y t = All-weaker _ _ (λ b f. sym (alike_first same laws x y b.item t) ∙ f) bs

    -- ---- one binding put in or taken out

    pub apart_out : {b : Binding Item} {rest whole : List (Binding Item)} → Put b rest whole → Apart same whole → Lacks same rest b.item × Apart same rest
    apart_out here apart = (apart.0, apart.1)
    apart_out {b} (there {f} o) apart =
        let inner = apart_out o apart.1 in
        let others = all_out (λ c. same f.item c.item ≡ false) o apart.0 in
        ((flipped same laws _ _ others.0, inner.0), (others.1, inner.1))

    pub apart_in : {b : Binding Item} {rest whole : List (Binding Item)} → Put b rest whole → Lacks same rest b.item → Apart same rest → Apart same whole
    apart_in here lacks apart = (lacks, apart)
    apart_in {b} (there {f} o) lacks apart =
        (all_in (λ c. same f.item c.item ≡ false) o (flipped same laws _ _ lacks.0) apart.0, apart_in o lacks.1 apart.1)

    -- An item is where b is if it is the same, and else where the rest has it.
    pub lookup_out : {b : Binding Item} {rest whole : List (Binding Item)} → Put b rest whole → Apart same whole → (x : Item) → lookup same whole x ≡ cond (same x b.item) (Some b.place) (lookup same rest x)
    lookup_out here apart x = refl
    lookup_out {b} (there {f} {rest} o) apart x =
        ⊎_elim
        (λ (t : same x f.item ≡ true).
        let other : same x b.item ≡ false = alike_first same laws x f.item b.item t ∙ (all_out (λ c. same f.item c.item ≡ false) o apart.0).0 in
        cond-true _ _ _ t ∙ sym (cond-false _ _ _ other ∙ cond-true _ _ _ t))
        (λ (n : same x f.item ≡ false).
        cond-false _ _ _ n ∙ lookup_out o apart.1 x
        ∙ ap (λ (p : Option ℕ). cond (same x b.item) (Some b.place) p) (sym (cond-false _ _ _ n)))
        (cases_Bool (same x f.item))

    pub entered : {b : Binding Item} {before after : List (Binding Item)} → Put b before after → Apart same after → Entered same before b.item b.place after
    entered o apart = record { places = lookup_out o apart; number = omega (arith, put_length o) }

    -- The binding that leaves may have another form of the item than the one asked for.
    pub left : {b : Binding Item} {before after : List (Binding Item)} → Put b after before → Apart same before → (x : Item) → same x b.item ≡ true → Left same before x after
    left {b} {before} {after} o apart x found = record { places = places; number = omega (arith, put_length o) }
      where
        places : (y : Item) → lookup same after y ≡ cond (same y x) None (lookup same before y)
        places y =
            ⊎_elim
            (λ (t : same y x ≡ true).
            nowhere after y (lacks_alike after b.item y (laws.symmetric _ _ (laws.transitive y x b.item t found)) (apart_out o apart).0)
            ∙ sym (cond-true _ _ _ t))
            (λ (n : same y x ≡ false).
            let other : same y b.item ≡ false = false_from_ne_true _ (λ u. both_ways _ n (laws.transitive y b.item x u (laws.symmetric _ _ found))) in
            sym (cond-false _ _ _ n ∙ lookup_out o apart y ∙ cond-false _ _ _ other))
            (cases_Bool (same y x))
