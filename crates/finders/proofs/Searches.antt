-- A search through bindings: the first of the same item is the one that the look-up finds.
use Rattle.std.proofs.Common.{◌≡◌, ℕ, ◌<◌, ◌≤◌, Bool, List, [], ◌∷◌, length, Some, None, Option, MatchOption, sym, refl, arith}
use Rattle.std.proofs.lemmas.Grind.{common_steps}
use Rattle.std.proofs.lemmas.List.Quantifiers.{position-Some}
use Rattle.std.proofs.lemmas.List.Recursion.{found_at, found_nowhere}
use Rattle.std.proofs.lemmas.List.Sums.{fails_before_first}
use Rattle.std.specs.List.{position, position_or_len}
use Rattle.finders.specs.declared.finder.Binding.{Binding}
use Rattle.finders.specs.Lookup.{lookup}
use Rattle.finders.specs.Search.{FoundAt}

module _ {Item : Type 0} (same : Item → Item → Bool) (x : Item) where
  past_all : (bs : List (Binding Item)) → position (λ b. same x b.item) bs ≡ None → length bs ≤ position_or_len (λ b. same x b.item) bs
  past_all bs none = grind (arith, common_steps)

  absent : (bs : List (Binding Item)) → position (λ b. same x b.item) bs ≡ None → lookup same bs x ≡ None
  absent [] none = refl
  absent (b ∷ bs) none =
      found_nowhere (λ cs. lookup same cs x) (λ c. same x c.item) (λ c. Some c.place) None refl (λ _ _. refl) (b ∷ bs) b
      (λ k inside. fails_before_first (λ c. same x c.item) (b ∷ bs) k b (omega (arith, past_all (b ∷ bs) none)))

  within : (bs : List (Binding Item)) (i : ℕ) → position (λ b. same x b.item) bs ≡ Some i → i < length bs
  within bs i at = grind (arith, common_steps)

  found : (bs : List (Binding Item)) (i : ℕ) → position (λ b. same x b.item) bs ≡ Some i → FoundAt same bs x i
  found bs i at =
      let first = λ (d : Binding Item). position-Some (λ b. same x b.item) bs i d at in
      record {
        inside = within bs i at;
        hits = λ d. (first d).1;
        reads = λ d. found_at (λ cs. lookup same cs x) (λ b. same x b.item) (λ b. Some b.place) None refl (λ _ _. refl) bs i d (first d).0 (first d).2 (first d).1;
      }

  pub searched : (bs : List (Binding Item)) (r : Option ℕ) → r ≡ position (λ b. same x b.item) bs → MatchOption r (lookup same bs x ≡ None) (FoundAt same bs x)
  searched bs None none = absent bs (sym none)
  searched bs (Some i) at = found bs i (sym at)
