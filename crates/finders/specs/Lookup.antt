-- What a list of bindings stands for: a map from items, up to sameness, to places.
use Rattle.std.specs.Prelude.{◌≡◌, ℕ, Bool, false, cond, List, [], ◌∷◌, Some, None, Option}
use Rattle.finders.specs.declared.finder.Binding.{Binding}
use Rattle.std.specs.List.{AllByRecursion as Each}

module _ {Item : Type 0} (same : Item → Item → Bool) where
  -- The place of the first binding whose item is the same as x, or none.
  abbrev pub lookup : List (Binding Item) → Item → Option ℕ
  lookup [] x = None
  lookup (b ∷ bs) x = cond (same x b.item) (Some b.place) (lookup bs x)

  -- No binding has an item that is the same as x.
  abbrev pub Lacks : List (Binding Item) → Item → Type 0
  Lacks bs x = Each (λ b. same x b.item ≡ false) bs

  -- No two bindings have items that are the same.
  abbrev pub Apart : List (Binding Item) → Type 0
  Apart [] = Unit {0}
  Apart (b ∷ bs) = Lacks bs b.item × Apart bs
