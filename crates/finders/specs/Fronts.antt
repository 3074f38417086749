-- Two facts on the front of a row of slots, for the ghost members of a finder that keeps its bindings there.
use Rattle.std.specs.Prelude.{◌≡◌, ℕ, ◌≤◌, Bool, List, length, take}
use Rattle.std.proofs.Common.{sym, subst, arith, length-take}
use Rattle.std.proofs.lemmas.List.{nil_from_length}
use Rattle.finders.specs.declared.finder.Binding.{Binding}
use Rattle.finders.specs.Lookup.{Apart}

-- A front is no longer than the whole.
pub front_within : {X : Type 0} (n : ℕ) (xs : List X) → length (take n xs) ≤ length xs
front_within n xs = omega (arith, length-take n xs)

-- No bindings are pairwise of different items.
pub empty_apart : {Item : Type 0} (same : Item → Item → Bool) (bs : List (Binding Item)) → length bs ≡ 0 → Apart same bs
empty_apart same bs empty = subst (Apart same) (sym (nil_from_length bs empty)) tt
