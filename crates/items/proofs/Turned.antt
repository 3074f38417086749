-- What holds of each element of a list holds of the list turned round.
use Rattle.std.proofs.Common.{List, [], ◌∷◌, reverse, sym, subst}
use Rattle.std.specs.List.{AllByRecursion as Each}
use mathlib.Core.List.{reverse-cons}
use Rattle.std.proofs.ByRecursion.{All-append}

pub all_reverse : {X : Type 0} (P : X → Type 0) (xs : List X) → Each P xs → Each P (reverse xs)
all_reverse P [] a = tt
all_reverse P (x ∷ xs) a = subst (Each P) (sym (reverse-cons x xs)) (All-append P (reverse xs) (x ∷ []) (all_reverse P xs a.1) (a.0, tt))
