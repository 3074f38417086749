-- What holds of each element of a list, of its parts, and of a list with one element more or less.
use Rattle.std.proofs.Common.{List, [], ◌∷◌, ◌++◌}
use Rattle.std.specs.List.{AllByRecursion as Each}

module _ {X : Type 0} (P : X → Type 0) where
  pub all_every : ((x : X) → P x) → (xs : List X) → Each P xs
  all_every h [] = tt
  all_every h (x ∷ xs) = (h x, all_every h xs)

  pub all_left : (ls rs : List X) → Each P (ls ++ rs) → Each P ls
  all_left [] rs a = tt
  all_left (x ∷ ls) rs a = (a.0, all_left ls rs a.1)

  pub all_right : (ls rs : List X) → Each P (ls ++ rs) → Each P rs
  all_right [] rs a = a
  all_right (x ∷ ls) rs a = all_right ls rs a.1

  pub all_mid : (ls : List X) (y : X) (rs : List X) → Each P (ls ++ y ∷ rs) → P y
  all_mid ls y rs a = (all_right ls (y ∷ rs) a).0

  pub all_out : (ls : List X) (y : X) (rs : List X) → Each P (ls ++ y ∷ rs) → Each P (ls ++ rs)
  all_out [] y rs a = a.1
  all_out (x ∷ ls) y rs a = (a.0, all_out ls y rs a.1)

  pub all_in : (ls : List X) (y : X) (rs : List X) → P y → Each P (ls ++ rs) → Each P (ls ++ y ∷ rs)
  all_in [] y rs p a = (p, a)
  all_in (x ∷ ls) y rs p a = (a.0, all_in ls y rs p a.1)
