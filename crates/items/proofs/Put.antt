-- A list with one element put in somewhere: the one relation that insertion and removal share.
use Rattle.std.proofs.Common.{◌≡◌, suc, List, [], ◌∷◌, ◌++◌, length, refl, ap}
use Rattle.std.specs.List.{AllByRecursion as Each}

-- Put e rest whole: the whole is the rest with e put in somewhere.
pub data Put {X : Type 0} (e : X) : List X → List X → Type 0 where
  here : {rest : List X} → Put e rest (e ∷ rest)
  there : {f : X} {rest whole : List X} → Put e rest whole → Put e (f ∷ rest) (f ∷ whole)

module _ {X : Type 0} where
  pub put_between : (front back : List X) {e : X} → Put e (front ++ back) (front ++ e ∷ back)
  put_between [] back = here
  put_between (f ∷ front) back = there (put_between front back)

  pub put_length : {e : X} {rest whole : List X} → Put e rest whole → length whole ≡ suc (length rest)
  put_length here = refl
  put_length (there p) = ap suc (put_length p)

  pub all_out : (P : X → Type 0) {e : X} {rest whole : List X} → Put e rest whole → Each P whole → P e × Each P rest
  all_out P here a = (a.0, a.1)
  all_out P (there p) a = let r = all_out P p a.1 in (r.0, (a.0, r.1))

  pub all_in : (P : X → Type 0) {e : X} {rest whole : List X} → Put e rest whole → P e → Each P rest → Each P whole
  all_in P here h a = (h, a)
  all_in P (there p) h a = (a.0, all_in P p h a.1)
