-- Lists of places: that none comes twice, and that two lists share none.
use Rattle.std.proofs.Common.{◌≡◌, ℕ, List, [], ◌∷◌, ◌++◌, sym}
use Rattle.std.proofs.ByRecursion.{All-append}
use Rattle.links.specs.Chains.{Off, Apart, Cross}
use Rattle.links.proofs.Alls.{all_left, all_right}

-- ---- one place and a list

pub off_left : (y : ℕ) (xs zs : List ℕ) → Off y (xs ++ zs) → Off y xs
off_left y xs zs o = all_left (λ x. x ≡ y → ⊥) xs zs o

pub off_right : (y : ℕ) (xs zs : List ℕ) → Off y (xs ++ zs) → Off y zs
off_right y xs zs o = all_right (λ x. x ≡ y → ⊥) xs zs o

pub off_join : (y : ℕ) (xs zs : List ℕ) → Off y xs → Off y zs → Off y (xs ++ zs)
off_join y xs zs o q = All-append (λ x. x ≡ y → ⊥) xs zs o q

-- ---- two lists

pub cross_left : (xs zs ws : List ℕ) → Cross (xs ++ zs) ws → Cross xs ws
cross_left xs zs ws c = all_left (λ x. Off x ws) xs zs c

pub cross_right : (xs zs ws : List ℕ) → Cross (xs ++ zs) ws → Cross zs ws
cross_right xs zs ws c = all_right (λ x. Off x ws) xs zs c

pub cross_join : (xs zs ws : List ℕ) → Cross xs ws → Cross zs ws → Cross (xs ++ zs) ws
cross_join xs zs ws c d = All-append (λ x. Off x ws) xs zs c d

-- The first of the second list is off the first list, and so is the rest.
pub cross_first : (xs : List ℕ) (z : ℕ) (zs : List ℕ) → Cross xs (z ∷ zs) → Off z xs
cross_first [] z zs c = tt
cross_first (x ∷ xs) z zs c = ((λ e. c.0.0 (sym e)), cross_first xs z zs c.1)

pub cross_rest : (xs : List ℕ) (z : ℕ) (zs : List ℕ) → Cross xs (z ∷ zs) → Cross xs zs
cross_rest [] z zs c = tt
cross_rest (x ∷ xs) z zs c = (c.0.1, cross_rest xs z zs c.1)

cross_put : (xs : List ℕ) (z : ℕ) (zs : List ℕ) → Off z xs → Cross xs zs → Cross xs (z ∷ zs)
cross_put [] z zs o c = tt
cross_put (x ∷ xs) z zs o c = (((λ e. o.0 (sym e)), c.0), cross_put xs z zs o.1 c.1)

pub cross_sym : (xs ys : List ℕ) → Cross xs ys → Cross ys xs
cross_sym xs [] c = tt
cross_sym xs (y ∷ ys) c = (cross_first xs y ys c, cross_sym xs ys (cross_rest xs y ys c))

-- ---- no place twice

pub apart_left : (xs zs : List ℕ) → Apart (xs ++ zs) → Apart xs
apart_left [] zs a = tt
apart_left (x ∷ xs) zs a = (off_left x xs zs a.0, apart_left xs zs a.1)

pub apart_right : (xs zs : List ℕ) → Apart (xs ++ zs) → Apart zs
apart_right [] zs a = a
apart_right (x ∷ xs) zs a = apart_right xs zs a.1

pub apart_cross : (xs zs : List ℕ) → Apart (xs ++ zs) → Cross xs zs
apart_cross [] zs a = tt
apart_cross (x ∷ xs) zs a = (off_right x xs zs a.0, apart_cross xs zs a.1)

pub apart_join : (xs zs : List ℕ) → Apart xs → Apart zs → Cross xs zs → Apart (xs ++ zs)
apart_join [] zs a b c = b
apart_join (x ∷ xs) zs a b c = (off_join x xs zs a.0 c.0, apart_join xs zs a.1 b c.1)

-- A place taken out, which is then off the rest, and one put in.
pub apart_out : (xs : List ℕ) (y : ℕ) (zs : List ℕ) → Apart (xs ++ y ∷ zs) → Apart (xs ++ zs)
apart_out xs y zs a =
    apart_join xs zs (apart_left xs (y ∷ zs) a) (apart_right xs (y ∷ zs) a).1 (cross_rest xs y zs (apart_cross xs (y ∷ zs) a))

pub apart_off : (xs : List ℕ) (y : ℕ) (zs : List ℕ) → Apart (xs ++ y ∷ zs) → Off y (xs ++ zs)
apart_off xs y zs a = off_join y xs zs (cross_first xs y zs (apart_cross xs (y ∷ zs) a)) (apart_right xs (y ∷ zs) a).0

pub apart_in : (xs : List ℕ) (y : ℕ) (zs : List ℕ) → Off y (xs ++ zs) → Apart (xs ++ zs) → Apart (xs ++ y ∷ zs)
apart_in xs y zs o a =
    apart_join xs (y ∷ zs) (apart_left xs zs a) (off_right y xs zs o, apart_right xs zs a) (cross_put xs y zs (off_left y xs zs o) (apart_cross xs zs a))
