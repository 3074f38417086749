-- Lists of groups: what rises along them, how many counters they have, and which.
use Rattle.std.proofs.Common.{◌≡◌, ℕ, ◌+◌, ◌<◌, ◌≤◌, List, [], ◌∷◌, ◌++◌, length, sym, ap, inl, inr, append_assoc, arith}
use Rattle.std.specs.List.{AllByRecursion as Each}
use Rattle.std.proofs.lemmas.List.{length-append, append-nil}
use Rattle.links.proofs.Alls.{all_mid, all_out, all_in}
use Rattle.table.specs.Groups.{Group, group, with_group, with_free}
use Rattle.table.specs.Stands.{Rises, In, Among, tally}

module _ {A : Type 0} where
  pub rises_out : (f : A → ℕ) (ls : List A) (g : A) (rs : List A) → Rises f (ls ++ g ∷ rs) → Rises f (ls ++ rs)
  rises_out f [] g rs h = h.1
  rises_out f (x ∷ ls) g rs h = (all_out (λ y. f x < f y) ls g rs h.0, rises_out f ls g rs h.1)

  pub rises_in : (f : A → ℕ) (ls : List A) (g : A) (rs : List A) → Rises f (ls ++ rs) → Each (λ x. f x < f g) ls → Each (λ x. f g < f x) rs → Rises f (ls ++ g ∷ rs)
  rises_in f [] g rs h lo hi = (hi, h)
  rises_in f (x ∷ ls) g rs h lo hi = (all_in (λ y. f x < f y) ls g rs lo.0 h.0, rises_in f ls g rs h.1 lo.1 hi)

  pub rises_before : (f : A → ℕ) (ls : List A) (g : A) (rs : List A) → Rises f (ls ++ g ∷ rs) → Each (λ x. f x < f g) ls
  rises_before f [] g rs h = tt
  rises_before f (x ∷ ls) g rs h = (all_mid (λ y. f x < f y) ls g rs h.0, rises_before f ls g rs h.1)

  pub rises_right : (f : A → ℕ) (ls rs : List A) → Rises f (ls ++ rs) → Rises f rs
  rises_right f [] rs h = h
  rises_right f (x ∷ ls) rs h = rises_right f ls rs h.1

  -- f' is f on the list.
  pub all_agree : (Q : ℕ → Type 0) (f f' : A → ℕ) (xs : List A) → Each (λ x. f' x ≡ f x) xs → Each (λ x. Q (f x)) xs → Each (λ x. Q (f' x)) xs
  all_agree Q f f' [] e h = tt
  all_agree Q f f' (x ∷ xs) e h = (rw e.0 h.0, all_agree Q f f' xs e.1 h.1)

  pub rises_agree : (f f' : A → ℕ) (xs : List A) → Each (λ x. f' x ≡ f x) xs → Rises f xs → Rises f' xs
  rises_agree f f' [] e h = tt
  rises_agree f f' (x ∷ xs) e h =
      let k : Each (λ y. f x < f' y) xs = all_agree (λ n. f x < n) f f' xs e.1 h.0 in
      (rw e.0 k, rises_agree f f' xs e.1 h.1)

-- ---- one group loses a counter, and goes if that was its last

pub parts : (ls : List Group) (b : ℕ) (ms : List ℕ) (rs : List Group) → (ls ++ with_group b ms []) ++ rs ≡ ls ++ with_group b ms rs
parts ls b [] rs = ap (λ (x : List Group). x ++ rs) (append-nil ls)
parts ls b (x ∷ ms) rs = append_assoc ls (group b (x ∷ ms) ∷ []) rs

pub all_with : (P : Group → Type 0) (ls : List Group) (b : ℕ) (os ms : List ℕ) (rs : List Group) → ((x : ℕ) (xs : List ℕ) → P (group b (x ∷ xs))) → Each P (ls ++ group b os ∷ rs) → Each P (ls ++ with_group b ms rs)
all_with P ls b os [] rs k h = all_out P ls (group b os) rs h
all_with P ls b os (x ∷ ms) rs k h = all_in P ls (group b (x ∷ ms)) rs (k x ms) (all_out P ls (group b os) rs h)

pub all_with_it : (P : Group → Type 0) (ls : List Group) (b : ℕ) (os ms : List ℕ) (rs : List Group) → P (group b ms) → Each P (ls ++ group b os ∷ rs) → Each P (ls ++ with_group b ms rs)
all_with_it P ls b os [] rs k h = all_out P ls (group b os) rs h
all_with_it P ls b os (x ∷ ms) rs k h = all_in P ls (group b (x ∷ ms)) rs k (all_out P ls (group b os) rs h)

pub rises_with : (f : ℕ → ℕ) (ls : List Group) (b : ℕ) (os ms : List ℕ) (rs : List Group) → Rises (λ g. f g.at) (ls ++ group b os ∷ rs) → Rises (λ g. f g.at) (ls ++ with_group b ms rs)
rises_with f ls b os [] rs h = rises_out (λ g. f g.at) ls (group b os) rs h
rises_with f ls b os (x ∷ ms) rs h =
    let v : Group → ℕ = λ g. f g.at in
    rises_in v ls (group b (x ∷ ms)) rs (rises_out v ls (group b os) rs h) (rises_before v ls (group b os) rs h) (rises_right v ls (group b os ∷ rs) h).0

pub tally_append : (ls rs : List Group) → tally (ls ++ rs) ≡ tally ls + tally rs
tally_append [] rs = omega arith
tally_append (g ∷ ls) rs = let h = tally_append ls rs in omega arith

pub tally_with : (ls : List Group) (b : ℕ) (ms : List ℕ) (rs : List Group) → tally (ls ++ with_group b ms rs) ≡ tally ls + (length ms + tally rs)
tally_with ls b [] rs = let h = tally_append ls rs in omega arith
tally_with ls b (x ∷ ms) rs = tally_append ls (group b (x ∷ ms) ∷ rs)

pub length_with : (ls : List Group) (b : ℕ) (os ms : List ℕ) (rs : List Group) (fs : List ℕ) → length (ls ++ with_group b ms rs) + length (with_free b ms fs) ≡ length (ls ++ group b os ∷ rs) + length fs
length_with ls b os [] rs fs =
    let h = length-append ls rs in
    let k = length-append ls (group b os ∷ rs) in
    let m = length-append fs (b ∷ []) in omega arith
length_with ls b os (x ∷ ms) rs fs =
    let h = length-append ls (group b (x ∷ ms) ∷ rs) in
    let k = length-append ls (group b os ∷ rs) in omega arith

pub length_tally : (gs : List Group) → Each (λ g. 1 ≤ length g.members) gs → length gs ≤ tally gs
length_tally [] h = omega arith
length_tally (g ∷ gs) h = let k = length_tally gs h.1 in let j = h.0 in omega arith

-- ---- which counters they are

pub in_left : (q : ℕ) (xs ys : List ℕ) → In q xs → In q (xs ++ ys)
in_left q [] ys i = absurd i
in_left q (x ∷ xs) ys (inl e) = inl e
in_left q (x ∷ xs) ys (inr i) = inr (in_left q xs ys i)

pub in_right : (q : ℕ) (xs ys : List ℕ) → In q ys → In q (xs ++ ys)
in_right q [] ys i = i
in_right q (x ∷ xs) ys i = inr (in_right q xs ys i)

pub in_out : (q p : ℕ) (xs zs : List ℕ) → (q ≡ p → ⊥) → In q (xs ++ p ∷ zs) → In q (xs ++ zs)
in_out q p [] zs n (inl e) = absurd (n (sym e))
in_out q p [] zs n (inr i) = i
in_out q p (x ∷ xs) zs n (inl e) = inl e
in_out q p (x ∷ xs) zs n (inr i) = inr (in_out q p xs zs n i)

pub among_right : (q : ℕ) (ls rs : List Group) → Among q rs → Among q (ls ++ rs)
among_right q [] rs a = a
among_right q (g ∷ ls) rs a = inr (among_right q ls rs a)

-- A group is changed, comes in, or goes out.
pub among_swap : (q : ℕ) (ls : List Group) (g h : Group) (rs : List Group) → (In q g.members → In q h.members) → Among q (ls ++ g ∷ rs) → Among q (ls ++ h ∷ rs)
among_swap q [] g h rs k (inl i) = inl (k i)
among_swap q [] g h rs k (inr a) = inr a
among_swap q (x ∷ ls) g h rs k (inl i) = inl i
among_swap q (x ∷ ls) g h rs k (inr a) = inr (among_swap q ls g h rs k a)

pub among_in : (q : ℕ) (ls : List Group) (h : Group) (rs : List Group) → Among q (ls ++ rs) → Among q (ls ++ h ∷ rs)
among_in q [] h rs a = inr a
among_in q (x ∷ ls) h rs (inl i) = inl i
among_in q (x ∷ ls) h rs (inr a) = inr (among_in q ls h rs a)

among_out : (q : ℕ) (ls : List Group) (b : ℕ) (os : List ℕ) (rs : List Group) → (In q os → ⊥) → Among q (ls ++ group b os ∷ rs) → Among q (ls ++ rs)
among_out q [] b os rs k (inl i) = absurd (k i)
among_out q [] b os rs k (inr a) = a
among_out q (x ∷ ls) b os rs k (inl i) = inl i
among_out q (x ∷ ls) b os rs k (inr a) = inr (among_out q ls b os rs k a)

pub among_with : (q : ℕ) (ls : List Group) (b : ℕ) (os ms : List ℕ) (rs : List Group) → (In q os → In q ms) → Among q (ls ++ group b os ∷ rs) → Among q (ls ++ with_group b ms rs)
among_with q ls b os [] rs k a = among_out q ls b os rs k a
among_with q ls b os (x ∷ ms) rs k a = among_swap q ls (group b os) (group b (x ∷ ms)) rs k a

-- Where a counter stands among some, and among groups.
pub record Spot (q : ℕ) (ms : List ℕ) : Type 0 where
  pub xs : List ℕ
  pub zs : List ℕ
  pub is : ms ≡ xs ++ q ∷ zs

pub record Seat (q : ℕ) (gs : List Group) : Type 0 where
  pub ls : List Group
  pub b : ℕ
  pub xs : List ℕ
  pub zs : List ℕ
  pub rs : List Group
  pub is : gs ≡ ls ++ group b (xs ++ q ∷ zs) ∷ rs

pub spot : (q : ℕ) (ms : List ℕ) → In q ms → Spot q ms
spot q [] i = absurd i
spot q (x ∷ ms) (inl e) = record { xs = []; zs = ms; is = ap (λ (y : ℕ). y ∷ ms) e }
spot q (x ∷ ms) (inr i) = let s = spot q ms i in record { xs = x ∷ s.xs; zs = s.zs; is = ap (λ (m : List ℕ). x ∷ m) s.is }

pub seat : (q : ℕ) (gs : List Group) → Among q gs → Seat q gs
seat q [] a = absurd a
seat q (g ∷ gs) (inl i) =
    let s = spot q g.members i in
    record { ls = []; b = g.at; xs = s.xs; zs = s.zs; rs = gs; is = ap (λ (m : List ℕ). group g.at m ∷ gs) s.is }
seat q (g ∷ gs) (inr a) =
    let s = seat q gs a in
    record { ls = g ∷ s.ls; b = s.b; xs = s.xs; zs = s.zs; rs = s.rs; is = ap (λ (m : List Group). g ∷ m) s.is }
