-- Chains: parts of one, what one rests on, and the two writes that take a place out or put one in.
use Rattle.std.proofs.Common.{◌≡◌, ℕ, List, [], ◌∷◌, ◌++◌, Some, None, Option, sym, refl, ap, ◌∙◌}
use Rattle.std.proofs.lemmas.Option.{same_Some}
use Rattle.links.specs.Chains.{first_or, last_or, Chain, Off, Apart, Cross}
use Rattle.links.proofs.Places.{apart_left, apart_right, apart_cross, apart_out, cross_first, cross_rest}

-- ---- what is written, and what is left

-- The link l leads to none of the places xs.
abbrev pub Clear : Option ℕ → List ℕ → Type 0
Clear l [] = Unit {0}
Clear l (x ∷ xs) = (Some x ≡ l → ⊥) × Clear l xs

-- At each of the places xs, g is f, but for v at the place that the link l leads to.
abbrev pub Wrote : {M : Type 0} → (ℕ → M) → (ℕ → M) → Option ℕ → M → List ℕ → Type 0
Wrote f g l v [] = Unit {0}
Wrote f g l v (x ∷ xs) = ((Some x ≡ l → ⊥) → g x ≡ f x) × (Some x ≡ l → g x ≡ v) × Wrote f g l v xs

-- At each of the places xs, g is f.
abbrev pub Same : {M : Type 0} → (ℕ → M) → (ℕ → M) → List ℕ → Type 0
Same f g [] = Unit {0}
Same f g (x ∷ xs) = (g x ≡ f x) × Same f g xs

pub clear_none : (xs : List ℕ) → Clear None xs
clear_none [] = tt
clear_none (x ∷ xs) = ((λ e. cc), clear_none xs)

pub clear_off : (z : ℕ) (xs : List ℕ) → Off z xs → Clear (Some z) xs
clear_off z [] o = tt
clear_off z (x ∷ xs) o = ((λ q. o.0 (same_Some x z q)), clear_off z xs o.1)

module _ {M : Type 0} (f g : ℕ → M) where
  wrote_clear : (l : Option ℕ) (v : M) (xs : List ℕ) → Clear l xs → Wrote f g l v xs → Same f g xs
  wrote_clear l v [] k w = tt
  wrote_clear l v (x ∷ xs) k w = (w.0 k.0, wrote_clear l v xs k.1 w.2)

  wrote_left : (l : Option ℕ) (v : M) (xs zs : List ℕ) → Wrote f g l v (xs ++ zs) → Wrote f g l v xs
  wrote_left l v [] zs w = tt
  wrote_left l v (x ∷ xs) zs w = (w.0, w.1, wrote_left l v xs zs w.2)

  wrote_right : (l : Option ℕ) (v : M) (xs zs : List ℕ) → Wrote f g l v (xs ++ zs) → Wrote f g l v zs
  wrote_right l v [] zs w = w
  wrote_right l v (x ∷ xs) zs w = wrote_right l v xs zs w.2

  pub same_all : ((i : ℕ) → g i ≡ f i) → (xs : List ℕ) → Same f g xs
  same_all s [] = tt
  same_all s (x ∷ xs) = (s x, same_all s xs)

module _ {M : Type 0} (f g h : ℕ → M) where
  -- A write, then nothing that these places show; and the other way round.
  pub wrote_same : (l : Option ℕ) (v : M) (xs : List ℕ) → Wrote f g l v xs → Same g h xs → Wrote f h l v xs
  wrote_same l v [] w s = tt
  wrote_same l v (x ∷ xs) w s = ((λ n. s.0 ∙ w.0 n), (λ p. s.0 ∙ w.1 p), wrote_same l v xs w.2 s.1)

  pub same_wrote : (l : Option ℕ) (v : M) (xs : List ℕ) → Same f g xs → Wrote g h l v xs → Wrote f h l v xs
  same_wrote l v [] s w = tt
  same_wrote l v (x ∷ xs) s w = ((λ n. w.0 n ∙ s.0), (λ p. w.1 p), same_wrote l v xs s.1 w.2)

  pub same_then : (xs : List ℕ) → Same f g xs → Same g h xs → Same f h xs
  same_then [] a b = tt
  same_then (x ∷ xs) a b = (b.0 ∙ a.0, same_then xs a.1 b.1)

-- ---- the ends of two lists, one after the other

pub first_or_append : (xs ys : List ℕ) (n : Option ℕ) → first_or (xs ++ ys) n ≡ first_or xs (first_or ys n)
first_or_append [] ys n = refl
first_or_append (x ∷ xs) ys n = refl

pub last_or_append : (p : Option ℕ) (xs ys : List ℕ) → last_or p (xs ++ ys) ≡ last_or (last_or p xs) ys
last_or_append p [] ys = refl
last_or_append p (x ∷ xs) ys = last_or_append (Some x) xs ys

-- The last of some places is none that is off them.
off_last : (x : ℕ) (p : Option ℕ) (xs : List ℕ) → (Some x ≡ p → ⊥) → Off x xs → Some x ≡ last_or p xs → ⊥
off_last x p [] ne o e = ne e
off_last x p (y ∷ ys) ne o e = off_last x (Some y) ys (λ q. o.0 (sym (same_Some x y q))) o.1 e

-- The last of xs leads to none of zs, and the first of zs to none of xs.
pub clear_last : (p : Option ℕ) (xs zs : List ℕ) → Clear p zs → Cross xs zs → Clear (last_or p xs) zs
clear_last p xs [] k c = tt
clear_last p xs (z ∷ zs) k c = (off_last z p xs k.0 (cross_first xs z zs c), clear_last p xs zs k.1 (cross_rest xs z zs c))

pub clear_first : (n : Option ℕ) (xs zs : List ℕ) → Clear n xs → Cross xs zs → Clear (first_or zs n) xs
clear_first n xs [] k c = k
clear_first n xs (z ∷ zs) k c = clear_off z xs (cross_first xs z zs c)

-- ---- parts of a chain

module _ (next prev : ℕ → Option ℕ) where
  pub chain_left : (p : Option ℕ) (xs ys : List ℕ) (n : Option ℕ) → Chain next prev p (xs ++ ys) n → Chain next prev p xs (first_or ys n)
  chain_left p [] ys n h = tt
  chain_left p (x ∷ xs) ys n h = (h.0, h.1 ∙ first_or_append xs ys n, chain_left (Some x) xs ys n h.2)

  pub chain_right : (p : Option ℕ) (xs ys : List ℕ) (n : Option ℕ) → Chain next prev p (xs ++ ys) n → Chain next prev (last_or p xs) ys n
  chain_right p [] ys n h = h
  chain_right p (x ∷ xs) ys n h = chain_right (Some x) xs ys n h.2

  chain_join : (p : Option ℕ) (xs ys : List ℕ) (n : Option ℕ) → Chain next prev p xs (first_or ys n) → Chain next prev (last_or p xs) ys n → Chain next prev p (xs ++ ys) n
  chain_join p [] ys n h k = k
  chain_join p (x ∷ xs) ys n h k = (h.0, h.1 ∙ sym (first_or_append xs ys n), chain_join (Some x) xs ys n h.2 k)

-- ---- a chain after a write

module _ (next prev next' prev' : ℕ → Option ℕ) where
  -- What the places of a chain hold is all that it rests on.
  pub chain_frame : (p : Option ℕ) (xs : List ℕ) (n : Option ℕ) → Same next next' xs → Same prev prev' xs → Chain next prev p xs n → Chain next' prev' p xs n
  chain_frame p [] n s t h = tt
  chain_frame p (x ∷ xs) n s t h = (t.0 ∙ h.0, s.0 ∙ h.1, chain_frame (Some x) xs n s.1 t.1 h.2)

  -- The last link on is written.
  chain_relast : (p : Option ℕ) (xs : List ℕ) (n v : Option ℕ) → Apart xs → Wrote next next' (last_or p xs) v xs → Same prev prev' xs → Chain next prev p xs n → Chain next' prev' p xs v
  chain_relast p [] n v a w s h = tt
  chain_relast p (x ∷ []) n v a w s h = (s.0 ∙ h.0, w.1 refl, tt)
  chain_relast p (x ∷ y ∷ ys) n v a w s h = (
    s.0 ∙ h.0,
    w.0 (off_last x (Some y) ys (λ q. a.0.0 (sym (same_Some x y q))) a.0.1) ∙ h.1,
    chain_relast (Some x) (y ∷ ys) n v a.1 w.2 s.1 h.2,
  )

  -- The first link back is written.
  chain_refirst : (p : Option ℕ) (xs : List ℕ) (n v : Option ℕ) → Apart xs → Same next next' xs → Wrote prev prev' (first_or xs n) v xs → Chain next prev p xs n → Chain next' prev' v xs n
  chain_refirst p [] n v a s w h = tt
  chain_refirst p (x ∷ xs) n v a s w h =
      (w.1 refl, s.0 ∙ h.1, chain_frame (Some x) xs n s.1 (wrote_clear prev prev' (Some x) v xs (clear_off x xs a.0) w.2) h.2)

  module _ (xs zs : List ℕ) where
    -- xs and zs, each a chain, get a new link on from the last of xs and a new link back from the first of zs.
    chain_seam : (m q a b : Option ℕ) → Apart (xs ++ zs) → Wrote next next' (last_or None xs) a (xs ++ zs) → Wrote prev prev' (first_or zs None) b (xs ++ zs) → Chain next prev None xs m → Chain next prev q zs None → Chain next' prev' None xs a × Chain next' prev' b zs None
    chain_seam m q a b ap wn wp h k = (
      chain_relast None xs m a (apart_left xs zs ap) (wrote_left next next' (last_or None xs) a xs zs wn) (wrote_clear prev prev' (first_or zs None) b xs (clear_first None xs zs (clear_none xs) (apart_cross xs zs ap)) (wrote_left prev prev' (first_or zs None) b xs zs wp)) h,
      chain_refirst q zs None b (apart_right xs zs ap) (wrote_clear next next' (last_or None xs) a zs (clear_last None xs zs (clear_none zs) (apart_cross xs zs ap)) (wrote_right next next' (last_or None xs) a xs zs wn)) (wrote_right prev prev' (first_or zs None) b xs zs wp) k,
    )

    -- y is taken out from between xs and zs.
    pub chain_unlink : (y : ℕ) → Apart (xs ++ y ∷ zs) → Chain next prev None (xs ++ y ∷ zs) None → Wrote next next' (prev y) (next y) (xs ++ zs) → Wrote prev prev' (next y) (prev y) (xs ++ zs) → Chain next' prev' None (xs ++ zs) None
    chain_unlink y ap h wn wp =
        let r = chain_right next prev None xs (y ∷ zs) None h in
        let wn' : Wrote next next' (last_or None xs) (first_or zs None) (xs ++ zs) = rw (← r.0, ← r.1) wn in
        let wp' : Wrote prev prev' (first_or zs None) (last_or None xs) (xs ++ zs) = rw (← r.0, ← r.1) wp in
        let s = chain_seam (Some y) (Some y) (first_or zs None) (last_or None xs) (apart_out xs y zs ap) wn' wp' (chain_left next prev None xs (y ∷ zs) None h) r.2 in
        chain_join next' prev' None xs zs None s.0 s.1

    -- y, which is none of them, is put in between xs and zs.
    pub chain_link : (y : ℕ) → Apart (xs ++ zs) → Chain next prev None (xs ++ zs) None → Wrote next next' (last_or None xs) (Some y) (xs ++ zs) → Wrote prev prev' (first_or zs None) (Some y) (xs ++ zs) → next' y ≡ first_or zs None → prev' y ≡ last_or None xs → Chain next' prev' None (xs ++ y ∷ zs) None
    chain_link y ap h wn wp en ep =
        let s = chain_seam (first_or zs None) (last_or None xs) (Some y) (Some y) ap wn wp (chain_left next prev None xs zs None h) (chain_right next prev None xs zs None h) in
        chain_join next' prev' None xs (y ∷ zs) None s.0 (ep, en, s.1)
