-- Reading after an edit: what a field is at the edited place and at every other, and that a table keeps its length.
use Rattle.std.proofs.Common.{◌≡◌, ℕ, zero, suc, ◌<◌, ◌≤◌, List, [], ◌∷◌, length, get_or, set, Some, None, Option, refl, ap, sym, ◌∙◌, le_of_suc-le-suc, not-suc-le-zero}
use Rattle.links.specs.Tables.{read, edit, edit_at}

module _ {A : Type 0} where
  -- A store at a place is an edit.
  pub set_edit : (e : A → A) (t : List A) (i : ℕ) (d : A) → set t i (e (get_or t i d)) ≡ edit e i t
  set_edit e [] i d = refl
  set_edit e (x ∷ t) zero d = refl
  set_edit e (x ∷ t) (suc i) d = ap (λ (s : List A). x ∷ s) (set_edit e t i d)

  pub edit_past : (e : A → A) (t : List A) (i : ℕ) → length t ≤ i → t ≡ edit e i t
  edit_past e [] i h = refl
  edit_past e (x ∷ t) zero h = absurd (not-suc-le-zero h)
  edit_past e (x ∷ t) (suc i) h = ap (λ (s : List A). x ∷ s) (edit_past e t i (le_of_suc-le-suc h))

  -- What a store behind a place's reference leaves.
  pub put_place : (e : A → A) (t : List A) (i : ℕ) (x y : A) → x ≡ get_or t i x → y ≡ e x → set t i y ≡ edit e i t
  put_place e t i x y h k = let e' : y ≡ e (get_or t i x) = k ∙ ap e h in rw e' (set_edit e t i x)

  pub length_edit : (e : A → A) (i : ℕ) (t : List A) → length (edit e i t) ≡ length t
  length_edit e i [] = refl
  length_edit e zero (x ∷ t) = refl
  length_edit e (suc i) (x ∷ t) = ap suc (length_edit e i t)

  pub length_edit_at : (e : A → A) (l : Option ℕ) (t : List A) → length (edit_at l e t) ≡ length t
  length_edit_at e None t = refl
  length_edit_at e (Some i) t = length_edit e i t

  module _ {M : Type 0} (f : A → M) (d : M) where
    pub read_within : (t : List A) (i : ℕ) (x : A) → i < length t → read f d t i ≡ f (get_or t i x)
    read_within [] i x h = absurd (not-suc-le-zero h)
    read_within (y ∷ t) zero x h = refl
    read_within (y ∷ t) (suc i) x h = read_within t i x (le_of_suc-le-suc h)

    -- What a slice's `get` and an index give.
    pub read_found : (t : List A) (i : ℕ) (x : A) → i < length t → x ≡ get_or t i x → read f d t i ≡ f x
    read_found t i x h e = read_within t i x h ∙ ap f (sym e)

    pub read_past : (t : List A) (i : ℕ) → length t ≤ i → read f d t i ≡ d
    read_past [] i h = refl
    read_past (y ∷ t) zero h = absurd (not-suc-le-zero h)
    read_past (y ∷ t) (suc i) h = read_past t i (le_of_suc-le-suc h)

    pub read_same : (e : A → A) (v : M) → ((x : A) → f (e x) ≡ v) → (t : List A) (i : ℕ) → i < length t → read f d (edit e i t) i ≡ v
    read_same e v q [] i h = absurd (not-suc-le-zero h)
    read_same e v q (y ∷ t) zero h = q y
    read_same e v q (y ∷ t) (suc i) h = read_same e v q t i (le_of_suc-le-suc h)

    pub read_other : (e : A → A) (t : List A) (i j : ℕ) → (j ≡ i → ⊥) → read f d (edit e i t) j ≡ read f d t j
    read_other e [] i j h = refl
    read_other e (y ∷ t) zero zero h = absurd (h refl)
    read_other e (y ∷ t) zero (suc j) h = refl
    read_other e (y ∷ t) (suc i) zero h = refl
    read_other e (y ∷ t) (suc i) (suc j) h = read_other e t i j (λ q. h (ap suc q))

    pub read_kept : (e : A → A) → ((x : A) → f (e x) ≡ f x) → (t : List A) (i j : ℕ) → read f d (edit e i t) j ≡ read f d t j
    read_kept e q [] i j = refl
    read_kept e q (y ∷ t) zero zero = q y
    read_kept e q (y ∷ t) zero (suc j) = refl
    read_kept e q (y ∷ t) (suc i) zero = refl
    read_kept e q (y ∷ t) (suc i) (suc j) = read_kept e q t i j

    pub read_kept_at : (e : A → A) → ((x : A) → f (e x) ≡ f x) → (l : Option ℕ) (t : List A) (j : ℕ) → read f d (edit_at l e t) j ≡ read f d t j
    read_kept_at e q None t j = refl
    read_kept_at e q (Some i) t j = read_kept e q t i j
