-- The counts along the row of counters: they never fall, since they rise from bucket to bucket, and none is above the total.
use Rattle.std.proofs.Common.{◌≡◌, ℕ, ◌<◌, ◌≤◌, ltb, List, [], ◌∷◌, ◌++◌, length, sym, refl, subst, append-nil, arith}
use mathlib.Core.Logic.{∥∥₁_elim}
use Rattle.std.specs.List.{AllByRecursion as Each, AllByRecursion-prop}
use Rattle.std.proofs.lemmas.List.{length-reverse}
use Rattle.std.proofs.ByRecursion.{All-weaker, All-append, All-drop, All-map}
use Rattle.std.proofs.lemmas.Bool.{cond_both}
use mathlib.Core.HLevel.{Unit-prop, ×_prop}
use Rattle.std.proofs.Props.{props}
use Rattle.items.proofs.Turned.{all_reverse}
use Rattle.rows.specs.declared.entry.Entry.{Entry}
use Rattle.rows.specs.Promises.{Pairwise, Sorted}
use Rattle.rows.specs.Questions.{by_position, first_count, outside}
use Rattle.rows.proofs.Lists.{pairwise_map}
use Rattle.rows.proofs.Positions.{HighestFirst, positions_fall}
use Rattle.table.specs.declared.place.Place.{Place}
use Rattle.table.specs.Placed.{Placed, entries}
use Rattle.table.specs.Groups.{Group}
use Rattle.table.specs.Stands.{Rises, worth}
use Rattle.table.proofs.Rows.{row_of, row, row_counts, row_sound}
use Rattle.counters.specs.declared.counters.Counters.{Counters}
use Rattle.counters.specs.Meaning.{size, placed}
use Rattle.counters.proofs.Hits.{used_of}
use Rattle.lists.proofs.Fronts.{Next}
use Rattle.lists.proofs.Places.{length_entries}

-- ---- pairs

module _ {X : Type 0} where
  pairwise_prop : (R : X → X → Type 0) → ((x y : X) → IsProp (R x y)) → (xs : List X) → IsProp (Pairwise R xs)
  pairwise_prop R h [] = Unit-prop
  pairwise_prop R h (x ∷ xs) = ×_prop (AllByRecursion-prop (R x) (h x) xs) (pairwise_prop R h xs)

  pairwise_append : (R : X → X → Type 0) (xs ys : List X) → Pairwise R xs → Pairwise R ys → Each (λ x. Each (R x) ys) xs → Pairwise R (xs ++ ys)
  pairwise_append R [] ys a b c = b
  pairwise_append R (x ∷ xs) ys a b c = (All-append (R x) xs ys a.0 c.0, pairwise_append R xs ys a.1 b c.1)

module _ {T : Type 0} where
  abbrev Rising : List (Placed T) → Type 0
  Rising es = Pairwise (λ a b. a.entry.count ≤ b.entry.count) es

  level : (v : ℕ) (es : List (Placed T)) → Each (λ e. e.entry.count ≡ v) es → Rising es
  level v [] a = tt
  level v (e ∷ es) a =
      let same = a.0 in
      (All-weaker (λ f. f.entry.count ≡ v) (λ f. e.entry.count ≤ f.entry.count) (λ f h. omega arith) es a.1, level v es a.1)

  row_rises : (t : List (Place T)) (gs : List Group) → Rises (worth t) gs → Rising (row t gs)
  row_rises t [] r = tt
  row_rises t (g ∷ gs) r =
      let own : Each (λ e. e.entry.count ≡ worth t g) (row_of t g) = subst (Each (λ e. e.entry.count ≡ worth t g)) (append-nil (row_of t g)) (row_counts (λ v. v ≡ worth t g) t (g ∷ []) (refl, tt)) in
      let above : Each (λ e. worth t g ≤ e.entry.count) (row t gs) =
      row_counts (λ v. worth t g ≤ v) t gs (All-weaker (λ h. worth t g < worth t h) (λ h. worth t g ≤ worth t h) (λ h l. omega arith) gs r.0) in
      pairwise_append _ (row_of t g) (row t gs) (level (worth t g) (row_of t g) own) (row_rises t gs r.1)
      (All-weaker (λ e. e.entry.count ≡ worth t g) (λ e. Each (λ f. e.entry.count ≤ f.entry.count) (row t gs)) (λ e same. All-weaker (λ f. worth t g ≤ f.entry.count) (λ f. e.entry.count ≤ f.entry.count) (λ f l. omega arith) (row t gs) above) (row_of t g) own)

  pub sorted : (s : Counters T) → Sorted (entries (placed s))
  sorted s =
      ∥∥₁_elim s.sound (hlevel (props, pairwise_prop)) (λ st.
      pairwise_map _ (λ e. e.entry) (placed s) (subst Rising (sym (row_sound _ _ _ _ st.gs st.fs st.sound)) (row_rises _ st.gs st.sound.rising)))

  -- By position they never rise.
  pub highest_first : (s : Counters T) → HighestFirst (by_position (entries (placed s)))
  highest_first s = positions_fall (entries (placed s)) (sorted s)

  -- ---- no count is above the total

  counts_under : (s : Counters T) → Each (λ e. e.count ≤ s.total) (entries (placed s))
  counts_under s =
      ∥∥₁_elim s.sound (hlevel props) (λ st.
      All-map (λ e. e.count ≤ s.total) (λ e. e.entry) (placed s) (subst (Each (λ e. e.entry.count ≤ s.total)) (sym (row_sound _ _ _ _ st.gs st.fs st.sound)) (row_counts (λ v. v ≤ s.total) _ st.gs st.sound.under)))

  pub count_under : (s : Counters T) (i : ℕ) (e : Entry T) → Next (by_position (entries (placed s))) i e → e.count ≤ s.total
  count_under s i e at =
      let all = All-drop (λ e. e.count ≤ s.total) i (by_position (entries (placed s))) (all_reverse (λ e. e.count ≤ s.total) (entries (placed s)) (counts_under s)) in
      (subst (Each (λ e. e.count ≤ s.total)) at.rest all).0

  first_under : (most : ℕ) (row : List (Entry T)) → Each (λ e. e.count ≤ most) row → first_count 0 row ≤ most
  first_under most [] a = omega arith
  first_under most (e ∷ row) a = a.0

  pub outside_under : (s : Counters T) → outside (size s) (entries (placed s)) ≤ s.total
  outside_under s =
      let row : List (Entry T) = entries (placed s) in
      cond_both (ltb (length row) (size s)) 0 (first_count 0 row) (λ f. f ≤ s.total) (λ _. omega arith) (λ _. first_under s.total row (counts_under s))

  -- ---- how many there are

  pub short : (s : Counters T) → length (by_position (entries (placed s))) ≤ 512
  short s = omega (arith, length-reverse (entries (placed s)), length_entries (placed s), used_of s, s.fits, s.small)
