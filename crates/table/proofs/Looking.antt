-- What is read off the links of a sound table, without a walk, is what the placed row says.
use Rattle.std.proofs.Common.{◌≡◌, ℕ, ◌-◌, ◌<◌, ◌≤◌, List, [], ◌∷◌, ◌++◌, length, Some, None, Option, sym, refl, ap, ◌∙◌, not-suc-le-zero, arith}
use Rattle.std.specs.List.{flat_map, AllByRecursion as Each}
use Rattle.std.proofs.lemmas.List.{length-append, length-map}
use Rattle.std.proofs.ByRecursion.{All-weaker}
use Rattle.links.specs.Chains.{Off, Apart, Within, first_or, last_or}
use Rattle.links.proofs.Places.{off_join, apart_join, cross_first}
use Rattle.links.proofs.Chains.{last_or_append}
use Rattle.table.specs.declared.place.Place.{Place}
use Rattle.table.specs.declared.lists.Lists.{Lists}
use Rattle.table.specs.Placed.{Placed, places, at_place, nth}
use Rattle.table.specs.Fields.{owner_in, members_in, placed_of, placed_in}
use Rattle.table.specs.Reading.{placed_row}
use Rattle.table.specs.Groups.{Group, Holds, ats}
use Rattle.table.specs.Moves.{onto, or_else, lowest, highest}
use Rattle.table.specs.Stands.{Sound, worth, tally}
use Rattle.table.proofs.Grouping.{cross_by}
use Rattle.table.proofs.Rows.{row, row_places, row_sound, at_none, stood, reads}
use Rattle.table.proofs.Positions.{nth_first, nth_last}

-- The counters of groups, in the order of the row.
abbrev pub crowd : List Group → List ℕ
crowd gs = flat_map (λ g. g.members) gs

pub length_crowd : (gs : List Group) → length (crowd gs) ≡ tally gs
length_crowd [] = refl
length_crowd (g ∷ gs) = let h = length_crowd gs in let k = length-append g.members (crowd gs) in omega arith

-- ---- the places of the row

module _ {T : Type 0} (t : List (Place T)) where
  members_are : (v : ℕ) (ms : List ℕ) → Within (length t) ms → (rest : List (Placed T)) → places (flat_map (placed_in t v) ms ++ rest) ≡ ms ++ places rest
  members_are v [] w rest = refl
  members_are v (c ∷ ms) w rest =
      let e : placed_in t v c ≡ placed_of c v (stood t c w.0) = reads (placed_of c v) [] t c w.0 in
      let r = members_are v ms w.1 rest in
      ap (λ (l : List (Placed T)). places ((l ++ flat_map (placed_in t v) ms) ++ rest)) e ∙ ap (λ (l : List ℕ). c ∷ l) r

  pub row_crowd : (gs : List Group) → Each (λ g. Within (length t) g.members) gs → places (row t gs) ≡ crowd gs
  row_crowd [] w = refl
  row_crowd (g ∷ gs) w = members_are (worth t g) g.members w.0 (row t gs) ∙ ap (λ (l : List ℕ). g.members ++ l) (row_crowd gs w.1)

  -- ---- no counter is attached twice

  off_crowd : (p b : ℕ) → owner_in t p ≡ b → (gs : List Group) → Off b (ats gs) → Each (Holds t) gs → Off p (crowd gs)
  off_crowd p b e [] o h = tt
  off_crowd p b e (g ∷ gs) o h =
      off_join p g.members (crowd gs)
      (cross_first g.members p [] (cross_by (owner_in t) g.at b o.0 g.members (p ∷ []) h.0.mine (e, tt)))
      (off_crowd p b e gs o.1 h.1)

  pub crowd_apart : (gs : List Group) → Apart (ats gs) → Each (Holds t) gs → Apart (crowd gs)
  crowd_apart [] a h = tt
  crowd_apart (g ∷ gs) a h =
      apart_join g.members (crowd gs) h.0.list.list.apart (crowd_apart gs a.1 h.1)
      (All-weaker (λ c. owner_in t c ≡ g.at) (λ c. Off c (crowd gs)) (λ c e. off_crowd c g.at e gs a.0 h.1) g.members h.0.mine)

  -- ---- the ends of the counters of all groups

  last_any : (o : Option ℕ) (ms : List ℕ) → 1 ≤ length ms → last_or None ms ≡ last_or o ms
  last_any o [] h = absurd (not-suc-le-zero h)
  last_any o (x ∷ ms) h = refl

  pub last_crowd : (o : Option ℕ) (gs : List Group) → Each (Holds t) gs → Each (λ g. 1 ≤ length g.members) gs → onto (λ b. (members_in t b).last) (last_or o (ats gs)) ≡ last_or (onto (λ b. (members_in t b).last) o) (crowd gs)
  last_crowd o [] h f = refl
  last_crowd o (g ∷ gs) h f =
      let p = onto (λ b. (members_in t b).last) o in
      last_crowd (Some g.at) gs h.1 f.1 ∙ ap (λ (l : Option ℕ). last_or l (crowd gs)) (h.0.list.stops ∙ last_any p g.members f.0) ∙ sym (last_or_append p g.members (crowd gs))

  first_crowd : (gs : List Group) → Each (Holds t) gs → Each (λ g. 1 ≤ length g.members) gs → onto (λ b. (members_in t b).first) (first_or (ats gs) None) ≡ first_or (crowd gs) None
  first_crowd [] h f = refl
  first_crowd (g ∷ gs) h f = h.0.list.begins ∙ filled g.members f.0
    where
      filled : (ms : List ℕ) → 1 ≤ length ms → first_or ms None ≡ first_or (ms ++ crowd gs) None
      filled [] l = absurd (not-suc-le-zero l)
      filled (x ∷ ms) l = refl

pub or_last : (xs : List ℕ) (o : Option ℕ) → or_else (last_or None xs) o ≡ last_or o xs
or_last [] o = refl
or_last (x ∷ xs) o = go x xs
  where
    go : (x : ℕ) (xs : List ℕ) → or_else (last_or (Some x) xs) o ≡ last_or (Some x) xs
    go x [] = refl
    go x (y ∷ ys) = go y ys

-- ---- a sound table

module _ {T : Type 0} (t : List (Place T)) (s : Lists) (used total : ℕ) (gs : List Group) (fs : List ℕ) (h : Sound t s used total gs fs) where
  pub places_are : places (placed_row t s.main.first) ≡ crowd gs
  places_are =
      let m = h.fits in
      ap places (row_sound t s used total gs fs h) ∙ row_crowd t gs (All-weaker (λ g. Within used g.members) (λ g. Within (length t) g.members) (λ g w. All-weaker (λ x. x < used) (λ x. x < length t) (λ x i. omega arith) g.members w) gs h.inside)

  pub places_apart : Apart (crowd gs)
  places_apart = crowd_apart t gs h.full.buckets.list.apart h.full.groups

  pub row_length : length (placed_row t s.main.first) ≡ used
  row_length =
      let a = length_crowd gs in
      let b = ap length places_are in
      let c = length-map (placed_row t s.main.first) (λ e. e.place) in
      let d = h.counters in omega arith

  pub lowest_is : lowest t s ≡ nth (crowd gs) 0
  lowest_is = ap (onto (λ b. (members_in t b).first)) h.full.buckets.begins ∙ first_crowd t gs h.full.groups h.filled ∙ nth_first (crowd gs)

  pub highest_is : highest t s ≡ nth (crowd gs) (length (crowd gs) - 1)
  highest_is = ap (onto (λ b. (members_in t b).last)) h.full.buckets.stops ∙ last_crowd t None gs h.full.groups h.filled ∙ nth_last (crowd gs)

  -- A place that has no counter in use.
  unused_off : (c : ℕ) → used ≤ c → Each (λ g. Off c g.members) gs
  unused_off c le = All-weaker (λ g. Within used g.members) (λ g. Off c g.members) (λ g w. All-weaker (λ x. x < used) (λ x. x ≡ c → ⊥) (λ x i e. omega arith) g.members w) gs h.inside

  crowd_off : (c : ℕ) (ks : List Group) → Each (λ g. Off c g.members) ks → Off c (crowd ks)
  crowd_off c [] o = tt
  crowd_off c (g ∷ ks) o = off_join c g.members (crowd ks) o.0 (crowd_off c ks o.1)

  pub unused_crowd : (c : ℕ) → used ≤ c → Off c (crowd gs)
  unused_crowd c le = crowd_off c gs (unused_off c le)

  pub unused_entry : (c : ℕ) → used ≤ c → at_place c (placed_row t s.main.first) ≡ None
  unused_entry c le = ap (at_place c) (row_sound t s used total gs fs h) ∙ at_none c (row t gs) (row_places (λ x. x ≡ c → ⊥) t gs (unused_off c le))
