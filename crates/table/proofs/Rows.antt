-- The row of groups: what its entries have in common, an entry put in and taken out, and that the links say it.
use Rattle.std.proofs.Common.{◌≡◌, ℕ, zero, suc, ◌<◌, ◌≤◌, eqb, leb, List, [], ◌∷◌, ◌++◌, length, Some, None, Option, sym, refl, ap, ◌∙◌, le_of_suc-le-suc, not-suc-le-zero, arith}
use Rattle.std.specs.List.{flat_map, AllByRecursion as Each}
use Rattle.std.proofs.ByRecursion.{All-append, All-weaker}
use Rattle.std.proofs.lemmas.Bool.{leb-true, leb-false, eqb-true, eq-eqb, cond_both, cond-true}
use mathlib.Core.Path.{fun_ext}
use Rattle.links.specs.Tables.{read}
use Rattle.links.specs.Chains.{Chain, first_or}
use Rattle.links.specs.Lists.{next_in, prev_in}
use Rattle.table.specs.declared.place.Place.{Place}
use Rattle.table.specs.declared.lists.Lists.{Lists}
use Rattle.table.specs.Placed.{Placed, insert, at_place, off_place}
use Rattle.table.specs.Fields.{counter_links, bucket_links, value_in, placed_of, placed_in}
use Rattle.table.specs.Reading.{walk, buckets, counters, placed_row}
use Rattle.table.specs.Groups.{Group, Holds, ats}
use Rattle.table.specs.Moves.{Entries}
use Rattle.table.specs.Stands.{Sound, worth, tally}

-- ---- lists put together

pub joined_same : {X A : Type 0} (f g : X → List A) → ((x : X) → g x ≡ f x) → (xs : List X) → flat_map g xs ≡ flat_map f xs
joined_same f g h xs = ap (λ k. flat_map k xs) (fun_ext h)

all_joined : {X A : Type 0} (P : A → Type 0) (f : X → List A) (xs : List X) → Each (λ x. Each P (f x)) xs → Each P (flat_map f xs)
all_joined P f [] h = tt
all_joined P f (x ∷ xs) h = All-append P (f x) (flat_map f xs) h.0 (all_joined P f xs h.1)

all_read : {A B : Type 0} (P : B → Type 0) (f : A → List B) → ((x : A) → Each P (f x)) → (t : List A) (i : ℕ) → Each P (read f [] t i)
all_read P f h [] i = tt
all_read P f h (x ∷ t) zero = h x
all_read P f h (x ∷ t) (suc i) = all_read P f h t i

module _ {T : Type 0} where
  -- ---- the row of groups

  abbrev pub row_of : List (Place T) → Group → List (Placed T)
  row_of t g = flat_map (placed_in t (worth t g)) g.members

  abbrev pub row : List (Place T) → List Group → List (Placed T)
  row t gs = flat_map (row_of t) gs

  -- The same entries at the same counts.
  pub row_agree : (t t' : List (Place T)) → Entries t t' → (gs : List Group) → Each (λ g. worth t' g ≡ worth t g) gs → row t' gs ≡ row t gs
  row_agree t t' e [] h = refl
  row_agree t t' e (g ∷ gs) h =
      let q : flat_map (placed_in t' (worth t' g)) g.members ≡ flat_map (placed_in t (worth t' g)) g.members = joined_same (placed_in t (worth t' g)) (placed_in t' (worth t' g)) (e (worth t' g)) g.members in
      let q' : row_of t' g ≡ row_of t g = q ∙ ap (λ (v : ℕ). flat_map (placed_in t v) g.members) h.0 in
      let r = row_agree t t' e gs h.1 in cc

  -- What holds of the count of each group holds of the counts of the row; what holds of each counter, of its places.
  members_counts : (Q : ℕ → Type 0) (t : List (Place T)) (v : ℕ) → Q v → (cs : List ℕ) → Each (λ e. Q e.entry.count) (flat_map (placed_in t v) cs)
  members_counts Q t v q [] = tt
  members_counts Q t v q (c ∷ cs) =
      All-append (λ e. Q e.entry.count) (placed_in t v c) (flat_map (placed_in t v) cs) (all_read (λ e. Q e.entry.count) (placed_of c v) (λ x. (q, tt)) t c) (members_counts Q t v q cs)

  pub row_counts : (Q : ℕ → Type 0) (t : List (Place T)) (gs : List Group) → Each (λ g. Q (worth t g)) gs → Each (λ e. Q e.entry.count) (row t gs)
  row_counts Q t gs h =
      all_joined (λ e. Q e.entry.count) (row_of t) gs (All-weaker (λ g. Q (worth t g)) (λ g. Each (λ e. Q e.entry.count) (row_of t g)) (λ g q. members_counts Q t (worth t g) q g.members) gs h)

  pub members_places : (Q : ℕ → Type 0) (t : List (Place T)) (v : ℕ) (cs : List ℕ) → Each Q cs → Each (λ e. Q e.place) (flat_map (placed_in t v) cs)
  members_places Q t v cs h =
      all_joined (λ e. Q e.place) (placed_in t v) cs (All-weaker Q (λ c. Each (λ e. Q e.place) (placed_in t v c)) (λ c q. all_read (λ e. Q e.place) (placed_of c v) (λ x. (q, tt)) t c) cs h)

  pub row_places : (Q : ℕ → Type 0) (t : List (Place T)) (gs : List Group) → Each (λ g. Each Q g.members) gs → Each (λ e. Q e.place) (row t gs)
  row_places Q t gs h =
      all_joined (λ e. Q e.place) (row_of t) gs (All-weaker (λ g. Each Q g.members) (λ g. Each (λ e. Q e.place) (row_of t g)) (λ g q. members_places Q t (worth t g) g.members q) gs h)

  -- ---- one entry of a row

  -- It is put in behind all of at most its count, and before all above.
  pub insert_between : (e : Placed T) (xs ys : List (Placed T)) → Each (λ x. x.entry.count ≤ e.entry.count) xs → Each (λ y. e.entry.count < y.entry.count) ys → insert e (xs ++ ys) ≡ xs ++ e ∷ ys
  insert_between e [] [] lo hi = refl
  insert_between e [] (y ∷ ys) lo hi =
      cond_both (leb y.entry.count e.entry.count) (y ∷ insert e ys) (e ∷ y ∷ ys) (λ r. r ≡ e ∷ y ∷ ys)
      (λ q. let a = leb-true y.entry.count e.entry.count q in let b = hi.0 in absurd (omega arith)) (λ q. refl)
  insert_between e (x ∷ xs) ys lo hi =
      cond_both (leb x.entry.count e.entry.count) (x ∷ insert e (xs ++ ys)) (e ∷ x ∷ (xs ++ ys)) (λ r. r ≡ x ∷ (xs ++ e ∷ ys))
      (λ q. ap (λ (r : List (Placed T)). x ∷ r) (insert_between e xs ys lo.1 hi))
      (λ q. let a = leb-false x.entry.count e.entry.count q in let b = lo.0 in absurd (omega arith))

  -- It is found at its place, and taken out there, where none before it has that place.
  pub at_mid : (p : ℕ) (xs : List (Placed T)) (e : Placed T) (ys : List (Placed T)) → Each (λ x. x.place ≡ p → ⊥) xs → e.place ≡ p → at_place p (xs ++ e ∷ ys) ≡ Some e
  at_mid p [] e ys o q = cond-true (eqb p e.place) (Some e) (at_place p ys) (eq-eqb p e.place (sym q))
  at_mid p (x ∷ xs) e ys o q =
      cond_both (eqb p x.place) (Some x) (at_place p (xs ++ e ∷ ys)) (λ r. r ≡ Some e) (λ h. absurd (o.0 (sym (eqb-true p x.place h)))) (λ h. at_mid p xs e ys o.1 q)

  pub off_mid : (p : ℕ) (xs : List (Placed T)) (e : Placed T) (ys : List (Placed T)) → Each (λ x. x.place ≡ p → ⊥) xs → e.place ≡ p → off_place p (xs ++ e ∷ ys) ≡ xs ++ ys
  off_mid p [] e ys o q = cond-true (eqb p e.place) ys (e ∷ off_place p ys) (eq-eqb p e.place (sym q))
  off_mid p (x ∷ xs) e ys o q =
      cond_both (eqb p x.place) (xs ++ e ∷ ys) (x ∷ off_place p (xs ++ e ∷ ys)) (λ r. r ≡ x ∷ (xs ++ ys)) (λ h. absurd (o.0 (sym (eqb-true p x.place h))))
      (λ h. ap (λ (r : List (Placed T)). x ∷ r) (off_mid p xs e ys o.1 q))

  pub at_none : (p : ℕ) (xs : List (Placed T)) → Each (λ x. x.place ≡ p → ⊥) xs → at_place p xs ≡ None
  at_none p [] o = refl
  at_none p (x ∷ xs) o =
      cond_both (eqb p x.place) (Some x) (at_place p xs) (λ r. r ≡ None) (λ h. absurd (o.0 (sym (eqb-true p x.place h)))) (λ h. at_none p xs o.1)

  -- What stands at a place of the table, and that it is read there.
  abbrev pub stood : (t : List (Place T)) (c : ℕ) → c < length t → Place T
  stood [] c h = absurd (not-suc-le-zero h)
  stood (x ∷ t) zero h = x
  stood (x ∷ t) (suc c) h = stood t c (le_of_suc-le-suc h)

pub reads : {T M : Type 0} (f : Place T → M) (d : M) (t : List (Place T)) (c : ℕ) (h : c < length t) → read f d t c ≡ f (stood t c h)
reads f d [] c h = absurd (not-suc-le-zero h)
reads f d (x ∷ t) zero h = refl
reads f d (x ∷ t) (suc c) h = reads f d t c (le_of_suc-le-suc h)

-- ---- a walk along the links reads the groups

pub walk_chain : (next prev : ℕ → Option ℕ) (n : ℕ) (p : Option ℕ) (xs : List ℕ) → Chain next prev p xs None → length xs ≤ n → walk next (first_or xs None) n ≡ xs
walk_chain next prev n p [] h l = refl
walk_chain next prev zero p (x ∷ xs) h l = absurd (not-suc-le-zero l)
walk_chain next prev (suc n) p (x ∷ xs) h l =
    ap (λ (r : List ℕ). x ∷ r) (ap (λ (o : Option ℕ). walk next o n) h.1 ∙ walk_chain next prev n (Some x) xs h.2 (le_of_suc-le-suc l))

pub length_ats : (gs : List Group) → length (ats gs) ≡ length gs
length_ats [] = refl
length_ats (g ∷ gs) = ap suc (length_ats gs)

module _ {T : Type 0} (t : List (Place T)) where
  pub counters_are : (g : Group) → Holds t g → length g.members ≤ length t → counters t g.at ≡ g.members
  counters_are g h l =
      ap (λ (o : Option ℕ). walk (next_in counter_links t) o (length t)) h.list.begins ∙ walk_chain (next_in counter_links t) (prev_in counter_links t) (length t) None g.members h.list.list.chain l

  walked_row : (gs : List Group) → Each (Holds t) gs → tally gs ≤ length t → flat_map (λ b. flat_map (placed_in t (value_in t b)) (counters t b)) (ats gs) ≡ row t gs
  walked_row [] h l = refl
  walked_row (g ∷ gs) h l =
      let lg : length g.members ≤ length t = omega arith in
      let ls : tally gs ≤ length t = omega arith in
      let e = ap (flat_map (placed_in t (worth t g))) (counters_are g h.0 lg) in
      let r = walked_row gs h.1 ls in cc

  module _ (s : Lists) (used total : ℕ) (gs : List Group) (fs : List ℕ) (h : Sound t s used total gs fs) where
    pub buckets_are : buckets t s.main.first ≡ ats gs
    buckets_are =
        let b = h.full.buckets in
        let a = length_ats gs in
        let n = h.buckets in
        let le : length (ats gs) ≤ length t = omega arith in
        ap (λ (o : Option ℕ). walk (next_in bucket_links t) o (length t)) b.begins ∙ walk_chain (next_in bucket_links t) (prev_in bucket_links t) (length t) None (ats gs) b.list.chain le

    -- What the links say is what the table stands for.
    pub row_sound : placed_row t s.main.first ≡ row t gs
    row_sound =
        let c = h.counters in
        let w = h.fits in
        ap (flat_map (λ b. flat_map (placed_in t (value_in t b)) (counters t b))) buckets_are ∙ walked_row gs h.full.groups (omega arith)
