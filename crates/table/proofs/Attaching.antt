-- A counter is detached, may get a new item, and is attached at a new count: what the table stands for in between, and
-- what it stands for and shows in the end.
use Rattle.std.proofs.Common.{◌≡◌, ℕ, ◌+◌, ◌<◌, ◌≤◌, List, [], ◌∷◌, ◌++◌, length, Some, None, Option, sym, refl, ap, ◌∙◌, inl, ⊎_elim, append_assoc, le_refl, arith}
use Rattle.std.specs.List.{flat_map, AllByRecursion as Each}
use Rattle.std.proofs.lemmas.List.{length-append, append-nil}
use Rattle.std.proofs.ByRecursion.{All-append, All-weaker}
use Rattle.std.proofs.lemmas.Bool.{cases_eq}
use Rattle.std.proofs.lemmas.List.Concat.{flat_map-append}
use Rattle.links.specs.Tables.{edit}
use Rattle.links.specs.Chains.{last_or, Off, Within}
use Rattle.links.proofs.Alls.{all_every, all_left, all_right, all_mid, all_out, all_in}
use Rattle.links.proofs.Places.{cross_first}
use Rattle.links.proofs.Tables.{read_kept, read_other, length_edit}
use Rattle.links.proofs.Listing.{chained_kept}
use Rattle.table.specs.declared.place.Place.{Place}
use Rattle.table.specs.declared.lists.Lists.{Lists}
use Rattle.table.specs.Placed.{Placed, put, insert}
use Rattle.table.specs.Fields.{bucket_links, value_in, value_of, placed_of, placed_in, labelled}
use Rattle.table.specs.Groups.{Group, Full, Loose, group, ats, with_group, with_free}
use Rattle.table.specs.Moves.{TakenOut, Attached, Differs, Revalued}
use Rattle.table.specs.Stands.{Sound, Rises, Among, worth, tally}
use Rattle.table.proofs.Grouping.{holds_all}
use Rattle.table.proofs.Rising.{rises_in, rises_before, rises_right, rises_out, rises_agree, all_agree, parts, all_with, all_with_it, rises_with, tally_append, tally_with, length_with, length_tally, in_left, in_right, in_out, among_right, among_swap, among_in, among_with}
use Rattle.table.proofs.Rows.{row_of, row, row_agree, row_counts, insert_between}

module _ {T : Type 0} where
  -- The counter p is detached, and is to count v: the buckets of ls count less, those of rs as much or more, and a leads
  -- to the last of ls. `bound` is the total to come.
  pub record Between (t : List (Place T)) (s : Lists) (used bound : ℕ) (a : Option ℕ) (p v : ℕ) (ls rs : List Group) (fs : List ℕ) : Type 0 where
    pub full : Full t s (ls ++ rs) fs
    pub loose : Loose t (ls ++ rs) p
    pub after : a ≡ last_or None (ats ls)
    pub rising : Rises (worth t) (ls ++ rs)
    pub low : Each (λ g. worth t g < v) ls
    pub high : Each (λ g. v ≤ worth t g) rs
    pub under : Each (λ g. worth t g ≤ bound) (ls ++ rs)
    pub most : v ≤ bound
    pub least : 1 ≤ v
    pub positive : Each (λ g. 1 ≤ worth t g) (ls ++ rs)
    pub inside : Each (λ g. Within used g.members) (ls ++ rs)
    pub own : p < used
    pub filled : Each (λ g. 1 ≤ length g.members) (ls ++ rs)
    pub counters : tally (ls ++ rs) + 1 ≡ used
    pub buckets : length (ls ++ rs) + length fs ≡ length t
    pub fits : used ≤ length t
    pub seats : (q : ℕ) → q < used → (q ≡ p → ⊥) → Among q (ls ++ rs)

  low_with : (t : List (Place T)) (b : ℕ) (ms : List ℕ) → Each (λ g. worth t g ≤ value_in t b) (with_group b ms [])
  low_with t b [] = tt
  low_with t b (x ∷ ms) = (le_refl (value_in t b), tt)

  -- ---- detached

  pub detached : (t t₁ : List (Place T)) (s s₁ : Lists) (p : ℕ) (a : Option ℕ) (used total bound v : ℕ) (ls : List Group) (b : ℕ) (xs zs : List ℕ) (rs : List Group) (fs : List ℕ) → Sound t s used total (ls ++ group b (xs ++ p ∷ zs) ∷ rs) fs → p < used → TakenOut t t₁ s s₁ p a → value_in t b < v → Each (λ g. v ≤ worth t g) rs → v ≤ bound → total ≤ bound → Between t₁ s₁ used bound a p v (ls ++ with_group b (xs ++ zs) []) rs (with_free b (xs ++ zs) fs)
  detached t t₁ s s₁ p a used total bound v ls b xs zs rs fs h lt k wv hi vb tb =
      let os = xs ++ p ∷ zs in
      let ms = xs ++ zs in
      let w = value_in t b in
      let ls' = ls ++ with_group b ms [] in
      let e : ls' ++ rs ≡ ls ++ with_group b ms rs = parts ls b ms rs in
      let o = k.out ls rs b xs zs fs h.full in
      let q = k.quiet in
      let same : (gs : List Group) → Each (λ g. worth t₁ g ≡ worth t g) gs = all_every (λ g. worth t₁ g ≡ worth t g) (λ g. q.values g.at) in
      let lo : Each (λ g. worth t g < v) ls' =
      All-append (λ g. worth t g < v) ls (with_group b ms [])
      (All-weaker (λ g. worth t g < w) (λ g. worth t g < v) (λ g i. omega arith) ls (rises_before (worth t) ls (group b os) rs h.rising))
      (All-weaker (λ g. worth t g ≤ w) (λ g. worth t g < v) (λ g i. omega arith) (with_group b ms []) (low_with t b ms)) in
      let ri : Rises (worth t) (ls' ++ rs) = rw e (rises_with (value_in t) ls b os ms rs h.rising) in
      let un₀ : Each (λ g. worth t g ≤ bound) (ls ++ group b os ∷ rs) = All-weaker (λ g. worth t g ≤ total) (λ g. worth t g ≤ bound) (λ g i. omega arith) (ls ++ group b os ∷ rs) h.under in
      let un : Each (λ g. worth t g ≤ bound) (ls' ++ rs) = rw e (all_with_it (λ g. worth t g ≤ bound) ls b os ms rs (all_mid (λ g. worth t g ≤ bound) ls (group b os) rs un₀) un₀) in
      let po : Each (λ g. 1 ≤ worth t g) (ls' ++ rs) = rw e (all_with_it (λ g. 1 ≤ worth t g) ls b os ms rs (all_mid (λ g. 1 ≤ worth t g) ls (group b os) rs h.positive) h.positive) in
      let wo : Within used os = all_mid (λ g. Within used g.members) ls (group b os) rs h.inside in
      let wm : Within used ms = all_out (λ x. x < used) xs p zs wo in
      let lo₁ = length-append xs (p ∷ zs) in
      let lm = length-append xs zs in
      let ta = tally_append ls (group b os ∷ rs) in
      let tw = tally_with ls b ms rs in
      let te : tally (ls' ++ rs) ≡ tally (ls ++ with_group b ms rs) = ap tally e in
      let le : length (ls' ++ rs) ≡ length (ls ++ with_group b ms rs) = ap length e in
      let lw = length_with ls b os ms rs fs in
      let c = h.counters in
      let n = h.buckets in
      let z = q.size in
      let m = h.fits in
      record {
        full = rw e o.0;
        loose = rw e o.1;
        after = o.2;
        rising = rises_agree (worth t) (worth t₁) (ls' ++ rs) (same (ls' ++ rs)) ri;
        low = all_agree (λ u. u < v) (worth t) (worth t₁) ls' (same ls') lo;
        high = all_agree (λ u. v ≤ u) (worth t) (worth t₁) rs (same rs) hi;
        under = all_agree (λ u. u ≤ bound) (worth t) (worth t₁) (ls' ++ rs) (same (ls' ++ rs)) un;
        most = vb;
        least = omega arith;
        positive = all_agree (λ u. 1 ≤ u) (worth t) (worth t₁) (ls' ++ rs) (same (ls' ++ rs)) po;
        inside = rw e (all_with_it (λ g. Within used g.members) ls b os ms rs wm h.inside);
        own = lt;
        filled = rw e (all_with (λ g. 1 ≤ length g.members) ls b os ms rs (λ x ys. omega arith) h.filled);
        counters = omega arith;
        buckets = omega arith;
        fits = omega arith;
        seats = λ r i ne. rw e (among_with r ls b os ms rs (in_out r p xs zs ne) (h.seats r i));
      }

  -- A counter that was not in use comes before all buckets.
  pub unused : (t : List (Place T)) (s : Lists) (p total bound : ℕ) (gs : List Group) (fs : List ℕ) → Sound t s p total gs fs → p < length t → 1 ≤ bound → total ≤ bound → Between t s (p + 1) bound None p 1 [] gs fs
  unused t s p total bound gs fs h lt vb tb =
      let c = h.counters in
      let n = h.buckets in
      record {
        full = h.full;
        loose =
            record {
              off = All-weaker (λ g. Within p g.members) (λ g. Off p g.members) (λ g w. All-weaker (λ x. x < p) (λ x. x ≡ p → ⊥) (λ x i e. omega arith) g.members w) gs h.inside;
              within = lt;
            };
        after = refl;
        rising = h.rising;
        low = tt;
        high = h.positive;
        under = All-weaker (λ g. worth t g ≤ total) (λ g. worth t g ≤ bound) (λ g i. omega arith) gs h.under;
        most = vb;
        least = omega arith;
        positive = h.positive;
        inside = All-weaker (λ g. Within p g.members) (λ g. Within (p + 1) g.members) (λ g w. All-weaker (λ x. x < p) (λ x. x < p + 1) (λ x i. omega arith) g.members w) gs h.inside;
        own = omega arith;
        filled = h.filled;
        counters = omega arith;
        buckets = n;
        fits = omega arith;
        seats = λ q i ne. h.seats q (omega arith);
      }

  -- ---- made one for another item

  module _ (t : List (Place T)) (x : T) (err p : ℕ) where
    full_labelled : (s : Lists) (gs : List Group) (fs : List ℕ) → Full t s gs fs → Full (edit (labelled x err) p t) s gs fs
    full_labelled s gs fs h =
        record {
          buckets = record { list = chained_kept bucket_links t (ats gs) (Some p) (labelled x err) (λ y. refl) (λ y. refl) h.buckets.list; begins = h.buckets.begins; stops = h.buckets.stops };
          groups = holds_all t (Some p) (labelled x err) (record { next = λ y. refl; prev = λ y. refl; owner = λ y. refl }) (λ y. refl) gs h.groups;
          unused = record { list = chained_kept bucket_links t fs (Some p) (labelled x err) (λ y. refl) (λ y. refl) h.unused.list; begins = h.unused.begins; stops = h.unused.stops };
          apart = h.apart;
        }

    values_labelled : (b : ℕ) → value_in (edit (labelled x err) p t) b ≡ value_in t b
    values_labelled b = read_kept value_of 0 (labelled x err) (λ y. refl) t p b

    pub relabelled : (s : Lists) (used bound : ℕ) (a : Option ℕ) (v : ℕ) (ls rs : List Group) (fs : List ℕ) → Between t s used bound a p v ls rs fs → Between (edit (labelled x err) p t) s used bound a p v ls rs fs
    relabelled s used bound a v ls rs fs h =
        let t₁ = edit (labelled x err) p t in
        let z : length t₁ ≡ length t = length_edit (labelled x err) p t in
        let same : (gs : List Group) → Each (λ g. worth t₁ g ≡ worth t g) gs = all_every (λ g. worth t₁ g ≡ worth t g) (λ g. values_labelled g.at) in
        let n = h.buckets in
        let f = h.fits in
        record {
          full = full_labelled s (ls ++ rs) fs h.full;
          loose = record { off = h.loose.off; within = rw z h.loose.within };
          after = h.after;
          rising = rises_agree (worth t) (worth t₁) (ls ++ rs) (same (ls ++ rs)) h.rising;
          low = all_agree (λ u. u < v) (worth t) (worth t₁) ls (same ls) h.low;
          high = all_agree (λ u. v ≤ u) (worth t) (worth t₁) rs (same rs) h.high;
          under = all_agree (λ u. u ≤ bound) (worth t) (worth t₁) (ls ++ rs) (same (ls ++ rs)) h.under;
          most = h.most;
          least = h.least;
          positive = all_agree (λ u. 1 ≤ u) (worth t) (worth t₁) (ls ++ rs) (same (ls ++ rs)) h.positive;
          inside = h.inside;
          own = h.own;
          filled = h.filled;
          counters = h.counters;
          buckets = omega arith;
          fits = omega arith;
          seats = h.seats;
        }

    -- The row of the others does not show it.
    members_labelled : (v : ℕ) (ms : List ℕ) → Off p ms → flat_map (placed_in (edit (labelled x err) p t) v) ms ≡ flat_map (placed_in t v) ms
    members_labelled v [] o = refl
    members_labelled v (c ∷ ms) o =
        let e : placed_in (edit (labelled x err) p t) v c ≡ placed_in t v c = read_other (placed_of c v) [] (labelled x err) t p c o.0 in
        let r = members_labelled v ms o.1 in cc

    pub row_labelled : (gs : List Group) → Each (λ g. Off p g.members) gs → row (edit (labelled x err) p t) gs ≡ row t gs
    row_labelled [] o = refl
    row_labelled (g ∷ gs) o =
        let t₁ = edit (labelled x err) p t in
        let e : row_of t₁ g ≡ row_of t g = members_labelled (worth t₁ g) g.members o.0 ∙ ap (λ (v : ℕ). flat_map (placed_in t v) g.members) (values_labelled g.at) in
        let r = row_labelled gs o.1 in cc

  -- ---- attached

  pub record AtCount (t t₂ : List (Place T)) (s : Lists) (used bound p v : ℕ) (rest : List Group) : Type 0 where
    pub gs : List Group
    pub fs : List ℕ
    pub sound : Sound t₂ s used bound gs fs
    pub shows : (x : T) (err : ℕ) → ((u : ℕ) → placed_in t u p ≡ put p x u err ∷ []) → row t₂ gs ≡ insert (put p x v err) (row t rest)

  module _ (t t₂ : List (Place T)) (s s₂ : Lists) (used bound : ℕ) (a : Option ℕ) (p v : ℕ) where
    agree_off : {b u : ℕ} → Revalued t t₂ b u → (gs : List Group) → Off b (ats gs) → Each (λ h. worth t₂ h ≡ worth t h) gs
    agree_off r [] o = tt
    agree_off r (g ∷ gs) o = (r.other g.at o.0, agree_off r gs o.1)

    -- In a fresh bucket.
    attach_fresh : (ls rs : List Group) (b : ℕ) (fs : List ℕ) → Between t s used bound a p v ls rs (b ∷ fs) → Differs t v rs → Each (λ g. v < worth t g) rs → Attached t t₂ s s₂ a v p → AtCount t t₂ s₂ used bound p v (ls ++ rs)
    attach_fresh ls rs b fs h d hi k =
        let g : Group = group b (p ∷ []) in
        let o = k.fresh ls rs b fs h.full h.loose h.after d in
        let off : Off b (ats (ls ++ rs)) = cross_first (ats (ls ++ rs)) b fs h.full.apart in
        let same : Each (λ i. worth t₂ i ≡ worth t i) (ls ++ rs) = agree_off o.1 (ls ++ rs) off in
        let sl = all_left (λ i. worth t₂ i ≡ worth t i) ls rs same in
        let sr = all_right (λ i. worth t₂ i ≡ worth t i) ls rs same in
        let here : worth t₂ g ≡ v = o.1.here in
        let lo₂ : Each (λ i. worth t₂ i < v) ls = all_agree (λ u. u < v) (worth t) (worth t₂) ls sl h.low in
        let hi₂ : Each (λ i. v < worth t₂ i) rs = all_agree (λ u. v < u) (worth t) (worth t₂) rs sr hi in
        let un₂ = all_agree (λ u. u ≤ bound) (worth t) (worth t₂) (ls ++ rs) same h.under in
        let mo = h.most in
        let le = h.least in
        let la = length-append ls rs in
        let lb = length-append ls (g ∷ rs) in
        let ta = tally_append ls rs in
        let tb = tally_append ls (g ∷ rs) in
        let c = h.counters in
        let n = h.buckets in
        let z = k.size in
        let m = h.fits in
        record {
          gs = ls ++ g ∷ rs;
          fs = fs;
          sound =
              record {
                full = o.0;
                rising = rises_in (worth t₂) ls g rs (rises_agree (worth t) (worth t₂) (ls ++ rs) same h.rising) (rw here lo₂) (rw here hi₂);
                under = all_in (λ i. worth t₂ i ≤ bound) ls g rs (omega arith) un₂;
                positive = all_in (λ i. 1 ≤ worth t₂ i) ls g rs (omega arith) (all_agree (λ u. 1 ≤ u) (worth t) (worth t₂) (ls ++ rs) same h.positive);
                inside = all_in (λ i. Within used i.members) ls g rs (h.own, tt) h.inside;
                filled = all_in (λ i. 1 ≤ length i.members) ls g rs (omega arith) h.filled;
                counters = omega arith;
                buckets = omega arith;
                fits = omega arith;
                seats = λ q i. ⊎_elim (λ e. among_right q ls (g ∷ rs) (inl (inl (sym e)))) (λ ne. among_in q ls g rs (h.seats q i ne)) (cases_eq q p);
              };
          shows = λ x err r.
              let e = put p x v err in
              let e₁ : row t₂ (ls ++ g ∷ rs) ≡ row t₂ ls ++ (row_of t₂ g ++ row t₂ rs) = flat_map-append (row_of t₂) ls (g ∷ rs) in
              let e₂ : row t (ls ++ rs) ≡ row t ls ++ row t rs = flat_map-append (row_of t) ls rs in
              let el = row_agree t t₂ k.entries ls sl in
              let er = row_agree t t₂ k.entries rs sr in
              let eg : row_of t₂ g ≡ e ∷ [] = append-nil (placed_in t₂ (worth t₂ g) p) ∙ ap (λ (u : ℕ). placed_in t₂ u p) here ∙ k.entries v p ∙ r v in
              let lo₃ = All-weaker (λ i. worth t i < v) (λ i. worth t i ≤ v) (λ i q. omega arith) ls h.low in
              let q = insert_between e (row t ls) (row t rs) (row_counts (λ u. u ≤ v) t ls lo₃) (row_counts (λ u. v < u) t rs hi) in
              e₁ ∙ rw (el, er, eg) refl ∙ sym q ∙ ap (insert e) (sym e₂);
        }

    -- In the next bucket, which has that count.
    attach_same : (ls : List Group) (b : ℕ) (ms : List ℕ) (rs : List Group) (fs : List ℕ) → Between t s used bound a p v ls (group b ms ∷ rs) fs → value_in t b ≡ v → Attached t t₂ s s₂ a v p → AtCount t t₂ s₂ used bound p v (ls ++ group b ms ∷ rs)
    attach_same ls b ms rs fs h ev k =
        let g : Group = group b ms in
        let g' : Group = group b (ms ++ p ∷ []) in
        let o = k.same ls rs b ms fs h.full h.loose h.after ev in
        let same : (gs : List Group) → Each (λ i. worth t₂ i ≡ worth t i) gs = all_every (λ i. worth t₂ i ≡ worth t i) (λ i. o.1 i.at) in
        let ri = rises_agree (worth t) (worth t₂) (ls ++ g ∷ rs) (same (ls ++ g ∷ rs)) h.rising in
        let un₂ = all_agree (λ u. u ≤ bound) (worth t) (worth t₂) (ls ++ g ∷ rs) (same (ls ++ g ∷ rs)) h.under in
        let po = all_agree (λ u. 1 ≤ u) (worth t) (worth t₂) (ls ++ g ∷ rs) (same (ls ++ g ∷ rs)) h.positive in
        let lp = length-append ms (p ∷ []) in
        let la = length-append ls (g ∷ rs) in
        let lb = length-append ls (g' ∷ rs) in
        let ta = tally_append ls (g ∷ rs) in
        let tb = tally_append ls (g' ∷ rs) in
        let c = h.counters in
        let n = h.buckets in
        let z = k.size in
        let m = h.fits in
        let aft : Each (λ i. worth t g < worth t i) rs = (rises_right (worth t) ls (g ∷ rs) h.rising).0 in
        record {
          gs = ls ++ g' ∷ rs;
          fs = fs;
          sound =
              record {
                full = o.0;
                rising = rises_in (worth t₂) ls g' rs (rises_out (worth t₂) ls g rs ri) (rises_before (worth t₂) ls g rs ri) (rises_right (worth t₂) ls (g ∷ rs) ri).0;
                under = all_in (λ i. worth t₂ i ≤ bound) ls g' rs (all_mid (λ i. worth t₂ i ≤ bound) ls g rs un₂) (all_out (λ i. worth t₂ i ≤ bound) ls g rs un₂);
                positive = all_in (λ i. 1 ≤ worth t₂ i) ls g' rs (all_mid (λ i. 1 ≤ worth t₂ i) ls g rs po) (all_out (λ i. 1 ≤ worth t₂ i) ls g rs po);
                inside = all_in (λ i. Within used i.members) ls g' rs (All-append (λ x. x < used) ms (p ∷ []) (all_mid (λ i. Within used i.members) ls g rs h.inside) (h.own, tt)) (all_out (λ i. Within used i.members) ls g rs h.inside);
                filled = all_in (λ i. 1 ≤ length i.members) ls g' rs (omega arith) (all_out (λ i. 1 ≤ length i.members) ls g rs h.filled);
                counters = omega arith;
                buckets = omega arith;
                fits = omega arith;
                seats = λ q i.
                    ⊎_elim (λ e. among_right q ls (g' ∷ rs) (inl (in_right q ms (p ∷ []) (inl (sym e)))))
                    (λ ne. among_swap q ls g g' rs (in_left q ms (p ∷ [])) (h.seats q i ne)) (cases_eq q p);
              };
          shows = λ x err r.
              let e = put p x v err in
              let E = placed_in t (value_in t b) in
              let m = flat_map E ms in
              let e₁ : row t₂ (ls ++ g' ∷ rs) ≡ row t (ls ++ g' ∷ rs) = row_agree t t₂ k.entries (ls ++ g' ∷ rs) (same (ls ++ g' ∷ rs)) in
              let e₂ : row t (ls ++ g' ∷ rs) ≡ row t ls ++ (flat_map E (ms ++ p ∷ []) ++ row t rs) = flat_map-append (row_of t) ls (g' ∷ rs) in
              let e₃ : row t (ls ++ g ∷ rs) ≡ row t ls ++ (m ++ row t rs) = flat_map-append (row_of t) ls (g ∷ rs) in
              let ep : E p ≡ e ∷ [] = ap (λ (u : ℕ). placed_in t u p) ev ∙ r v in
              let e₄ : flat_map E (ms ++ p ∷ []) ≡ m ++ e ∷ [] = flat_map-append E ms (p ∷ []) ∙ ap (λ (y : List (Placed T)). m ++ y) (append-nil (E p) ∙ ep) in
              let e₅ : row t ls ++ (m ++ row t rs) ≡ (row t ls ++ m) ++ row t rs = sym (append_assoc (row t ls) m (row t rs)) in
              let e₆ : row t ls ++ ((m ++ e ∷ []) ++ row t rs) ≡ (row t ls ++ m) ++ e ∷ row t rs =
              ap (λ (y : List (Placed T)). row t ls ++ y) (append_assoc m (e ∷ []) (row t rs)) ∙ sym (append_assoc (row t ls) m (e ∷ row t rs)) in
              let lo₁ = All-weaker (λ i. worth t i < v) (λ i. worth t i ≤ v) (λ i q. omega arith) ls h.low in
              let lo₂ = row_counts (λ u. u ≤ v) t ls lo₁ in
              let gv : value_in t b ≤ v = omega arith in
              let lo₃ : Each (λ y. y.entry.count ≤ v) (m ++ []) = row_counts (λ u. u ≤ v) t (g ∷ []) (gv, tt) in
              let lo₄ : Each (λ y. y.entry.count ≤ v) m = rw (← append-nil m) lo₃ in
              let hi₁ : Each (λ i. v < worth t i) rs = All-weaker (λ i. worth t g < worth t i) (λ i. v < worth t i) (λ i q. omega arith) rs aft in
              let q = insert_between e (row t ls ++ m) (row t rs) (All-append (λ y. y.entry.count ≤ v) (row t ls) m lo₂ lo₄) (row_counts (λ u. v < u) t rs hi₁) in
              e₁ ∙ e₂ ∙ ap (λ (y : List (Placed T)). row t ls ++ (y ++ row t rs)) e₄ ∙ e₆ ∙ sym q ∙ ap (insert e) (sym e₅ ∙ sym e₃);
        }

    -- While a counter is detached there are more places than buckets in use, so a free bucket stands by.
    attach_free : (ls rs : List Group) (fs : List ℕ) → Between t s used bound a p v ls rs fs → Differs t v rs → Each (λ g. v < worth t g) rs → Attached t t₂ s s₂ a v p → AtCount t t₂ s₂ used bound p v (ls ++ rs)
    attach_free ls rs [] h d hi k =
        let l = length_tally (ls ++ rs) h.filled in
        let c = h.counters in
        let n = h.buckets in
        let m = h.fits in absurd (omega arith)
    attach_free ls rs (b ∷ fs) h d hi k = attach_fresh ls rs b fs h d hi k

    pub attached : (ls rs : List Group) (fs : List ℕ) → Between t s used bound a p v ls rs fs → Attached t t₂ s s₂ a v p → AtCount t t₂ s₂ used bound p v (ls ++ rs)
    attached ls [] fs h k = attach_free ls [] fs h tt tt k
    attached ls (g ∷ rs) fs h k =
        ⊎_elim (λ e. attach_same ls g.at g.members rs fs h e k)
        (λ ne.
        let hi : v < worth t g = omega (arith, h.high.0) in
        let aft : Each (λ i. worth t g < worth t i) rs = (rises_right (worth t) ls (g ∷ rs) h.rising).0 in
        attach_free ls (g ∷ rs) fs h ne (hi, All-weaker (λ i. worth t g < worth t i) (λ i. v < worth t i) (λ i q. omega arith) rs aft) k)
        (cases_eq (worth t g) v)
