-- The moves of a summary: a counter counts one more, a newcomer takes an unused counter, a newcomer takes the first one over.
use Rattle.std.proofs.Common.{◌≡◌, ℕ, zero, suc, ◌+◌, ◌<◌, ◌≤◌, List, [], ◌∷◌, ◌++◌, length, Some, None, Option, sym, refl, ap, ◌∙◌, subst, not-suc-le-zero, arith}
use Rattle.std.proofs.lemmas.Option.{same_Some}
use Rattle.std.specs.List.{AllByRecursion as Each}
use Rattle.std.proofs.lemmas.List.{length-append}
use Rattle.std.proofs.ByRecursion.{All-weaker}
use Rattle.links.specs.Tables.{edit}
use Rattle.links.specs.Lists.{Listed}
use Rattle.links.proofs.Alls.{all_every, all_mid}
use Rattle.links.proofs.Tables.{read_same}
use Rattle.table.specs.declared.place.Place.{Place}
use Rattle.table.specs.declared.lists.Lists.{Lists}
use Rattle.table.specs.Placed.{Placed, put, nth, insert, at_place, off_place, raised, entered, overtaken}
use Rattle.table.specs.Fields.{bucket_links, owner_in, value_in, placed_of, placed_in, labelled, no_ends}
use Rattle.table.specs.Reading.{placed_row}
use Rattle.table.specs.Groups.{Group, group, below, with_group, with_free}
use Rattle.table.specs.Moves.{TakenOut, Attached, lowest}
use Rattle.table.specs.Stands.{Sound, Stands, worth}
use Rattle.table.proofs.Rising.{seat, rises_right}
use Rattle.table.proofs.Rows.{row, row_agree, row_sound}
use Rattle.table.proofs.Attaching.{Between, AtCount, detached, unused, relabelled, row_labelled, attached}
use Rattle.table.proofs.Looking.{crowd, lowest_is}
use Rattle.table.proofs.Seats.{owner_is, own, lower_part, upper_part, own_read, row_split, row_rest, at_own, off_own}

-- The lowest counter is the first of the first group.
pub record Lowest (gs : List Group) (p : ℕ) : Type 0 where
  pub b : ℕ
  pub zs : List ℕ
  pub rs : List Group
  pub is : gs ≡ group b (p ∷ zs) ∷ rs

lowest_seat : (gs : List Group) (p : ℕ) → Each (λ g. 1 ≤ length g.members) gs → nth (crowd gs) 0 ≡ Some p → Lowest gs p
lowest_seat [] p f e = absurd cc
lowest_seat (g ∷ gs) p f e = go g.members refl f.0 e
  where
    go : (ms : List ℕ) → g.members ≡ ms → 1 ≤ length ms → nth (ms ++ crowd gs) 0 ≡ Some p → Lowest (g ∷ gs) p
    go [] q l i = absurd (not-suc-le-zero l)
    go (x ∷ ms) q l i = record { b = g.at; zs = ms; rs = gs; is = ap (λ (ys : List ℕ). group g.at ys ∷ gs) (q ∙ ap (λ (y : ℕ). y ∷ ms) (same_Some x p i)) }

length_below : (n : ℕ) → length (below n) ≡ n
length_below zero = refl
length_below (suc n) = let h = length_below n in let k = length-append (below n) (n ∷ []) in omega arith

module _ {T : Type 0} where
  -- A table that stands, and the row that it shows.
  pub record Shows (t : List (Place T)) (s : Lists) (used total : ℕ) (r : List (Placed T)) : Type 0 where
    pub stands : Stands t s used total
    pub is : placed_row t s.main.first ≡ r

  shows_attached : (t t₂ : List (Place T)) (s₂ : Lists) (used bound p v : ℕ) (rest : List Group) (x : T) (err : ℕ) (r : List (Placed T)) → AtCount t t₂ s₂ used bound p v rest → ((u : ℕ) → placed_in t u p ≡ put p x u err ∷ []) → row t rest ≡ r → Shows t₂ s₂ used bound (insert (put p x v err) r)
  shows_attached t t₂ s₂ used bound p v rest x err r u e q =
      record {
        stands = record { gs = u.gs; fs = u.fs; sound = u.sound };
        is = row_sound t₂ s₂ used bound u.gs u.fs u.sound ∙ u.shows x err e ∙ ap (insert (put p x v err)) q;
      }

  -- ---- a counter in use is detached and counts one more

  module _ (t t₁ : List (Place T)) (s s₁ : Lists) (used total : ℕ) (a : Option ℕ) (ls : List Group) (b : ℕ) (xs : List ℕ) (p : ℕ) (zs : List ℕ) (rs : List Group) (fs : List ℕ) (h : Sound t s used total (ls ++ group b (xs ++ p ∷ zs) ∷ rs) fs) (lt : p < used) (k : TakenOut t t₁ s s₁ p a) where
    one_more : Between t₁ s₁ used (total + 1) a p (value_in t b + 1) (ls ++ with_group b (xs ++ zs) []) rs (with_free b (xs ++ zs) fs)
    one_more =
        let w : value_in t b ≤ total = all_mid (λ g. worth t g ≤ total) ls (group b (xs ++ p ∷ zs)) rs h.under in
        let aft = (rises_right (worth t) ls (group b (xs ++ p ∷ zs) ∷ rs) h.rising).0 in
        detached t t₁ s s₁ p a used total (total + 1) (value_in t b + 1) ls b xs zs rs fs h lt k (omega arith) (All-weaker (λ g. value_in t b < worth t g) (λ g. value_in t b + 1 ≤ worth t g) (λ g i. omega arith) rs aft) (omega arith) (omega arith)

    rest_is : row t₁ ((ls ++ with_group b (xs ++ zs) []) ++ rs) ≡ lower_part t s used total ls b xs p zs rs fs h ++ upper_part t s used total ls b xs p zs rs fs h
    rest_is =
        let gs = (ls ++ with_group b (xs ++ zs) []) ++ rs in
        row_agree t t₁ k.quiet.entries gs (all_every (λ g. worth t₁ g ≡ worth t g) (λ g. k.quiet.values g.at) gs) ∙ row_rest t s used total ls b xs p zs rs fs h

    count_is : value_in t (owner_in t p) ≡ value_in t b
    count_is = ap (value_in t) (owner_is t s used total ls b xs p zs rs fs h)

    raised_at : (t₂ : List (Place T)) (s₂ : Lists) → Attached t₁ t₂ s₁ s₂ a (value_in t b + 1) p → Shows t₂ s₂ used (total + 1) (raised (at_place p (placed_row t s.main.first)) (off_place p (placed_row t s.main.first)))
    raised_at t₂ s₂ j =
        let e = own t s used total ls b xs p zs rs fs h in
        let L = lower_part t s used total ls b xs p zs rs fs h in
        let U = upper_part t s used total ls b xs p zs rs fs h in
        let u = attached t₁ t₂ s₁ s₂ used (total + 1) a p (value_in t b + 1) (ls ++ with_group b (xs ++ zs) []) rs (with_free b (xs ++ zs) fs) one_more j in
        let y : Shows t₂ s₂ used (total + 1) (insert (put p e.entry.item (value_in t b + 1) e.entry.error) (L ++ U)) =
        shows_attached t₁ t₂ s₂ used (total + 1) p (value_in t b + 1) ((ls ++ with_group b (xs ++ zs) []) ++ rs) e.entry.item e.entry.error (L ++ U) u (λ v. k.quiet.entries v p ∙ own_read t s used total ls b xs p zs rs fs h v) rest_is in
        rw (at_own t s used total ls b xs p zs rs fs h, off_own t s used total ls b xs p zs rs fs h) y

    replaced_at : (x : T) (t₂ : List (Place T)) (s₂ : Lists) → Attached (edit (labelled x (value_in t b)) p t₁) t₂ s₁ s₂ a (value_in t b + 1) p → ls ≡ [] → xs ≡ [] → Shows t₂ s₂ used (total + 1) (overtaken x (placed_row t s.main.first))
    replaced_at x t₂ s₂ j el ex =
        let w = value_in t b in
        let t₁' = edit (labelled x w) p t₁ in
        let ls' = ls ++ with_group b (xs ++ zs) [] in
        let fs' = with_free b (xs ++ zs) fs in
        let L = lower_part t s used total ls b xs p zs rs fs h in
        let U = upper_part t s used total ls b xs p zs rs fs h in
        let d = one_more in
        let u = attached t₁' t₂ s₁ s₂ used (total + 1) a p (w + 1) ls' rs fs' (relabelled t₁ x w p s₁ used (total + 1) a (w + 1) ls' rs fs' d) j in
        let q : row t₁' (ls' ++ rs) ≡ L ++ U = row_labelled t₁ x w p (ls' ++ rs) d.loose.off ∙ rest_is in
        let y : Shows t₂ s₂ used (total + 1) (insert (put p x (w + 1) w) (L ++ U)) =
        shows_attached t₁' t₂ s₂ used (total + 1) p (w + 1) (ls' ++ rs) x w (L ++ U) u (λ v. read_same (placed_of p v) [] (labelled x w) (put p x v w ∷ []) (λ i. refl) t₁ p d.loose.within) q in
        let eL : L ≡ [] = rw (el, ex) refl in
        let y' : Shows t₂ s₂ used (total + 1) (insert (put p x (w + 1) w) U) =
        subst (λ (l : List (Placed T)). Shows t₂ s₂ used (total + 1) (insert (put p x (w + 1) w) (l ++ U))) eL y in
        let er : placed_row t s.main.first ≡ own t s used total ls b xs p zs rs fs h ∷ U = row_split t s used total ls b xs p zs rs fs h ∙ ap (λ (l : List (Placed T)). l ++ own t s used total ls b xs p zs rs fs h ∷ U) eL in
        rw er y'

  -- ---- the three moves, on a table that stands

  pub raise_shows : (t t₁ t₂ : List (Place T)) (s s₁ s₂ : Lists) (used total p v : ℕ) (a : Option ℕ) → Stands t s used total → p < used → TakenOut t t₁ s s₁ p a → v ≡ value_in t (owner_in t p) + 1 → Attached t₁ t₂ s₁ s₂ a v p → Shows t₂ s₂ used (total + 1) (raised (at_place p (placed_row t s.main.first)) (off_place p (placed_row t s.main.first)))
  raise_shows t t₁ t₂ s s₁ s₂ used total p v a st lt k ev j =
      let at = seat p st.gs (st.sound.seats p lt) in
      let h : Sound t s used total (at.ls ++ group at.b (at.xs ++ p ∷ at.zs) ∷ at.rs) st.fs = rw (← at.is) st.sound in
      let e : v ≡ value_in t at.b + 1 = ev ∙ ap (λ (n : ℕ). n + 1) (count_is t t₁ s s₁ used total a at.ls at.b at.xs p at.zs at.rs st.fs h lt k) in
      raised_at t t₁ s s₁ used total a at.ls at.b at.xs p at.zs at.rs st.fs h lt k t₂ s₂ (rw (← e) j)

  pub enter_shows : (t t₂ : List (Place T)) (s s₂ : Lists) (p total : ℕ) (x : T) → Stands t s p total → p < length t → Attached (edit (labelled x 0) p t) t₂ s s₂ None 1 p → Shows t₂ s₂ (p + 1) (total + 1) (entered p x (placed_row t s.main.first))
  enter_shows t t₂ s s₂ p total x st lt j =
      let t₁ = edit (labelled x 0) p t in
      let d = unused t s p total (total + 1) st.gs st.fs st.sound lt (omega arith) (omega arith) in
      let u = attached t₁ t₂ s s₂ (p + 1) (total + 1) None p 1 [] st.gs st.fs (relabelled t x 0 p s (p + 1) (total + 1) None 1 [] st.gs st.fs d) j in
      let q : row t₁ st.gs ≡ placed_row t s.main.first = row_labelled t x 0 p st.gs d.loose.off ∙ sym (row_sound t s p total st.gs st.fs st.sound) in
      shows_attached t₁ t₂ s₂ (p + 1) (total + 1) p 1 st.gs x 0 (placed_row t s.main.first) u (λ v. read_same (placed_of p v) [] (labelled x 0) (put p x v 0 ∷ []) (λ i. refl) t p lt) q

  pub replace_shows : (t t₁ t₂ : List (Place T)) (s s₁ s₂ : Lists) (used total p v w : ℕ) (a : Option ℕ) (x : T) → Stands t s used total → lowest t s ≡ Some p → TakenOut t t₁ s s₁ p a → w ≡ value_in t (owner_in t p) → v ≡ w + 1 → Attached (edit (labelled x w) p t₁) t₂ s₁ s₂ a v p → Shows t₂ s₂ used (total + 1) (overtaken x (placed_row t s.main.first))
  replace_shows t t₁ t₂ s s₁ s₂ used total p v w a x st el k ew ev j =
      let at = lowest_seat st.gs p st.sound.filled (sym (lowest_is t s used total st.gs st.fs st.sound) ∙ el) in
      let h : Sound t s used total (group at.b (p ∷ at.zs) ∷ at.rs) st.fs = rw (← at.is) st.sound in
      let lt : p < used = h.inside.0.0 in
      let e : w ≡ value_in t at.b = ew ∙ count_is t t₁ s s₁ used total a [] at.b [] p at.zs at.rs st.fs h lt k in
      let e' : v ≡ value_in t at.b + 1 = ev ∙ ap (λ (n : ℕ). n + 1) e in
      replaced_at t t₁ s s₁ used total a [] at.b [] p at.zs at.rs st.fs h lt k x t₂ s₂ (rw (← e', ← e) j) refl refl

  -- The count of a counter in use is no more than the total.
  pub count_under : (t : List (Place T)) (s : Lists) (used total p : ℕ) → Stands t s used total → p < used → value_in t (owner_in t p) ≤ total
  count_under t s used total p st lt =
      let at = seat p st.gs (st.sound.seats p lt) in
      let h : Sound t s used total (at.ls ++ group at.b (at.xs ++ p ∷ at.zs) ∷ at.rs) st.fs = rw (← at.is) st.sound in
      rw (owner_is t s used total at.ls at.b at.xs p at.zs at.rs st.fs h) (all_mid (λ g. worth t g ≤ total) at.ls (group at.b (at.xs ++ p ∷ at.zs)) at.rs h.under)

  -- The lowest counter is in use.
  pub lowest_used : (t : List (Place T)) (s : Lists) (used total p : ℕ) → Stands t s used total → lowest t s ≡ Some p → p < used
  lowest_used t s used total p st el =
      let at = lowest_seat st.gs p st.sound.filled (sym (lowest_is t s used total st.gs st.fs st.sound) ∙ el) in
      let h : Sound t s used total (group at.b (p ∷ at.zs) ∷ at.rs) st.fs = rw (← at.is) st.sound in
      h.inside.0.0

  -- ---- at first

  -- A table with all buckets free and none in use stands for no counter.
  pub stands_new : (t : List (Place T)) (s : Lists) (n : ℕ) → s.main ≡ no_ends → Listed bucket_links t (below n) s.free → length t ≡ n → Stands t s 0 0
  stands_new t s n m h e =
      let k = length_below n in
      record {
        gs = [];
        fs = below n;
        sound =
            record {
              full = record { buckets = record { list = record { chain = tt; apart = tt; within = tt }; begins = ap (λ x. x.first) m; stops = ap (λ x. x.last) m }; groups = tt; unused = h; apart = tt };
              rising = tt;
              under = tt;
              positive = tt;
              inside = tt;
              filled = tt;
              counters = refl;
              buckets = omega arith;
              fits = omega arith;
              seats = λ q l. absurd (not-suc-le-zero l);
            };
      }
