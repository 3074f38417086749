-- Buckets change between use and the free ones: an emptied one is given back, and a free one is taken.
use Rattle.std.proofs.Common.{◌≡◌, ℕ, zero, suc, ◌<◌, ◌≤◌, true, false, List, [], ◌∷◌, ◌++◌, length, Some, None, Option, sym, refl, ap, ◌∙◌, append-nil, arith}
use Rattle.std.proofs.lemmas.Option.{same_Some, none-some}
use Rattle.std.specs.Option.{is_some}
use Rattle.std.proofs.lemmas.Bool.{true≢false, false≢true}
use Rattle.std.proofs.lemmas.List.{map-append}
use Rattle.links.specs.declared.ends.Ends.{Ends}
use Rattle.links.specs.Tables.{edit}
use Rattle.links.specs.Chains.{last_or, Off}
use Rattle.links.specs.Lists.{Listed, Unlinked, Linked, prev_in, unlinking, linking}
use Rattle.links.proofs.Alls.{all_mid, all_out}
use Rattle.links.proofs.Places.{off_join}
use Rattle.links.proofs.Chains.{last_or_append}
use Rattle.links.proofs.Tables.{length_edit}
use Rattle.links.proofs.Listing.{prev_is, length_unlinking}
use Rattle.table.specs.declared.place.Place.{Place}
use Rattle.table.specs.declared.lists.Lists.{Lists}
use Rattle.table.specs.Fields.{bucket_links, owner_in, members_in, emptied}
use Rattle.table.specs.Groups.{Group, Holds, Full, Loose, group, ats, with_group, with_free, below}
use Rattle.table.specs.Moves.{Quiet, Revalued, Tidied, TakenOut, Freshened, pulled_from, retired_in, retired_lists, added_in}
use Rattle.table.proofs.Lawful.{bucket_lawful}
use Rattle.table.proofs.Quiets.{quiet_none, quiet_then, quiet_pulled, quiet_unlink_bucket, quiet_link_bucket, added_entries, added_values}
use Rattle.table.proofs.Grouping.{within_mid, pull_full, pull_loose, pull_owner, drop_full, free_full, pop_full, add_full}

none_where : (o : Option ℕ) → is_some o ≡ false → o ≡ None
none_where None e = refl
none_where (Some i) e = absurd (true≢false e)

module _ {T : Type 0} where
  -- ---- an emptied bucket is given back

  -- The bucket b, which has no counter, goes to the free ones.
  pub record Retired (t t' : List (Place T)) (s s' : Lists) (b : ℕ) : Type 0 where
    pub quiet : Quiet t t'
    pub out : (ls rs : List Group) (fs : List ℕ) → Full t s (ls ++ group b [] ∷ rs) fs → Full t' s' (ls ++ rs) (fs ++ b ∷ [])

  pub retired_by : (t t' : List (Place T)) (s s' : Lists) (b : ℕ) → t' ≡ retired_in s b t → s' ≡ retired_lists t b s → Retired t t' s s' b
  retired_by t t' s s' b et es =
      let t₁ = unlinking bucket_links b t in
      let l = s.free.last in
      record {
        quiet = rw et (quiet_then t t₁ (linking bucket_links l None b t₁) (quiet_unlink_bucket b t) (quiet_link_bucket l None b t₁));
        out = λ ls rs fs h.
            let d = drop_full t s ls rs b fs h in
            let w : b < length t₁ = rw (length_unlinking bucket_links bucket_lawful b t) (within_mid (length t) ls (group b []) rs h.buckets.list.within) in
            rw (et, es) (free_full t₁ (record { main = _; free = s.free }) (ls ++ rs) b fs d.0 d.1 d.2 w);
      }

  -- The link back from a bucket leads to the last before it.
  pub prev_groups : (t : List (Place T)) (ends : Ends) (ls : List Group) (g : Group) (rs : List Group) → Listed bucket_links t (ats (ls ++ g ∷ rs)) ends → prev_in bucket_links t g.at ≡ last_or None (ats ls)
  prev_groups t ends ls g rs h =
      let e : ats (ls ++ g ∷ rs) ≡ ats ls ++ g.at ∷ ats rs = map-append (λ x. x.at) ls (g ∷ rs) in
      let h' : Listed bucket_links t (ats ls ++ g.at ∷ ats rs) ends = rw (← e) h in
      prev_is bucket_links t (ats ls) g.at (ats rs) h'.list

  pub tidied_out : (t t' : List (Place T)) (s s' : Lists) (b : ℕ) (a : Option ℕ) (e : Ends) → e ≡ members_in t b → is_some e.first ≡ false → a ≡ prev_in bucket_links t b → t' ≡ retired_in s b t → s' ≡ retired_lists t b s → Tidied t t' s s' b a
  tidied_out t t' s s' b a e₁ q n ea et es = record { quiet = d.quiet; out = go; before = back }
    where
      d : Retired t t' s s' b
      d = retired_by t t' s s' b et es

      e : (members_in t b).first ≡ None
      e = ap (λ x. x.first) (sym q) ∙ none_where e₁.first n

      no : (ls rs : List Group) (x : ℕ) (ms fs : List ℕ) → Full t s (ls ++ group b (x ∷ ms) ∷ rs) fs → ⊥
      no ls rs x ms fs h = let hg = all_mid (Holds t) ls (group b (x ∷ ms)) rs h.groups in none-some x (sym e ∙ hg.list.begins)

      go : (ls rs : List Group) (ms fs : List ℕ) → Full t s (ls ++ group b ms ∷ rs) fs → Full t' s' (ls ++ with_group b ms rs) (with_free b ms fs)
      go ls rs [] fs h = d.out ls rs fs h
      go ls rs (x ∷ ms) fs h = absurd (no ls rs x ms fs h)

      back : (ls rs : List Group) (ms fs : List ℕ) → Full t s (ls ++ group b ms ∷ rs) fs → a ≡ last_or None (ats (ls ++ with_group b ms []))
      back ls rs [] fs h = rw (append-nil ls) (ea ∙ prev_groups t s.main ls (group b []) rs h.buckets)
      back ls rs (x ∷ ms) fs h = absurd (no ls rs x ms fs h)

  pub tidied_kept : (t : List (Place T)) (s : Lists) (b : ℕ) (e : Ends) → e ≡ members_in t b → is_some e.first ≡ true → Tidied t t s s b (Some b)
  tidied_kept t s b e q y = record { quiet = quiet_none t; out = go; before = back }
    where
      no : (ls rs : List Group) (fs : List ℕ) → Full t s (ls ++ group b [] ∷ rs) fs → ⊥
      no ls rs fs h = let hg = all_mid (Holds t) ls (group b []) rs h.groups in false≢true (ap is_some (sym hg.list.begins ∙ ap (λ x. x.first) (sym q)) ∙ y)

      go : (ls rs : List Group) (ms fs : List ℕ) → Full t s (ls ++ group b ms ∷ rs) fs → Full t s (ls ++ with_group b ms rs) (with_free b ms fs)
      go ls rs [] fs h = absurd (no ls rs fs h)
      go ls rs (y ∷ ms) fs h = h

      back : (ls rs : List Group) (ms fs : List ℕ) → Full t s (ls ++ group b ms ∷ rs) fs → Some b ≡ last_or None (ats (ls ++ with_group b ms []))
      back ls rs [] fs h = absurd (no ls rs fs h)
      back ls rs (y ∷ ms) fs h =
          let e' : ats (ls ++ group b (y ∷ ms) ∷ []) ≡ ats ls ++ b ∷ [] = map-append (λ g. g.at) ls (group b (y ∷ ms) ∷ []) in
          rw e' (sym (last_or_append None (ats ls) (b ∷ [])))

  loose_with : (t t' : List (Place T)) (b c : ℕ) (ls rs : List Group) (ms : List ℕ) → length t' ≡ length t → Loose t (ls ++ group b ms ∷ rs) c → Loose t' (ls ++ with_group b ms rs) c
  loose_with t t' b c ls rs [] e o = record { off = all_out (λ g. Off c g.members) ls (group b []) rs o.off; within = rw e o.within }
  loose_with t t' b c ls rs (x ∷ ms) e o = record { off = o.off; within = rw e o.within }

  pub taken_out : (t t₁ t₂ : List (Place T)) (s s₁ s' : Lists) (c b : ℕ) (a : Option ℕ) → b ≡ owner_in t c → t₁ ≡ pulled_from b c t → s₁ ≡ s → Tidied t₁ t₂ s₁ s' b a → TakenOut t t₂ s s' c a
  taken_out t t₁ t₂ s s₁ s' c b a eb p es d₁ =
      let d : Tidied t₁ t₂ s s' b a = rw (← es) d₁ in
      let q : Quiet t t₁ = rw p (quiet_pulled b c t) in
      record {
        quiet = quiet_then t t₁ t₂ q d.quiet;
        out = λ ls rs b' xs zs fs h.
            let e : b ≡ b' = eb ∙ pull_owner t s ls rs b' c xs zs fs h in
            let h' : Full t s (ls ++ group b (xs ++ c ∷ zs) ∷ rs) fs = rw e h in
            let f₁ : Full t₁ s (ls ++ group b (xs ++ zs) ∷ rs) fs = rw p (pull_full t s ls rs b c xs zs fs h') in
            let n : length t₂ ≡ length t = d.quiet.size ∙ q.size in
            let o = loose_with t t₂ b c ls rs (xs ++ zs) n (pull_loose t s ls rs b c xs zs fs h') in
            (rw (← e) (d.out ls rs (xs ++ zs) fs f₁), rw (← e) o, rw (← e) (d.before ls rs (xs ++ zs) fs f₁));
      }

  -- ---- a free bucket is taken

  pub fresh_some : (t t₁ t₂ t₃ : List (Place T)) (s : Lists) (main free : Ends) (a z : Option ℕ) (v b : ℕ) → s.free.first ≡ Some b → Unlinked bucket_links t t₁ b s.free free → Linked bucket_links t₁ t₂ a z b s.main main → t₃ ≡ edit (emptied v) b t₂ → Freshened t t₃ s (record { main = main; free = free }) a z v (Some b)
  fresh_some t t₁ t₂ t₃ s main free a z v b e u k e₂ =
      let e₃ : t₃ ≡ added_in a z b v t₁ = e₂ ∙ ap (edit (emptied v) b) k.table in
      let t₁' = unlinking bucket_links b t in
      let q₁ = quiet_unlink_bucket b t in
      let q : Quiet t t₁ = rw u.table q₁ in
      record {
        size = ap length e₃ ∙ added_size a z b v t₁ ∙ q.size;
        entries = λ w c. rw e₃ (added_entries a z b v t₁ w c ∙ q.entries w c);
        put = λ ls rs b' fs h ea ez.
            let eb : b ≡ b' = same_Some b b' (sym e ∙ h.unused.begins) in
            let h' : Full t s (ls ++ rs) (b ∷ fs) = rw eb h in
            let p = pop_full t s (ls ++ rs) b fs h' in
            let f₁ : Full t₁ (record { main = s.main; free = free }) (ls ++ rs) fs = rw (u.table, u.ends) p.0 in
            let w : b < length t₁ = rw q.size h'.unused.list.within.0 in
            let y : Full t₃ (record { main = main; free = free }) (ls ++ group b [] ∷ rs) fs =
            rw (e₃, k.ends, ea, ez) (add_full t₁ (record { main = s.main; free = free }) ls rs b v fs f₁ p.1 p.2 w) in
            let n : Revalued t₁ (added_in a z b v t₁) b v = added_values a z b v t₁ w in
            let m : Revalued t t₃ b v = record { here = rw e₃ n.here; other = λ i ne. rw e₃ (n.other i ne ∙ q.values i) } in
            (ap Some eb, rw (← eb) y, rw (← eb) m);
      }
    where
      added_size : (a z : Option ℕ) (b v : ℕ) (t : List (Place T)) → length (added_in a z b v t) ≡ length t
      added_size a z b v t = length_edit (emptied v) b (linking bucket_links a z b t) ∙ (quiet_link_bucket a z b t).size

-- ---- at first all buckets are free

pub off_below : (n m : ℕ) → n ≤ m → Off m (below n)
off_below zero m h = tt
off_below (suc n) m h = let h' : n ≤ m = omega arith in off_join m (below n) (n ∷ []) (off_below n m h') ((λ e. omega arith), tt)
