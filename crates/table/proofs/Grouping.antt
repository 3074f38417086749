-- The groups of a table after each edit: a counter out of its bucket, a counter into one, a bucket out of use, one into use.
use Rattle.std.proofs.Common.{◌≡◌, ℕ, ◌<◌, ◌⊎◌, List, [], ◌∷◌, ◌++◌, length, Some, None, Option, sym, refl, ap, ◌∙◌, inl, inr, append-nil}
use Rattle.std.proofs.lemmas.Option.{same_Some}
use Rattle.std.specs.List.{AllByRecursion as Each}
use Rattle.std.proofs.ByRecursion.{All-append, All-weaker}
use Rattle.std.proofs.lemmas.List.{map-append}
use Rattle.rows.proofs.Lists.{all_both}
use Rattle.links.specs.declared.ends.Ends.{Ends}
use Rattle.links.specs.Tables.{edit, edit_at}
use Rattle.links.specs.Chains.{first_or, last_or, Off, Apart, Cross}
use Rattle.links.specs.Lists.{Chained, Listed, next_in, prev_in, unlinking, linking, ends_out, ends_in}
use Rattle.links.proofs.Alls.{all_left, all_right, all_mid, all_out, all_in}
use Rattle.links.proofs.Places.{apart_off, cross_first, cross_right, cross_join, cross_sym, cross_rest}
use Rattle.links.proofs.Tables.{read_kept, read_kept_at, read_same, length_edit}
use Rattle.links.proofs.Chains.{Clear, Same, clear_none, clear_last, clear_off, same_all}
use Rattle.links.proofs.Listing.{read_clear, same_clear, same_kept, chained_kept, chained_clear, prev_clear, next_clear, listed_out, listed_in, length_unlinking, length_linking, unlinking_other, linking_other}
use Rattle.table.specs.declared.place.Place.{Place}
use Rattle.table.specs.declared.lists.Lists.{Lists}
use Rattle.table.specs.Fields.{counter_links, bucket_links, owner_of, members_of, no_ends, owner_in, members_in, with_members, with_owner, emptied}
use Rattle.table.specs.Groups.{Group, Holds, Full, Loose, group, ats}
use Rattle.table.specs.Moves.{pulled_from, attached_in, added_in}
use Rattle.table.proofs.Lawful.{counter_lawful, bucket_lawful}

-- Counters that name different buckets are different.
pub cross_by : (f : ℕ → ℕ) (a b : ℕ) → (a ≡ b → ⊥) → (xs ys : List ℕ) → Each (λ x. f x ≡ a) xs → Each (λ y. f y ≡ b) ys → Cross xs ys
cross_by f a b n xs ys p q = All-weaker (λ x. f x ≡ a) (λ x. Off x ys) (λ x e. All-weaker (λ y. f y ≡ b) (λ y. y ≡ x → ⊥) (λ y e' h. n (sym e ∙ ap f (sym h) ∙ e')) ys q) xs p

all_same : (f g : ℕ → ℕ) (a : ℕ) (xs : List ℕ) → Same f g xs → Each (λ c. f c ≡ a) xs → Each (λ c. g c ≡ a) xs
all_same f g a [] s h = tt
all_same f g a (x ∷ xs) s h = (s.0 ∙ h.0, all_same f g a xs s.1 h.1)

-- ---- one group under an edit

module _ {T : Type 0} where
  -- The edit leaves each counter's links and bucket; it leaves each bucket's links; it leaves each bucket's ends.
  pub record KeepsCounter (e : Place T → Place T) : Type 0 where
    pub next : (x : Place T) → counter_links.next (e x) ≡ counter_links.next x
    pub prev : (x : Place T) → counter_links.prev (e x) ≡ counter_links.prev x
    pub owner : (x : Place T) → owner_of (e x) ≡ owner_of x

  abbrev pub KeepsEnds : (Place T → Place T) → Type 0
  KeepsEnds e = (x : Place T) → members_of (e x) ≡ members_of x

  module _ (t : List (Place T)) (g : Group) (l : Option ℕ) (e : Place T → Place T) where
    list_edit : Clear l g.members ⊎ KeepsCounter e → Chained counter_links t g.members → Chained counter_links (edit_at l e t) g.members
    list_edit (inl c) h = chained_clear counter_links t g.members l e c h
    list_edit (inr k) h = chained_kept counter_links t g.members l e k.next k.prev h

    owner_edit : Clear l g.members ⊎ KeepsCounter e → Same (owner_in t) (owner_in (edit_at l e t)) g.members
    owner_edit (inl c) = same_clear owner_of 0 e t l g.members c
    owner_edit (inr k) = same_kept owner_of 0 e t k.owner l g.members

    ends_edit : (Some g.at ≡ l → ⊥) ⊎ KeepsEnds e → members_in (edit_at l e t) g.at ≡ members_in t g.at
    ends_edit (inl n) = read_clear members_of no_ends e t l g.at n
    ends_edit (inr k) = read_kept_at members_of no_ends e k l t g.at

    -- A group stays under an edit that is off its counters or leaves them, and off its bucket or leaves its ends.
    pub holds_edit : Clear l g.members ⊎ KeepsCounter e → (Some g.at ≡ l → ⊥) ⊎ KeepsEnds e → Holds t g → Holds (edit_at l e t) g
    holds_edit a b h =
        let q = ends_edit b in
        record {
          list = record { list = list_edit a h.list.list; begins = rw q h.list.begins; stops = rw q h.list.stops };
          mine = all_same (owner_in t) (owner_in (edit_at l e t)) g.at g.members (owner_edit a) h.mine;
        }

  -- All groups stay under an edit that leaves counters and ends.
  pub holds_all : (t : List (Place T)) (l : Option ℕ) (e : Place T → Place T) → KeepsCounter e → KeepsEnds e → (gs : List Group) → Each (Holds t) gs → Each (Holds (edit_at l e t)) gs
  holds_all t l e k m gs h = All-weaker (Holds t) (Holds (edit_at l e t)) (λ g x. holds_edit t g l e (inr k) (inr m) x) gs h

-- ---- the groups of a table, one of them apart

off_mid : (y : ℕ) (ls : List Group) (g : Group) (rs : List Group) → Off y (ats (ls ++ g ∷ rs)) → g.at ≡ y → ⊥
off_mid y [] g rs o = o.0
off_mid y (h ∷ ls) g rs o = off_mid y ls g rs o.1

pub apart_mid : (ls : List Group) (g : Group) (rs : List Group) → Apart (ats (ls ++ g ∷ rs)) → Off g.at (ats ls) × Off g.at (ats rs)
apart_mid [] g rs a = (tt, a.0)
apart_mid (h ∷ ls) g rs a =
    let r = apart_mid ls g rs a.1 in (((λ e. off_mid h.at ls g rs a.0 (sym e)), r.0), r.1)

pub within_mid : (m : ℕ) (ls : List Group) (g : Group) (rs : List Group) → Each (λ x. x < m) (ats (ls ++ g ∷ rs)) → g.at < m
within_mid m [] g rs w = w.0
within_mid m (h ∷ ls) g rs w = within_mid m ls g rs w.1

pub ats_swap : (ls : List Group) (g h : Group) (rs : List Group) → h.at ≡ g.at → ats (ls ++ h ∷ rs) ≡ ats (ls ++ g ∷ rs)
ats_swap [] g h rs e = ap (λ (x : ℕ). x ∷ ats rs) e
ats_swap (x ∷ ls) g h rs e = ap (λ (r : List ℕ). x.at ∷ r) (ats_swap ls g h rs e)

each_other : (P Q : Group → Type 0) (b : ℕ) (gs : List Group) → Off b (ats gs) → ((h : Group) → (h.at ≡ b → ⊥) → P h → Q h) → Each P gs → Each Q gs
each_other P Q b [] o k a = tt
each_other P Q b (h ∷ gs) o k a = (k h o.0 a.0, each_other P Q b gs o.1 k a.1)

-- The groups other than one stay, and that one is changed.
groups_step : (P Q : Group → Type 0) (ls : List Group) (g g' : Group) (rs : List Group) → Apart (ats (ls ++ g ∷ rs)) → ((h : Group) → (h.at ≡ g.at → ⊥) → P h → Q h) → Q g' → Each P (ls ++ g ∷ rs) → Each Q (ls ++ g' ∷ rs)
groups_step P Q ls g g' rs a k q h =
    let o = apart_mid ls g rs a in
    All-append Q ls (g' ∷ rs) (each_other P Q g.at ls o.0 k (all_left P ls (g ∷ rs) h)) (q, each_other P Q g.at rs o.1 k (all_right P ls (g ∷ rs) h).1)

-- A list of buckets is one still where its buckets are named the same, and its ends are kept.
listed_as : {T : Type 0} (t t' : List (Place T)) (ws ws' : List ℕ) (ends : Ends) → ws' ≡ ws → (Chained bucket_links t ws → Chained bucket_links t' ws) → Listed bucket_links t ws ends → Listed bucket_links t' ws' ends
listed_as t t' ws ws' ends e k h = rw e (record { list = k h.list; begins = h.begins; stops = h.stops })

-- ---- a counter goes out of its bucket's list

module _ {T : Type 0} (t : List (Place T)) (b c : ℕ) (xs zs : List ℕ) (hg : Holds t (group b (xs ++ c ∷ zs))) where
  pull_other : (h : Group) → (h.at ≡ b → ⊥) → Holds t h → Holds (pulled_from b c t) h
  pull_other h ne hh =
      let n = next_in counter_links t c in
      let p = prev_in counter_links t c in
      let t₁ = edit_at p (counter_links.put_next n) t in
      let t₂ = edit_at n (counter_links.put_prev p) t₁ in
      let cr : Cross (xs ++ c ∷ zs) h.members = cross_by (owner_in t) b h.at (λ e. ne (sym e)) (xs ++ c ∷ zs) h.members hg.mine hh.mine in
      holds_edit t₂ h (Some b) (with_members (ends_out counter_links t c (members_in t b))) (inr (record { next = λ x. refl; prev = λ x. refl; owner = λ x. refl })) (inl (λ q. ne (same_Some h.at b q)))
      (holds_edit t₁ h n (counter_links.put_prev p) (inl (next_clear counter_links t xs c zs hg.list.list h.members cr)) (inr (λ x. refl))
      (holds_edit t h p (counter_links.put_next n) (inl (prev_clear counter_links t xs c zs hg.list.list h.members cr)) (inr (λ x. refl)) hh))

  pull_buckets : (ws : List ℕ) → Chained bucket_links t ws → Chained bucket_links (pulled_from b c t) ws
  pull_buckets ws h =
      let n = next_in counter_links t c in
      let p = prev_in counter_links t c in
      let t₁ = edit_at p (counter_links.put_next n) t in
      let t₂ = edit_at n (counter_links.put_prev p) t₁ in
      chained_kept bucket_links t₂ ws (Some b) (with_members (ends_out counter_links t c (members_in t b))) (λ x. refl) (λ x. refl)
      (chained_kept bucket_links t₁ ws n (counter_links.put_prev p) (λ x. refl) (λ x. refl)
      (chained_kept bucket_links t ws p (counter_links.put_next n) (λ x. refl) (λ x. refl) h))

  pull_group : b < length t → Holds (pulled_from b c t) (group b (xs ++ zs))
  pull_group w =
      let n = next_in counter_links t c in
      let p = prev_in counter_links t c in
      let e = ends_out counter_links t c (members_in t b) in
      let ms = xs ++ zs in
      let t₁ = edit_at p (counter_links.put_next n) t in
      let t₂ = edit_at n (counter_links.put_prev p) t₁ in
      let t₃ = edit (with_members e) b t₂ in
      let o = listed_out counter_links counter_lawful t (members_in t b) xs c zs hg.list in
      let ee : members_in t₃ b ≡ e = read_same members_of no_ends (with_members e) e (λ x. refl) t₂ b (rw (length_unlinking counter_links counter_lawful c t) w) in
      let same : (i : ℕ) → owner_in t₃ i ≡ owner_in t i =
      λ i. read_kept owner_of 0 (with_members e) (λ x. refl) t₂ b i ∙ read_kept_at owner_of 0 (counter_links.put_prev p) (λ x. refl) n t₁ i
      ∙ read_kept_at owner_of 0 (counter_links.put_next n) (λ x. refl) p t i in
      record {
        list = record { list = chained_kept counter_links t₂ ms (Some b) (with_members e) (λ x. refl) (λ x. refl) o.list; begins = rw ee o.begins; stops = rw ee o.stops };
        mine = all_same (owner_in t) (owner_in t₃) b ms (same_all (owner_in t) (owner_in t₃) same ms) (all_out (λ x. owner_in t x ≡ b) xs c zs hg.mine);
      }

module _ {T : Type 0} (t : List (Place T)) (s : Lists) (ls rs : List Group) (b c : ℕ) (xs zs fs : List ℕ) (h : Full t s (ls ++ group b (xs ++ c ∷ zs) ∷ rs) fs) where
  pub pull_holds : Holds t (group b (xs ++ c ∷ zs))
  pull_holds = all_mid (Holds t) ls (group b (xs ++ c ∷ zs)) rs h.groups

  pub pull_owner : owner_in t c ≡ b
  pull_owner = all_mid (λ x. owner_in t x ≡ b) xs c zs pull_holds.mine

  -- The table then stands for the groups without the counter,
  pub pull_full : Full (pulled_from b c t) s (ls ++ group b (xs ++ zs) ∷ rs) fs
  pull_full =
      let g : Group = group b (xs ++ c ∷ zs) in
      let g' : Group = group b (xs ++ zs) in
      let hg = pull_holds in
      let w : b < length t = within_mid (length t) ls g rs h.buckets.list.within in
      let es : ats (ls ++ g' ∷ rs) ≡ ats (ls ++ g ∷ rs) = ats_swap ls g g' rs refl in
      record {
        buckets = listed_as t (pulled_from b c t) (ats (ls ++ g ∷ rs)) (ats (ls ++ g' ∷ rs)) s.main es (pull_buckets t b c xs zs hg (ats (ls ++ g ∷ rs))) h.buckets;
        groups = groups_step (Holds t) (Holds (pulled_from b c t)) ls g g' rs h.buckets.list.apart (pull_other t b c xs zs hg) (pull_group t b c xs zs hg w) h.groups;
        unused = listed_as t (pulled_from b c t) fs fs s.free refl (pull_buckets t b c xs zs hg fs) h.unused;
        apart = rw es h.apart;
      }

  -- and the counter is in none of them.
  pub pull_loose : Loose t (ls ++ group b (xs ++ zs) ∷ rs) c
  pull_loose =
      let g : Group = group b (xs ++ c ∷ zs) in
      let hg = pull_holds in
      record {
        off =
            groups_step (Holds t) (λ i. Off c i.members) ls g (group b (xs ++ zs)) rs h.buckets.list.apart
            (λ i ne hi. (cross_right xs (c ∷ zs) i.members (cross_by (owner_in t) b i.at (λ e. ne (sym e)) (xs ++ c ∷ zs) i.members hg.mine hi.mine)).0)
            (apart_off xs c zs hg.list.list.apart) h.groups;
        within = all_mid (λ x. x < length t) xs c zs hg.list.list.within;
      }

-- ---- a counter is put at the end of a bucket's list

module _ {T : Type 0} (t : List (Place T)) (b c : ℕ) (xs : List ℕ) (hg : Holds t (group b xs)) where
  attach_other : (h : Group) → (h.at ≡ b → ⊥) → Holds t h × Off c h.members → Holds (attached_in b c t) h
  attach_other h ne hh =
      let ends = members_in t b in
      let l = ends.last in
      let t₁ = edit_at l (counter_links.put_next (Some c)) t in
      let t₂ = edit_at (Some c) (counter_links.put_next None) t₁ in
      let t₃ = edit_at (Some c) (counter_links.put_prev l) t₂ in
      let t₄ = edit_at (Some c) (with_owner b) t₃ in
      let cr : Cross xs h.members = cross_by (owner_in t) b h.at (λ e. ne (sym e)) xs h.members hg.mine hh.0.mine in
      let cl : Clear l h.members = rw hg.list.stops (clear_last None xs h.members (clear_none h.members) cr) in
      let cc' : Clear (Some c) h.members = clear_off c h.members hh.1 in
      holds_edit t₄ h (Some b) (with_members (ends_in l None c ends)) (inr (record { next = λ x. refl; prev = λ x. refl; owner = λ x. refl })) (inl (λ q. ne (same_Some h.at b q)))
      (holds_edit t₃ h (Some c) (with_owner b) (inl cc') (inr (λ x. refl))
      (holds_edit t₂ h (Some c) (counter_links.put_prev l) (inl cc') (inr (λ x. refl))
      (holds_edit t₁ h (Some c) (counter_links.put_next None) (inl cc') (inr (λ x. refl))
      (holds_edit t h l (counter_links.put_next (Some c)) (inl cl) (inr (λ x. refl)) hh.0))))

  attach_buckets : (ws : List ℕ) → Chained bucket_links t ws → Chained bucket_links (attached_in b c t) ws
  attach_buckets ws h =
      let ends = members_in t b in
      let l = ends.last in
      let t₁ = edit_at l (counter_links.put_next (Some c)) t in
      let t₂ = edit_at (Some c) (counter_links.put_next None) t₁ in
      let t₃ = edit_at (Some c) (counter_links.put_prev l) t₂ in
      let t₄ = edit_at (Some c) (with_owner b) t₃ in
      chained_kept bucket_links t₄ ws (Some b) (with_members (ends_in l None c ends)) (λ x. refl) (λ x. refl)
      (chained_kept bucket_links t₃ ws (Some c) (with_owner b) (λ x. refl) (λ x. refl)
      (chained_kept bucket_links t₂ ws (Some c) (counter_links.put_prev l) (λ x. refl) (λ x. refl)
      (chained_kept bucket_links t₁ ws (Some c) (counter_links.put_next None) (λ x. refl) (λ x. refl)
      (chained_kept bucket_links t ws l (counter_links.put_next (Some c)) (λ x. refl) (λ x. refl) h))))

  attach_group : Off c xs → b < length t → c < length t → Holds (attached_in b c t) (group b (xs ++ c ∷ []))
  attach_group oc wb wc =
      let ends = members_in t b in
      let l = ends.last in
      let e = ends_in l None c ends in
      let ms = xs ++ c ∷ [] in
      let t₁ = edit_at l (counter_links.put_next (Some c)) t in
      let t₂ = edit_at (Some c) (counter_links.put_next None) t₁ in
      let t₃ = edit_at (Some c) (counter_links.put_prev l) t₂ in
      let t₄ = edit (with_owner b) c t₃ in
      let t₅ = edit (with_members e) b t₄ in
      let n₃ : length t₃ ≡ length t = length_linking counter_links counter_lawful l None c t in
      let n₄ : length t₄ ≡ length t = length_edit (with_owner b) c t₃ ∙ n₃ in
      let en = append-nil xs in
      let h₀ : Listed counter_links t (xs ++ []) ends = rw en hg.list in
      let o₀ : Off c (xs ++ []) = rw en oc in
      let o : Listed counter_links t₃ ms e = rw hg.list.stops (listed_in counter_links counter_lawful t ends xs c [] h₀ o₀ wc) in
      let l₅ : Chained counter_links t₅ ms =
      chained_kept counter_links t₄ ms (Some b) (with_members e) (λ x. refl) (λ x. refl) (chained_kept counter_links t₃ ms (Some c) (with_owner b) (λ x. refl) (λ x. refl) o.list) in
      let ee : members_in t₅ b ≡ e = read_same members_of no_ends (with_members e) e (λ x. refl) t₄ b (rw n₄ wb) in
      let s₃ : (i : ℕ) → owner_in t₃ i ≡ owner_in t i =
      λ i. read_kept owner_of 0 (counter_links.put_prev l) (λ x. refl) t₂ c i ∙ read_kept owner_of 0 (counter_links.put_next None) (λ x. refl) t₁ c i
      ∙ read_kept_at owner_of 0 (counter_links.put_next (Some c)) (λ x. refl) l t i in
      let s₅ : (i : ℕ) → owner_in t₅ i ≡ owner_in t₄ i = λ i. read_kept owner_of 0 (with_members e) (λ x. refl) t₄ b i in
      let m₃ = all_same (owner_in t) (owner_in t₃) b xs (same_all (owner_in t) (owner_in t₃) s₃ xs) hg.mine in
      let m₄ = all_same (owner_in t₃) (owner_in t₄) b xs (same_clear owner_of 0 (with_owner b) t₃ (Some c) xs (clear_off c xs oc)) m₃ in
      let m₅ = all_same (owner_in t₄) (owner_in t₅) b xs (same_all (owner_in t₄) (owner_in t₅) s₅ xs) m₄ in
      let mc : owner_in t₅ c ≡ b = s₅ c ∙ read_same owner_of 0 (with_owner b) b (λ x. refl) t₃ c (rw n₃ wc) in
      record {
        list = record { list = l₅; begins = rw ee o.begins; stops = rw ee o.stops };
        mine = All-append (λ x. owner_in t₅ x ≡ b) xs (c ∷ []) m₅ (mc, tt);
      }

pub attach_full : {T : Type 0} (t : List (Place T)) (s : Lists) (ls rs : List Group) (b c : ℕ) (xs fs : List ℕ) → Full t s (ls ++ group b xs ∷ rs) fs → Loose t (ls ++ group b xs ∷ rs) c → Full (attached_in b c t) s (ls ++ group b (xs ++ c ∷ []) ∷ rs) fs
attach_full t s ls rs b c xs fs h k =
    let g : Group = group b xs in
    let g' : Group = group b (xs ++ c ∷ []) in
    let t' = attached_in b c t in
    let hg : Holds t g = all_mid (Holds t) ls g rs h.groups in
    let oc : Off c xs = all_mid (λ i. Off c i.members) ls g rs k.off in
    let w : b < length t = within_mid (length t) ls g rs h.buckets.list.within in
    let es : ats (ls ++ g' ∷ rs) ≡ ats (ls ++ g ∷ rs) = ats_swap ls g g' rs refl in
    record {
      buckets = listed_as t t' (ats (ls ++ g ∷ rs)) (ats (ls ++ g' ∷ rs)) s.main es (attach_buckets t b c xs hg (ats (ls ++ g ∷ rs))) h.buckets;
      groups =
          groups_step (λ i. Holds t i × Off c i.members) (Holds t') ls g g' rs h.buckets.list.apart (attach_other t b c xs hg) (attach_group t b c xs hg oc w k.within)
          (all_both (Holds t) (λ i. Off c i.members) (λ i. Holds t i × Off c i.members) (λ i held off. (held, off)) (ls ++ g ∷ rs) h.groups k.off);
      unused = listed_as t t' fs fs s.free refl (attach_buckets t b c xs hg fs) h.unused;
      apart = rw es h.apart;
    }

-- ---- the lists of buckets

module _ {T : Type 0} where
  -- The groups stay where a bucket goes out of a list or comes into one.
  holds_unlinking : (t : List (Place T)) (b : ℕ) (gs : List Group) → Each (Holds t) gs → Each (Holds (unlinking bucket_links b t)) gs
  holds_unlinking t b gs h =
      let n = next_in bucket_links t b in
      let p = prev_in bucket_links t b in
      holds_all (edit_at p (bucket_links.put_next n) t) n (bucket_links.put_prev p) (record { next = λ x. refl; prev = λ x. refl; owner = λ x. refl }) (λ x. refl) gs
      (holds_all t p (bucket_links.put_next n) (record { next = λ x. refl; prev = λ x. refl; owner = λ x. refl }) (λ x. refl) gs h)

  holds_linking : (t : List (Place T)) (a z : Option ℕ) (b : ℕ) (gs : List Group) → Each (Holds t) gs → Each (Holds (linking bucket_links a z b t)) gs
  holds_linking t a z b gs h =
      let t₁ = edit_at a (bucket_links.put_next (Some b)) t in
      let t₂ = edit_at z (bucket_links.put_prev (Some b)) t₁ in
      let t₃ = edit_at (Some b) (bucket_links.put_next z) t₂ in
      holds_all t₃ (Some b) (bucket_links.put_prev a) (record { next = λ x. refl; prev = λ x. refl; owner = λ x. refl }) (λ x. refl) gs
      (holds_all t₂ (Some b) (bucket_links.put_next z) (record { next = λ x. refl; prev = λ x. refl; owner = λ x. refl }) (λ x. refl) gs
      (holds_all t₁ z (bucket_links.put_prev (Some b)) (record { next = λ x. refl; prev = λ x. refl; owner = λ x. refl }) (λ x. refl) gs
      (holds_all t a (bucket_links.put_next (Some b)) (record { next = λ x. refl; prev = λ x. refl; owner = λ x. refl }) (λ x. refl) gs h)))

  -- A bucket with no counter goes out of use, and is then in neither list.
  pub drop_full : (t : List (Place T)) (s : Lists) (ls rs : List Group) (b : ℕ) (fs : List ℕ) → Full t s (ls ++ group b [] ∷ rs) fs → Full (unlinking bucket_links b t) (record { main = ends_out bucket_links t b s.main; free = s.free }) (ls ++ rs) fs × Off b (ats (ls ++ rs)) × Off b fs
  drop_full t s ls rs b fs h =
      let g : Group = group b [] in
      let t' = unlinking bucket_links b t in
      let e : ats (ls ++ g ∷ rs) ≡ ats ls ++ b ∷ ats rs = map-append (λ i. i.at) ls (g ∷ rs) in
      let e' : ats (ls ++ rs) ≡ ats ls ++ ats rs = map-append (λ i. i.at) ls rs in
      let bs : Listed bucket_links t (ats ls ++ b ∷ ats rs) s.main = rw (← e) h.buckets in
      let c : Cross (ats ls ++ b ∷ ats rs) fs = rw (← e) h.apart in
      let c' : Cross (ats ls ++ ats rs) fs = all_out (λ x. Off x fs) (ats ls) b (ats rs) c in
      let u : Chained bucket_links t' fs = unlinking_other bucket_links bucket_lawful t (ats ls) b (ats rs) fs bs.list c h.unused.list in (
        record {
          buckets = rw e' (listed_out bucket_links bucket_lawful t s.main (ats ls) b (ats rs) bs);
          groups = holds_unlinking t b (ls ++ rs) (all_out (Holds t) ls g rs h.groups);
          unused = record { list = u; begins = h.unused.begins; stops = h.unused.stops };
          apart = rw e' c';
        },
        rw e' (apart_off (ats ls) b (ats rs) bs.list.apart),
        all_mid (λ x. Off x fs) (ats ls) b (ats rs) c,
      )

  -- A bucket that is in neither list joins the free ones.
  pub free_full : (t : List (Place T)) (s : Lists) (gs : List Group) (b : ℕ) (fs : List ℕ) → Full t s gs fs → Off b (ats gs) → Off b fs → b < length t → Full (linking bucket_links s.free.last None b t) (record { main = s.main; free = ends_in s.free.last None b s.free }) gs (fs ++ b ∷ [])
  free_full t s gs b fs h o of w =
      let l = s.free.last in
      let t' = linking bucket_links l None b t in
      let en = append-nil fs in
      let h₀ : Listed bucket_links t (fs ++ []) s.free = rw en h.unused in
      let o₀ : Off b (fs ++ []) = rw en of in
      let c : Cross (fs ++ b ∷ []) (ats gs) = cross_join fs (b ∷ []) (ats gs) (cross_sym (ats gs) fs h.apart) (o, tt) in
      let bl : Chained bucket_links t' (ats gs) = rw h.unused.stops (linking_other bucket_links bucket_lawful t fs b [] (ats gs) c h.buckets.list) in
      record {
        buckets = record { list = bl; begins = h.buckets.begins; stops = h.buckets.stops };
        groups = holds_linking t l None b gs h.groups;
        unused = rw h.unused.stops (listed_in bucket_links bucket_lawful t s.free fs b [] h₀ o₀ w);
        apart = cross_sym (fs ++ b ∷ []) (ats gs) c;
      }

  -- The first free bucket is taken, and is then in neither list.
  pub pop_full : (t : List (Place T)) (s : Lists) (gs : List Group) (b : ℕ) (fs : List ℕ) → Full t s gs (b ∷ fs) → Full (unlinking bucket_links b t) (record { main = s.main; free = ends_out bucket_links t b s.free }) gs fs × Off b (ats gs) × Off b fs
  pop_full t s gs b fs h =
      let bl = unlinking_other bucket_links bucket_lawful t [] b fs (ats gs) h.unused.list (cross_sym (ats gs) (b ∷ fs) h.apart) h.buckets.list in (
        record {
          buckets = record { list = bl; begins = h.buckets.begins; stops = h.buckets.stops };
          groups = holds_unlinking t b gs h.groups;
          unused = listed_out bucket_links bucket_lawful t s.free [] b fs h.unused;
          apart = cross_rest (ats gs) b fs h.apart;
        },
        cross_first (ats gs) b fs h.apart,
        h.unused.list.apart.0,
      )

  -- A bucket that is in neither list comes into use, empty.
  pub add_full : (t : List (Place T)) (s : Lists) (ls rs : List Group) (b v : ℕ) (fs : List ℕ) → Full t s (ls ++ rs) fs → Off b (ats (ls ++ rs)) → Off b fs → b < length t → Full (added_in (last_or None (ats ls)) (first_or (ats rs) None) b v t) (record { main = ends_in (last_or None (ats ls)) (first_or (ats rs) None) b s.main; free = s.free }) (ls ++ group b [] ∷ rs) fs
  add_full t s ls rs b v fs h o of w =
      let g : Group = group b [] in
      let a = last_or None (ats ls) in
      let z = first_or (ats rs) None in
      let gs = ls ++ rs in
      let ws = ats ls ++ b ∷ ats rs in
      let t₁ = linking bucket_links a z b t in
      let t₂ = edit (emptied v) b t₁ in
      let e : ats (ls ++ g ∷ rs) ≡ ws = map-append (λ i. i.at) ls (g ∷ rs) in
      let e' : ats (ls ++ rs) ≡ ats ls ++ ats rs = map-append (λ i. i.at) ls rs in
      let bs : Listed bucket_links t (ats ls ++ ats rs) s.main = rw (← e') h.buckets in
      let o' : Off b (ats ls ++ ats rs) = rw (← e') o in
      let c₀ : Cross (ats ls ++ ats rs) fs = rw (← e') h.apart in
      let c : Cross ws fs = all_in (λ x. Off x fs) (ats ls) b (ats rs) of c₀ in
      let b₁ = listed_in bucket_links bucket_lawful t s.main (ats ls) b (ats rs) bs o' w in
      let kept : (ys : List ℕ) → Chained bucket_links t₁ ys → Chained bucket_links t₂ ys = λ ys k. chained_kept bucket_links t₁ ys (Some b) (emptied v) (λ x. refl) (λ x. refl) k in
      let b₂ : Listed bucket_links t₂ ws (ends_in a z b s.main) = record { list = kept ws b₁.list; begins = b₁.begins; stops = b₁.stops } in
      let h₂ : Each (Holds t₂) gs =
      each_other (Holds t₁) (Holds t₂) b gs o
      (λ i ne hi. holds_edit t₁ i (Some b) (emptied v) (inr (record { next = λ x. refl; prev = λ x. refl; owner = λ x. refl })) (inl (λ q. ne (same_Some i.at b q))) hi)
      (holds_linking t a z b gs h.groups) in
      let ee : members_in t₂ b ≡ no_ends = read_same members_of no_ends (emptied v) no_ends (λ x. refl) t₁ b (rw (length_linking bucket_links bucket_lawful a z b t) w) in
      let hg : Holds t₂ g = record { list = record { list = record { chain = tt; apart = tt; within = tt }; begins = rw ee refl; stops = rw ee refl }; mine = tt } in
      record {
        buckets = rw e b₂;
        groups = all_in (Holds t₂) ls g rs hg h₂;
        unused = record { list = kept fs (linking_other bucket_links bucket_lawful t (ats ls) b (ats rs) fs c h.unused.list); begins = h.unused.begins; stops = h.unused.stops };
        apart = rw e c;
      }
