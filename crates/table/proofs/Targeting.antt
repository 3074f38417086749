-- The bucket for a new count is found behind the old place, and the counter is attached there.
use Rattle.std.proofs.Common.{◌≡◌, ℕ, true, false, List, [], ◌∷◌, ◌++◌, length, Some, None, Option, sym, refl, ap, ◌∙◌}
use Rattle.std.proofs.lemmas.Option.{same_Some, none-some}
use Rattle.std.proofs.lemmas.Bool.{true≢false, false≢true, eqb-true, eq-eqb}
use Rattle.std.proofs.lemmas.List.{map-append}
use Rattle.links.specs.declared.ends.Ends.{Ends}
use Rattle.links.specs.Chains.{Chain, first_or, last_or, Off}
use Rattle.links.specs.Lists.{Listed, next_in, prev_in}
use Rattle.links.proofs.Alls.{all_in}
use Rattle.table.specs.declared.place.Place.{Place}
use Rattle.table.specs.declared.lists.Lists.{Lists}
use Rattle.table.specs.Fields.{bucket_links, value_in}
use Rattle.table.specs.Groups.{Group, Loose, group, ats}
use Rattle.table.specs.Moves.{Quiet, Freshened, Targeted, Attached, Differs, attached_in, bucket_after_lem, has_count_lem}
use Rattle.table.proofs.Quiets.{quiet_attached}
use Rattle.table.proofs.Grouping.{attach_full}

module _ {T : Type 0} (t : List (Place T)) where
  -- The bucket after the last of xs is the first of rs.
  after_chain : (first p : Option ℕ) (x : ℕ) (xs rs : List ℕ) → Chain (next_in bucket_links t) (prev_in bucket_links t) p (x ∷ (xs ++ rs)) None → bucket_after_lem t first (last_or (Some x) xs) ≡ first_or rs None
  after_chain first p x [] rs h = h.1
  after_chain first p x (y ∷ ys) rs h = after_chain first (Some x) y ys rs h.2

  after_list : (ends : Ends) (xs rs : List ℕ) → Listed bucket_links t (xs ++ rs) ends → bucket_after_lem t ends.first (last_or None xs) ≡ first_or rs None
  after_list ends [] rs h = h.begins
  after_list ends (x ∷ xs) rs h = after_chain ends.first None x xs rs h.list.chain

  after_groups : (ends : Ends) (a z : Option ℕ) (ls rs : List Group) → Listed bucket_links t (ats (ls ++ rs)) ends → a ≡ last_or None (ats ls) → z ≡ bucket_after_lem t ends.first a → z ≡ first_or (ats rs) None
  after_groups ends a z ls rs h ea ez =
      let e : ats (ls ++ rs) ≡ ats ls ++ ats rs = map-append (λ g. g.at) ls rs in
      let h' : Listed bucket_links t (ats ls ++ ats rs) ends = rw (← e) h in
      ez ∙ ap (bucket_after_lem t ends.first) ea ∙ after_list ends (ats ls) (ats rs) h'

module _ {T : Type 0} where
  -- A bucket of the count v is the bucket to attach a counter to, and no other is.
  counted : (t : List (Place T)) (v i : ℕ) (z : Option ℕ) → z ≡ Some i → has_count_lem t v z ≡ true → value_in t i ≡ v
  counted t v i z e h = eqb-true (value_in t i) v (ap (has_count_lem t v) (sym e) ∙ h)

  pub targeted_same : (t : List (Place T)) (s : Lists) (a z : Option ℕ) (v : ℕ) → z ≡ bucket_after_lem t s.main.first a → has_count_lem t v z ≡ true → Targeted t t s s a v z
  targeted_same t s a z v ez h =
      record {
        size = refl;
        entries = λ u c. refl;
        same = λ ls rs b ms fs f ea eb. (after_groups t s.main a z ls (group b ms ∷ rs) f.buckets ea ez, f, λ i. refl);
        fresh = λ ls rs b fs f ea d. absurd (no rs d (after_groups t s.main a z ls rs f.buckets ea ez));
      }
    where
      no : (rs : List Group) → Differs t v rs → z ≡ first_or (ats rs) None → ⊥
      no [] d q = false≢true (ap (has_count_lem t v) (sym q) ∙ h)
      no (g ∷ rs) d q = d (counted t v g.at z q h)

  pub targeted_fresh : (t t' : List (Place T)) (s s' : Lists) (a z : Option ℕ) (v : ℕ) (r : Option ℕ) → Freshened t t' s s' a z v r → z ≡ bucket_after_lem t s.main.first a → has_count_lem t v z ≡ false → Targeted t t' s s' a v r
  targeted_fresh t t' s s' a z v r k ez n =
      record {
        size = k.size;
        entries = k.entries;
        same = λ ls rs b ms fs f ea eb. absurd (no b (after_groups t s.main a z ls (group b ms ∷ rs) f.buckets ea ez) eb);
        fresh = λ ls rs b fs f ea d. k.put ls rs b fs f ea (after_groups t s.main a z ls rs f.buckets ea ez);
      }
    where
      no : (b : ℕ) → z ≡ Some b → value_in t b ≡ v → ⊥
      no b q e = true≢false (sym (eq-eqb (value_in t b) v e) ∙ ap (has_count_lem t v) (sym q) ∙ n)

  loose_in : (t t' : List (Place T)) (b c : ℕ) (ls rs : List Group) → length t' ≡ length t → Loose t (ls ++ rs) c → Loose t' (ls ++ group b [] ∷ rs) c
  loose_in t t' b c ls rs e o = record { off = all_in (λ g. Off c g.members) ls (group b []) rs tt o.off; within = rw e o.within }

  loose_size : (t t' : List (Place T)) (c : ℕ) (gs : List Group) → length t' ≡ length t → Loose t gs c → Loose t' gs c
  loose_size t t' c gs e o = record { off = o.off; within = rw e o.within }

  pub attached_some : (t t₁ t₂ : List (Place T)) (s s₁ s' : Lists) (a : Option ℕ) (v b c : ℕ) (r : Option ℕ) → Targeted t t₁ s s₁ a v r → r ≡ Some b → t₂ ≡ attached_in b c t₁ → s' ≡ s₁ → Attached t t₂ s s' a v c
  attached_some t t₁ t₂ s s₁ s' a v b c r k₁ e q es =
      let k : Targeted t t₁ s s' a v r = rw (es) k₁ in
      let qh : Quiet t₁ t₂ = rw q (quiet_attached b c t₁) in
      record {
        size = qh.size ∙ k.size;
        entries = λ u i. qh.entries u i ∙ k.entries u i;
        same = λ ls rs b' ms fs h o ea ev.
            let y = k.same ls rs b' ms fs h ea ev in
            let eb : b' ≡ b = same_Some b' b (sym y.0 ∙ e) in
            let q' : t₂ ≡ attached_in b' c t₁ = rw eb q in
            (rw q' (attach_full t₁ s' ls rs b' c ms fs y.1 (loose_size t t₁ c (ls ++ group b' ms ∷ rs) k.size o)), (λ i. qh.values i ∙ y.2 i));
        fresh = λ ls rs b' fs h o ea d.
            let y = k.fresh ls rs b' fs h ea d in
            let eb : b' ≡ b = same_Some b' b (sym y.0 ∙ e) in
            let q' : t₂ ≡ attached_in b' c t₁ = rw eb q in
            (rw q' (attach_full t₁ s' ls rs b' c [] fs y.1 (loose_in t t₁ b' c ls rs k.size o)), record { here = qh.values b' ∙ y.2.here; other = λ i ne. qh.values i ∙ y.2.other i ne });
      }

  pub attached_none : (t t₁ : List (Place T)) (s s' : Lists) (a : Option ℕ) (v c : ℕ) (r : Option ℕ) → Targeted t t₁ s s' a v r → r ≡ None → Attached t t₁ s s' a v c
  attached_none t t₁ s s' a v c r k e =
      record {
        size = k.size;
        entries = k.entries;
        same = λ ls rs b ms fs h o ea ev. absurd (none-some b (sym e ∙ (k.same ls rs b ms fs h ea ev).0));
        fresh = λ ls rs b fs h o ea d. absurd (none-some b (sym e ∙ (k.fresh ls rs b fs h ea d).0));
      }
