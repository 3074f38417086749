-- A table that stands keeps to the structure that the walks along its links show.
use Rattle.std.proofs.Common.{◌≡◌, ℕ, ◌<◌, ◌≤◌, List, [], ◌∷◌, ◌++◌, length, None, Option, ap, ◌∙◌, arith}
use Rattle.std.specs.List.{AllByRecursion as Each}
use Rattle.std.proofs.lemmas.List.{length-append}
use Rattle.std.proofs.ByRecursion.{All-append, All-weaker, All-map}
use Rattle.links.specs.Chains.{Chain, Apart, Within, last_or}
use Rattle.links.specs.Lists.{next_in, prev_in}
use Rattle.links.proofs.Places.{apart_join}
use Rattle.table.specs.declared.place.Place.{Place}
use Rattle.table.specs.declared.lists.Lists.{Lists}
use Rattle.table.specs.Fields.{counter_links, bucket_links, owner_in, members_in, value_in}
use Rattle.table.specs.Reading.{walk, buckets, counters, placed_row}
use Rattle.table.specs.Groups.{Group, Holds, ats}
use Rattle.table.specs.Stands.{Sound, Rises, worth, tally}
use Rattle.table.specs.Structure.{Structure, times}
use Rattle.table.proofs.Rows.{walk_chain, length_ats, counters_are, buckets_are, row_sound, row_counts}
use Rattle.table.proofs.Looking.{crowd, length_crowd, places_are, places_apart}
use Rattle.table.proofs.Covering.{covers}

module _ {T : Type 0} (t : List (Place T)) where
  -- What holds of each group holds of each bucket in use and the counters that a walk finds there.
  each_bucket : (P : ℕ → List ℕ → Type 0) (gs : List Group) → Each (Holds t) gs → tally gs ≤ length t → Each (λ g. P g.at g.members) gs → Each (λ b. P b (counters t b)) (ats gs)
  each_bucket P [] h l p = tt
  each_bucket P (g ∷ gs) h l p =
      let lg : length g.members ≤ length t = omega arith in
      let lr : tally gs ≤ length t = omega arith in
      (rw (counters_are t g h.0 lg) p.0, each_bucket P gs h.1 lr p.1)

  rises_ats : (gs : List Group) → Rises (worth t) gs → Rises (value_in t) (ats gs)
  rises_ats [] r = tt
  rises_ats (g ∷ gs) r = (All-map (λ b. worth t g < value_in t b) (λ k. k.at) gs r.0, rises_ats gs r.1)

  crowd_within : (n : ℕ) (gs : List Group) → Each (λ g. Within n g.members) gs → Within n (crowd gs)
  crowd_within n [] w = tt
  crowd_within n (g ∷ gs) w = All-append (λ x. x < n) g.members (crowd gs) w.0 (crowd_within n gs w.1)

  module _ (s : Lists) (used total : ℕ) (gs : List Group) (fs : List ℕ) (h : Sound t s used total gs fs) where
    free_are : buckets t s.free.first ≡ fs
    free_are =
        let n = h.buckets in
        ap (λ (o : Option ℕ). walk (next_in bucket_links t) o (length t)) h.full.unused.begins ∙ walk_chain (next_in bucket_links t) (prev_in bucket_links t) (length t) None fs h.full.unused.list.chain (omega arith)

    few : tally gs ≤ length t
    few = let c = h.counters in let f = h.fits in omega arith

    buckets_apart : Apart (ats gs ++ fs)
    buckets_apart = apart_join (ats gs) fs h.full.buckets.list.apart h.full.unused.list.apart h.full.apart

    pub structure : Structure t s used total
    structure =
        let b = buckets_are t s used total gs fs h in
        let f = free_are in
        let hs = h.full.groups in
        let ends : Chain (next_in bucket_links t) (prev_in bucket_links t) None (ats gs) None = h.full.buckets.list.chain in
        let n = length-append (ats gs) fs in
        let m = length_ats gs in
        let k = h.buckets in
        let c = length_crowd gs in
        let q = h.counters in
        let all : length (ats gs ++ fs) ≡ length t = omega arith in
        let rowed : Each (λ e. e.entry.count ≤ total) (placed_row t s.main.first) = rw (row_sound t s used total gs fs h) (row_counts (λ v. v ≤ total) t gs h.under) in
        record {
          rising = rw b (rises_ats gs h.rising);
          filled = rw b (each_bucket (λ i cs. 1 ≤ length cs) gs hs few h.filled);
          buckets_chained = rw b ends;
          bucket_end = rw b h.full.buckets.stops;
          free_links = rw f h.full.unused.list.chain;
          free_end = rw f h.full.unused.stops;
          counters_chained =
              rw b (each_bucket (λ i cs. Chain (next_in counter_links t) (prev_in counter_links t) None cs None) gs hs few (All-weaker (Holds t) (λ g. Chain (next_in counter_links t) (prev_in counter_links t) None g.members None) (λ g x. x.list.list.chain) gs hs));
          counter_ends = rw b (each_bucket (λ i cs. (members_in t i).last ≡ last_or None cs) gs hs few (All-weaker (Holds t) (λ g. (members_in t g.at).last ≡ last_or None g.members) (λ g x. x.list.stops) gs hs));
          owned = rw b (each_bucket (λ i cs. Each (λ x. owner_in t x ≡ i) cs) gs hs few (All-weaker (Holds t) (λ g. Each (λ x. owner_in t x ≡ g.at) g.members) (λ g x. x.mine) gs hs));
          attached = λ i. ap (times i) (places_are t s used total gs fs h) ∙ covers used (crowd gs) (places_apart t s used total gs fs h) (crowd_within used gs h.inside) (c ∙ q) i;
          spare = λ i. rw (b, f) (covers (length t) (ats gs ++ fs) buckets_apart (All-append (λ x. x < length t) (ats gs) fs h.full.buckets.list.within h.full.unused.list.within) all i);
          under = rowed;
        }
