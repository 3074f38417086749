-- What the moves of counters and buckets do: the table after each, and what it then stands for. In all of them t and s
-- are the table and the ends of its lists before, t' and s' those after.
use Rattle.std.specs.Prelude.{◌≡◌, ℕ, Bool, false, ◌==◌, List, [], ◌∷◌, ◌++◌, length, Some, None, Option, ◌≢◌}
use Rattle.links.specs.Tables.{edit}
use Rattle.links.specs.Chains.{first_or, last_or}
use Rattle.links.specs.Lists.{next_in, prev_in, unlinking, linking, ends_out, ends_in}
use Rattle.rows.specs.declared.entry.Entry.{Entry}
use Rattle.table.specs.declared.place.Place.{Place}
use Rattle.table.specs.declared.lists.Lists.{Lists}
use Rattle.links.specs.Tables.{read}
use Rattle.table.specs.Fields.{counter_links, bucket_links, owner_in, members_in, value_in, placed_in, with_members, with_owner, emptied}
use Rattle.table.specs.Groups.{Group, Full, Loose, group, ats, with_group, with_free}

-- Where a link leads under f, if it leads anywhere; and the first of two links that leads anywhere.
abbrev pub onto : (ℕ → Option ℕ) → Option ℕ → Option ℕ
onto f None = None
onto f (Some i) = f i

abbrev pub or_else : Option ℕ → Option ℕ → Option ℕ
or_else None other = other
or_else (Some i) other = Some i

module _ {T : Type 0} where
  -- ---- the tables after single moves

  -- The counter c is out of the list of the bucket b.
  abbrev pub pulled_from : ℕ → ℕ → List (Place T) → List (Place T)
  pulled_from b c t = edit (with_members (ends_out counter_links t c (members_in t b))) b (unlinking counter_links c t)

  -- The counter c is at the end of the list of the bucket b.
  abbrev pub attached_in : ℕ → ℕ → List (Place T) → List (Place T)
  attached_in b c t =
      let ends = members_in t b in
      edit (with_members (ends_in ends.last None c ends)) b (edit (with_owner b) c (linking counter_links ends.last None c t))

  -- The bucket b is out of the list of those in use, and at the end of the free ones.
  abbrev pub retired_in : Lists → ℕ → List (Place T) → List (Place T)
  retired_in s b t = linking bucket_links s.free.last None b (unlinking bucket_links b t)

  abbrev pub retired_lists : List (Place T) → ℕ → Lists → Lists
  retired_lists t b s = record { main = ends_out bucket_links t b s.main; free = ends_in s.free.last None b s.free }

  -- The bucket b, empty and for the count v, is in between those that the links a and z lead to.
  abbrev pub added_in : Option ℕ → Option ℕ → ℕ → ℕ → List (Place T) → List (Place T)
  added_in a z b v t = edit (emptied v) b (linking bucket_links a z b t)

  -- ---- what a move leaves to be read

  -- The entries of the counters, whatever their count; the counts of the buckets.
  abbrev pub Entries : List (Place T) → List (Place T) → Type 0
  Entries t t' = (v c : ℕ) → placed_in t' v c ≡ placed_in t v c

  abbrev pub Values : List (Place T) → List (Place T) → Type 0
  Values t t' = (b : ℕ) → value_in t' b ≡ value_in t b

  pub record Quiet (t t' : List (Place T)) : Type 0 where
    pub size : length t' ≡ length t
    pub entries : Entries t t'
    pub values : Values t t'

  -- The counts of the buckets are those of t, but for v at b.
  pub record Revalued (t t' : List (Place T)) (b v : ℕ) : Type 0 where
    pub here : value_in t' b ≡ v
    pub other : (i : ℕ) → (i ≢ b) → value_in t' i ≡ value_in t i

  -- The first of the groups, if there is one, has another count than v.
  abbrev pub Differs : List (Place T) → ℕ → List Group → Type 0
  Differs t v [] = Unit {0}
  Differs t v (g ∷ gs) = value_in t g.at ≡ v → ⊥

  -- ---- what a move does to the groups

  -- The bucket b goes to the free ones if it has no counter; a leads to the bucket that then comes before its place.
  pub record Tidied (t t' : List (Place T)) (s s' : Lists) (b : ℕ) (a : Option ℕ) : Type 0 where
    pub quiet : Quiet t t'
    pub out : (ls rs : List Group) (ms fs : List ℕ) → Full t s (ls ++ group b ms ∷ rs) fs → Full t' s' (ls ++ with_group b ms rs) (with_free b ms fs)
    pub before : (ls rs : List Group) (ms fs : List ℕ) → Full t s (ls ++ group b ms ∷ rs) fs → a ≡ last_or None (ats (ls ++ with_group b ms []))

  -- The counter c is detached, and its bucket free if that was its last; a leads to the bucket that then comes before its place.
  pub record TakenOut (t t' : List (Place T)) (s s' : Lists) (c : ℕ) (a : Option ℕ) : Type 0 where
    pub quiet : Quiet t t'
    pub out : (ls rs : List Group) (b : ℕ) (xs zs fs : List ℕ) → Full t s (ls ++ group b (xs ++ c ∷ zs) ∷ rs) fs → Full t' s' (ls ++ with_group b (xs ++ zs) rs) (with_free b (xs ++ zs) fs) × Loose t' (ls ++ with_group b (xs ++ zs) rs) c × (a ≡ last_or None (ats (ls ++ with_group b (xs ++ zs) [])))

  -- A free bucket, r, is put in between the links a and z for the count v.
  pub record Freshened (t t' : List (Place T)) (s s' : Lists) (a z : Option ℕ) (v : ℕ) (r : Option ℕ) : Type 0 where
    pub size : length t' ≡ length t
    pub entries : Entries t t'
    pub put : (ls rs : List Group) (b : ℕ) (fs : List ℕ) → Full t s (ls ++ rs) (b ∷ fs) → a ≡ last_or None (ats ls) → z ≡ first_or (ats rs) None → (r ≡ Some b) × Full t' s' (ls ++ group b [] ∷ rs) fs × Revalued t t' b v

  -- A bucket for the count v after the link a: the next one if it has that count, else a free one put in between.
  pub record Targeted (t t' : List (Place T)) (s s' : Lists) (a : Option ℕ) (v : ℕ) (r : Option ℕ) : Type 0 where
    pub size : length t' ≡ length t
    pub entries : Entries t t'
    pub same : (ls rs : List Group) (b : ℕ) (ms fs : List ℕ) → Full t s (ls ++ group b ms ∷ rs) fs → a ≡ last_or None (ats ls) → value_in t b ≡ v → (r ≡ Some b) × Full t' s' (ls ++ group b ms ∷ rs) fs × Values t t'
    pub fresh : (ls rs : List Group) (b : ℕ) (fs : List ℕ) → Full t s (ls ++ rs) (b ∷ fs) → a ≡ last_or None (ats ls) → Differs t v rs → (r ≡ Some b) × Full t' s' (ls ++ group b [] ∷ rs) fs × Revalued t t' b v

  -- The counter c is attached there, behind those that the bucket has.
  pub record Attached (t t' : List (Place T)) (s s' : Lists) (a : Option ℕ) (v c : ℕ) : Type 0 where
    pub size : length t' ≡ length t
    pub entries : Entries t t'
    pub same : (ls rs : List Group) (b : ℕ) (ms fs : List ℕ) → Full t s (ls ++ group b ms ∷ rs) fs → Loose t (ls ++ group b ms ∷ rs) c → a ≡ last_or None (ats ls) → value_in t b ≡ v → Full t' s' (ls ++ group b (ms ++ c ∷ []) ∷ rs) fs × Values t t'
    pub fresh : (ls rs : List Group) (b : ℕ) (fs : List ℕ) → Full t s (ls ++ rs) (b ∷ fs) → Loose t (ls ++ rs) c → a ≡ last_or None (ats ls) → Differs t v rs → Full t' s' (ls ++ group b (c ∷ []) ∷ rs) fs × Revalued t t' b v

  -- ---- what is read off the links

  -- The bucket after the one that a leads to, or the first of all.
  abbrev pub bucket_after_lem : List (Place T) → Option ℕ → Option ℕ → Option ℕ
  bucket_after_lem t first None = first
  bucket_after_lem t first (Some b) = next_in bucket_links t b

  -- Whether the link leads to a bucket of the count v.
  abbrev pub has_count_lem : List (Place T) → ℕ → Option ℕ → Bool
  has_count_lem t v None = false
  has_count_lem t v (Some b) = value_in t b == v

  -- The counter c as an entry, at the count of the bucket that it names.
  abbrev pub own_entry : List (Place T) → ℕ → Option (Entry T)
  own_entry t c = read (λ p. Some (record { item = p.counter.item; count = value_in t p.counter.bucket; error = p.counter.error })) None t c

  -- The first counter of the first bucket, and the last of the last.
  abbrev pub lowest : List (Place T) → Lists → Option ℕ
  lowest t s = onto (λ b. (members_in t b).first) s.main.first

  abbrev pub highest : List (Place T) → Lists → Option ℕ
  highest t s = onto (λ b. (members_in t b).last) s.main.last

  -- The counter before c in its bucket, or else the last of the bucket before.
  abbrev pub lower : List (Place T) → ℕ → Option ℕ
  lower t c = or_else (prev_in counter_links t c) (onto (λ b. (members_in t b).last) (prev_in bucket_links t (owner_in t c)))
