-- The fields of a place, a place with one of them written, and the same read in a table.
use Rattle.std.specs.Prelude.{ℕ, List, [], ◌∷◌, None}
use Rattle.links.specs.declared.ends.Ends.{Ends}
use Rattle.links.specs.Tables.{read}
use Rattle.links.specs.declared.neighbours.Neighbours.{Neighbours}
use Rattle.links.specs.Kinds.{Accessors, in_part}
use Rattle.table.specs.declared.place.Place.{Place}
use Rattle.table.specs.declared.place.Counter.{Counter}
use Rattle.table.specs.declared.place.Bucket.{Bucket}
use Rattle.table.specs.Placed.{Placed, put}

-- The ends of a list that has no place.
abbrev pub no_ends : Ends
no_ends = record { first = None; last = None }

-- The neighbours of a place that is in no list.
abbrev pub no_neighbours : Neighbours
no_neighbours = record { next = None; prev = None }

module _ {T : Type 0} where
  abbrev pub vacant_place : T → Place T
  vacant_place x =
      record {
        counter = record { item = x; error = 0; bucket = 0; beside = no_neighbours };
        bucket = record { value = 0; members = no_ends; beside = no_neighbours };
      }

  -- ---- places with a counter or a bucket changed

  abbrev pub on_counter : (Counter T → Counter T) → Place T → Place T
  on_counter f p = record { counter = f p.counter; bucket = p.bucket }

  abbrev pub on_bucket : (Bucket → Bucket) → Place T → Place T
  on_bucket f p = record { counter = p.counter; bucket = f p.bucket }

  -- The counter's links, and the bucket's.
  abbrev pub counter_links : Accessors (Place T)
  counter_links = in_part (λ p. p.counter.beside) (λ f. on_counter (λ c. record { item = c.item; error = c.error; bucket = c.bucket; beside = f c.beside }))

  abbrev pub bucket_links : Accessors (Place T)
  bucket_links = in_part (λ p. p.bucket.beside) (λ f. on_bucket (λ b. record { value = b.value; members = b.members; beside = f b.beside }))

  -- The bucket that a counter is in.
  abbrev pub owner_of : Place T → ℕ
  owner_of p = p.counter.bucket

  abbrev pub with_owner : ℕ → Place T → Place T
  with_owner b p = on_counter (λ c. record { item = c.item; error = c.error; bucket = b; beside = c.beside }) p

  -- A counter made one for an item.
  abbrev pub labelled : T → ℕ → Place T → Place T
  labelled x e p = on_counter (λ c. record { item = x; error = e; bucket = c.bucket; beside = c.beside }) p

  -- The ends of the list of a bucket's counters, and their count.
  abbrev pub members_of : Place T → Ends
  members_of p = p.bucket.members

  abbrev pub with_members : Ends → Place T → Place T
  with_members e p = on_bucket (λ b. record { value = b.value; members = e; beside = b.beside }) p

  abbrev pub value_of : Place T → ℕ
  value_of p = p.bucket.value

  -- A bucket made one for counters of the count v, with none in it.
  abbrev pub emptied : ℕ → Place T → Place T
  emptied v p = on_bucket (λ b. record { value = v; members = no_ends; beside = b.beside }) p

  -- ---- the same in a table

  abbrev pub owner_in : List (Place T) → ℕ → ℕ
  owner_in t c = read owner_of 0 t c

  abbrev pub members_in : List (Place T) → ℕ → Ends
  members_in t b = read members_of no_ends t b

  abbrev pub value_in : List (Place T) → ℕ → ℕ
  value_in t b = read value_of 0 t b

  -- The counter c as an entry that counts v; none past the table's end.
  abbrev pub placed_of : ℕ → ℕ → Place T → List (Placed T)
  placed_of c v p = put c p.counter.item v p.counter.error ∷ []

  abbrev pub placed_in : List (Place T) → ℕ → ℕ → List (Placed T)
  placed_in t v c = read (placed_of c v) [] t c
