-- A kind of list: how the two links of a place are read, and what a place is once one of them is written.
use Rattle.std.specs.Prelude.{◌≡◌, ℕ, Option}
use Rattle.links.specs.declared.neighbours.Side.{Side}
use Rattle.links.specs.declared.neighbours.Side.TheVariants.{Next, Prev}
use Rattle.links.specs.declared.neighbours.Neighbours.{Neighbours}

pub record Accessors (A : Type 0) : Type 0 where
  pub next : A → Option ℕ
  pub prev : A → Option ℕ
  pub put_next : Option ℕ → A → A
  pub put_prev : Option ℕ → A → A

-- The same by the side of the link.
abbrev pub link_of : {A : Type 0} → Accessors A → Side → A → Option ℕ
link_of k Next = k.next
link_of k Prev = k.prev

abbrev pub put_link : {A : Type 0} → Accessors A → Side → Option ℕ → A → A
put_link k Next = k.put_next
put_link k Prev = k.put_prev

-- What is written is read back, and leaves the other link.
pub record Lawful {A : Type 0} (k : Accessors A) : Type 0 where
  pub next_next : (v : Option ℕ) (x : A) → k.next (k.put_next v x) ≡ v
  pub prev_next : (v : Option ℕ) (x : A) → k.prev (k.put_next v x) ≡ k.prev x
  pub prev_prev : (v : Option ℕ) (x : A) → k.prev (k.put_prev v x) ≡ v
  pub next_prev : (v : Option ℕ) (x : A) → k.next (k.put_prev v x) ≡ k.next x

-- The links of a pair of neighbours, and those of a place that holds such a pair as a part.
abbrev pub both_links : Accessors Neighbours
both_links =
    record {
      next = λ n. n.next;
      prev = λ n. n.prev;
      put_next = λ v n. record { next = v; prev = n.prev };
      put_prev = λ v n. record { next = n.next; prev = v };
    }

abbrev pub in_part : {A : Type 0} → (A → Neighbours) → ((Neighbours → Neighbours) → A → A) → Accessors A
in_part part changed =
    record {
      next = λ x. both_links.next (part x);
      prev = λ x. both_links.prev (part x);
      put_next = λ v. changed (both_links.put_next v);
      put_prev = λ v. changed (both_links.put_prev v);
    }
