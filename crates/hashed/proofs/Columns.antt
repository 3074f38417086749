-- One field of every slot, as a list: what a read and a write of one slot are to it.
use Rattle.std.proofs.Common.{◌≡◌, ℕ, ◌<◌, ◌≢◌, List, map, length, get_or, set, Some, None, Option, sym, refl, ap, ◌∙◌, arith}
use lib.ListN.{length-map}
use Rattle.std.proofs.lemmas.List.{get_or-map, map-set, get_or-set_same, get_or-set_other}
use Rattle.std.proofs.Math.Seq.{map-set_same}
use Rattle.hashed.specs.declared.slot.Entry.{Entry}
use Rattle.hashed.specs.declared.slot.Held.{Held}
use Rattle.hashed.specs.declared.slot.Slot.{Slot}
use Rattle.hashed.specs.Slots.{entry_of}

-- ---- for the moves of a table, by which they are proved with no answers

module _ {T : Type 0} where
  pub entry_read : (t : List (Slot T)) (i : ℕ) (s : Slot T) → i < length t → entry_of (get_or t i s) ≡ get_or (map entry_of t) i None
  entry_read t i s inside = sym (get_or-map entry_of t i s None inside)

  placed : (place : ℕ) (held : Option (Held T)) (link head : Option ℕ) (e : Entry T) → entry_of (record { place = place; held = held; link = link; head = head }) ≡ Some e → place ≡ e.binding.place
  placed place None link head e is = absurd cc
  placed place (Some h) link head e is =
      let same : record { binding = record { item = h.item; place = place }; mark = h.mark } ≡ e = cc in
      ap (λ (f : Entry T). f.binding.place) same

  -- The place of a slot is that of its entry.
  pub place_read : (t : List (Slot T)) (i : ℕ) (s : Slot T) → i < length t → (e : Entry T) → get_or (map entry_of t) i None ≡ Some e → (get_or t i s).place ≡ e.binding.place
  place_read t i s inside e is = placed (get_or t i s).place (get_or t i s).held (get_or t i s).link (get_or t i s).head e (entry_read t i s inside ∙ is)

  pub link_read : (t : List (Slot T)) (i : ℕ) (s : Slot T) → i < length t → (get_or t i s).link ≡ get_or (map (λ s. s.link) t) i None
  link_read t i s inside = sym (get_or-map (λ s. s.link) t i s None inside)

  pub head_read : (t : List (Slot T)) (i : ℕ) (s : Slot T) → i < length t → (get_or t i s).head ≡ get_or (map (λ s. s.head) t) i None
  head_read t i s inside = sym (get_or-map (λ s. s.head) t i s None inside)

  -- A write of one field leaves the other columns.
  pub entries_kept : (t : List (Slot T)) (i : ℕ) (s : Slot T) (link head : Option ℕ) → map entry_of (set t i (record { place = (get_or t i s).place; held = (get_or t i s).held; link = link; head = head })) ≡ map entry_of t
  entries_kept t i s link head = map-set_same entry_of t i _ s refl

  pub links_kept : (t : List (Slot T)) (i : ℕ) (s : Slot T) (place : ℕ) (held : Option (Held T)) (head : Option ℕ) → map (λ s. s.link) (set t i (record { place = place; held = held; link = (get_or t i s).link; head = head })) ≡ map (λ s. s.link) t
  links_kept t i s place held head = map-set_same (λ s. s.link) t i _ s refl

  pub heads_kept : (t : List (Slot T)) (i : ℕ) (s : Slot T) (place : ℕ) (held : Option (Held T)) (link : Option ℕ) → map (λ s. s.head) (set t i (record { place = place; held = held; link = link; head = (get_or t i s).head })) ≡ map (λ s. s.head) t
  heads_kept t i s place held link = map-set_same (λ s. s.head) t i _ s refl

  pub entries_written : (t : List (Slot T)) (i : ℕ) (s : Slot T) → map entry_of (set t i s) ≡ set (map entry_of t) i (entry_of s)
  entries_written t i s = map-set entry_of t i s

  pub links_written : (t : List (Slot T)) (i : ℕ) (s : Slot T) → map (λ s. s.link) (set t i s) ≡ set (map (λ s. s.link) t) i s.link
  links_written t i s = map-set (λ s. s.link) t i s

  pub heads_written : (t : List (Slot T)) (i : ℕ) (s : Slot T) → map (λ s. s.head) (set t i s) ≡ set (map (λ s. s.head) t) i s.head
  heads_written t i s = map-set (λ s. s.head) t i s

pub ruleset columns = (entry_read, link_read, head_read, entries_kept, links_kept, heads_kept, entries_written, links_written, heads_written)

module _ {X : Type 0} where
  -- The field after a write: at the slot, and at another one.
  pub at_written : (xs : List X) {Y : Type 0} (f : X → Y) (i : ℕ) (y : X) (d : Y) → i < length xs → get_or (map f (set xs i y)) i d ≡ f y
  at_written xs {Y} f i y d inside =
      let long : length (map f xs) ≡ length xs = length-map xs f in
      ap (λ (vs : List Y). get_or vs i d) (map-set f xs i y) ∙ get_or-set_same (map f xs) i (f y) d (omega arith)

  pub at_other : (xs : List X) {Y : Type 0} (f : X → Y) (i j : ℕ) (y : X) (d : Y) → j ≢ i → get_or (map f (set xs i y)) j d ≡ get_or (map f xs) j d
  at_other xs {Y} f i j y d other = ap (λ (vs : List Y). get_or vs j d) (map-set f xs i y) ∙ get_or-set_other (map f xs) i j (f y) d other
