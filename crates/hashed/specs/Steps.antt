-- What the steps of the calls do to the slots, and what a walk along a chain finds.
use Rattle.std.specs.Prelude.{◌≡◌, ℕ, zero, suc, ◌<◌, Bool, true, false, List, [], ◌∷◌, map, length, IfSome, Some, None, Option, slice_index_or, slice_set}
use Rattle.hashed.specs.declared.slot.Entry.{Entry}
use Rattle.hashed.specs.declared.slot.Slot.{Slot}
use Rattle.hashed.specs.declared.table.Spot.{Spot}
use Rattle.hashed.specs.Slots.{vacant_slot, entries, links, heads, chain_of, Sound}

-- The slots have these entries, links and heads.
pub record Columns {T : Type 0} (t : List (Slot T)) (es : List (Option (Entry T))) (ls hs : List (Option ℕ)) : Type 0 where
  pub entered : entries t ≡ es
  pub linked : links t ≡ ls
  pub headed : heads t ≡ hs

-- ---- single entries

module _ {T : Type 0} where
  -- The entry of the slot i, if it is in use.
  abbrev pub entry_at : List (Option (Entry T)) → ℕ → Option (Entry T)
  entry_at es i = slice_index_or es i None

  -- Whether there is an entry, with an item that is the same as x.
  abbrev pub hits : (T → T → Bool) → T → Option (Entry T) → Bool
  hits same x None = false
  hits same x (Some e) = same x e.binding.item

  -- Whether the slot i is in use, with an item that is the same as x.
  abbrev pub hit_at : (T → T → Bool) → List (Option (Entry T)) → T → ℕ → Bool
  hit_at same es x i = hits same x (entry_at es i)

-- ---- making all slots free

-- Each slot is linked to the one of the number below.
abbrev pub below : ℕ → Option ℕ
below zero = None
below (suc i) = Some i

-- The first n slots are free, each linked to the one below, and their chains have no head.
abbrev pub Cleared : {T : Type 0} → List (Slot T) → ℕ → Type 0
Cleared t n = (i : ℕ) → i < n → slice_index_or t i vacant_slot ≡ record { place = 0; held = None; link = below i; head = None }

-- ---- taking a slot out of its chain

-- What the spot names is there: its chain, the slot before it, if there is one, and its slot.
pub record SpotInside {T : Type 0} (t : List (Slot T)) (s : Spot) : Type 0 where
  pub chain : s.chain < length t
  pub before : IfSome s.before (λ p. p < length t)
  pub here : s.here < length t

-- What pointed to the slot, the slot before it or the head of the chain, now points to `to`.
abbrev pub relinked : Option ℕ → Option ℕ → List (Option ℕ) → List (Option ℕ)
relinked None to ls = ls
relinked (Some p) to ls = slice_set ls p to

abbrev pub reheaded : Option ℕ → ℕ → Option ℕ → List (Option ℕ) → List (Option ℕ)
reheaded None chain to hs = slice_set hs chain to
reheaded (Some p) chain to hs = hs

-- ---- a walk along a chain

-- A walk goes on behind the slot.
pub record Follows (ls : List (Option ℕ)) (slot : ℕ) (before at : Option ℕ) : Type 0 where
  pub before_slot : before ≡ Some slot
  pub at_link : at ≡ slice_index_or ls slot None

-- A list in two parts, the first turned round: as a walk leaves it, with the slot that it came from in front.
abbrev pub onto : List ℕ → List ℕ → List ℕ
onto [] ys = ys
onto (x ∷ xs) ys = onto xs (x ∷ ys)

-- The slot that a walk came from.
abbrev pub last_of : List ℕ → Option ℕ
last_of [] = None
last_of (x ∷ xs) = Some x

-- The slot is in the chain, and `before` is the one before it, or none if it is the first.
pub record Split (chain : List ℕ) (before : Option ℕ) (slot : ℕ) : Type 0 where
  pub behind : List ℕ
  pub ahead : List ℕ
  pub whole : chain ≡ onto behind (slot ∷ ahead)
  pub last : before ≡ last_of behind

module _ {T : Type 0} (same : T → T → Bool) (t : List (Slot T)) (x : T) where
  -- The slot of the spot is in its chain, is in use and has an item that is the same as x.
  pub record Located (s : Spot) : Type 0 where
    pub inside : s.here < length t
    pub hit : hit_at same (entries t) x s.here ≡ true
    pub split : (free : Option ℕ) (st : Sound t free) → Split (st.chain s.chain) s.before s.here

  -- No slot of the chain has an item that is the same as x.
  abbrev pub Missing : ℕ → Type 0
  Missing chain = (i : ℕ) → i < length t → slice_index_or (map (chain_of (length t)) (entries t)) i (length t) ≡ chain → hit_at same (entries t) x i ≡ false
