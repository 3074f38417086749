-- When a finder is foreign, in words, and that the definition says exactly this.
use Rattle.std.specs.Prelude.{◌≡◌, ℕ, ◌<◌, ◌≤◌, Bool, false, ◌⊎◌, List, [], ◌∷◌, Some, None, Option}
use Rattle.rows.specs.Promises.{Exactly}
use Rattle.table.specs.Placed.{Placed, at_place}
use Rattle.calls.specs.Foreign.{foreign_place, foreign_hit}

module _ {T : Type 0} (same : T → T → Bool) where
  -- The counter at the place p holds no item the same as x.
  abbrev pub HoldsNone : List (Placed T) → T → ℕ → Type 0
  HoldsNone row x p = (e : Placed T) → at_place p row ≡ Some e → same e.entry.item x ≡ false

  -- For x the finder gives a place at or above u, or one whose counter holds no same item.
  pub record Misplaced (u : ℕ) (row : List (Placed T)) (x : T) (found : Option ℕ) : Type 0 where
    pub place : ℕ
    pub given : found ≡ Some place
    pub wrong : (u ≤ place) ⊎ HoldsNone row x place

-- For x the finder gives no place, u is below m, and the finder is at its capacity.
pub record NoRoom (m u held room : ℕ) (found : Option ℕ) : Type 0 where
  pub none : found ≡ None
  pub spare : u < m
  pub full : room ≤ held

-- For the first entry's item the finder gives the first entry's place.
abbrev pub FirstGiven : {T : Type 0} → List (Placed T) → (T → Option ℕ) → Type 0
FirstGiven [] find = ⊥
FirstGiven (first ∷ row) find = find first.entry.item ≡ Some first.place

-- For x the finder gives no place, u is not below m, and for the first entry's item it does not give the first entry's place.
pub record FirstLost {T : Type 0} (m u : ℕ) (row : List (Placed T)) (find : T → Option ℕ) (found : Option ℕ) : Type 0 where
  pub none : found ≡ None
  pub full : m ≤ u
  pub lost : FirstGiven row find → ⊥

pub record ForeignExactly {T : Type 0} (same : T → T → Bool) : Type 0 where
  pub for_bracket : (u : ℕ) (row : List (Placed T)) (x : T) (found : Option ℕ) → Exactly (foreign_place same u row x found) (Misplaced same u row x found)
  pub for_hit : (m u : ℕ) (row : List (Placed T)) (held room : ℕ) (find : T → Option ℕ) (x : T) (found : Option ℕ) →
      Exactly (foreign_hit same m u row held room find x found) (Misplaced same u row x found ⊎ (NoRoom m u held room found ⊎ FirstLost m u row find found))
