-- A list of one kind in a table, and what taking a place out of it and putting one in do.
use Rattle.std.specs.Prelude.{◌≡◌, ℕ, ◌<◌, List, ◌∷◌, ◌++◌, length, Some, None, Option}
use Rattle.links.specs.declared.ends.Ends.{Ends}
use Rattle.links.specs.Tables.{read, edit_at}
use Rattle.links.specs.Chains.{Chain, Apart, Off, Within, first_or, last_or}
use Rattle.links.specs.declared.neighbours.Side.{Side}
use Rattle.links.specs.Kinds.{Accessors, link_of}

-- The links of the place i of a table.
abbrev pub next_in : {A : Type 0} → Accessors A → List A → ℕ → Option ℕ
next_in k t i = read k.next None t i

abbrev pub prev_in : {A : Type 0} → Accessors A → List A → ℕ → Option ℕ
prev_in k t i = read k.prev None t i

-- The same by the side of the link.
abbrev pub link_in : {A : Type 0} → Accessors A → Side → List A → ℕ → Option ℕ
link_in k side t i = read (link_of k side) None t i

-- The places xs of the table are a list of the kind k.
pub record Chained {A : Type 0} (k : Accessors A) (t : List A) (xs : List ℕ) : Type 0 where
  pub chain : Chain (next_in k t) (prev_in k t) None xs None
  pub apart : Apart xs
  pub within : Within (length t) xs

-- They are, and these are the ends of the list.
pub record Listed {A : Type 0} (k : Accessors A) (t : List A) (xs : List ℕ) (ends : Ends) : Type 0 where
  pub list : Chained k t xs
  pub begins : ends.first ≡ first_or xs None
  pub stops : ends.last ≡ last_or None xs

-- An end of a list at a change: kept while the link towards it leads to a place, else the place on the other side.
abbrev pub end_out_lem : Option ℕ → Option ℕ → Option ℕ → Option ℕ
end_out_lem None far end = far
end_out_lem (Some i) far end = end

-- The table and the ends once the place y is out of its list.
abbrev pub unlinking : {A : Type 0} → Accessors A → ℕ → List A → List A
unlinking k y t = edit_at (next_in k t y) (k.put_prev (prev_in k t y)) (edit_at (prev_in k t y) (k.put_next (next_in k t y)) t)

abbrev pub ends_out : {A : Type 0} → Accessors A → List A → ℕ → Ends → Ends
ends_out k t y ends =
    record {
      first = end_out_lem (prev_in k t y) (next_in k t y) ends.first;
      last = end_out_lem (next_in k t y) (prev_in k t y) ends.last;
    }

-- The table and the ends once the place y is in between the neighbours that the links before and after lead to.
abbrev pub linking : {A : Type 0} → Accessors A → Option ℕ → Option ℕ → ℕ → List A → List A
linking k before after y t =
    edit_at (Some y) (k.put_prev before)
    (edit_at (Some y) (k.put_next after) (edit_at after (k.put_prev (Some y)) (edit_at before (k.put_next (Some y)) t)))

abbrev pub ends_in : Option ℕ → Option ℕ → ℕ → Ends → Ends
ends_in before after y ends = record { first = end_out_lem before (Some y) ends.first; last = end_out_lem after (Some y) ends.last }

-- What taking the place y out of a list does: t and e are the table and the list's ends before, t' and e' those after.
pub record Unlinked {A : Type 0} (k : Accessors A) (t t' : List A) (y : ℕ) (e e' : Ends) : Type 0 where
  pub table : t' ≡ unlinking k y t
  pub ends : e' ≡ ends_out k t y e
  pub out : (xs zs : List ℕ) → Listed k t (xs ++ y ∷ zs) e → Listed k t' (xs ++ zs) e'

-- What putting the place y in between two neighbours does.
pub record Linked {A : Type 0} (k : Accessors A) (t t' : List A) (before after : Option ℕ) (y : ℕ) (e e' : Ends) : Type 0 where
  pub table : t' ≡ linking k before after y t
  pub ends : e' ≡ ends_in before after y e
  pub put : (xs zs : List ℕ) → Listed k t (xs ++ zs) e → before ≡ last_or None xs → after ≡ first_or zs None → Off y (xs ++ zs) → y < length t → Listed k t' (xs ++ y ∷ zs) e'
