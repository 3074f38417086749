-- What each move does to the table: t and s are the table and the ends of its lists before, t' and s' those after.
use Rattle.std.specs.Prelude.{ℕ, ◌+◌, List, None, Option}
use Rattle.links.specs.Tables.{edit}
use Rattle.table.specs.declared.place.Place.{Place}
use Rattle.table.specs.declared.lists.Lists.{Lists}
use Rattle.table.specs.Fields.{owner_in, value_in, labelled}
use Rattle.table.specs.Moves.{TakenOut, Attached}

-- The count of the counter at p.
abbrev pub count_at : {T : Type 0} → List (Place T) → ℕ → ℕ
count_at t p = value_in t (owner_in t p)

module _ {T : Type 0} (t t' : List (Place T)) (s s' : Lists) (p : ℕ) where
  -- The counter at p is detached, and attached at one more than it had.
  pub record Lifted : Type 0 where
    pub between : List (Place T)
    pub ends : Lists
    pub after : Option ℕ
    pub out : TakenOut t between s ends p after
    pub back : Attached between t' ends s' after (count_at t p + 1) p

  -- The counter at p, which was in no bucket, is made one for x and attached at 1.
  abbrev pub Seated : T → Type 0
  Seated x = Attached (edit (labelled x 0) p t) t' s s' None 1 p

  -- The counter at p is detached, made one for x that owes what it had, and attached at one more.
  pub record Overtaken (x : T) : Type 0 where
    pub between : List (Place T)
    pub ends : Lists
    pub after : Option ℕ
    pub out : TakenOut t between s ends p after
    pub back : Attached (edit (labelled x (count_at t p)) p between) t' ends s' after (count_at t p + 1) p
