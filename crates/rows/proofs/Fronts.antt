-- What a hit does to the first k positions: at most one entry goes, and at most one comes.
use Rattle.std.proofs.Common.{◌≡◌, ℕ, zero, suc, ◌+◌, ◌≤◌, Bool, true, leb, ◌⊎◌, List, [], ◌∷◌, take, refl, ap, subst, inl, inr, arith}
use mathlib.Core.List.{reverse_aux}
use Rattle.std.proofs.lemmas.Bool.{cond_both, leb-false}
use Rattle.items.specs.Sameness.{Equivalence}
use Rattle.rows.specs.declared.entry.Entry.{Entry}
use Rattle.rows.specs.Row.{entry, raised, insert, hit}
use Rattle.rows.specs.Questions.{by_position}
use Rattle.rows.specs.Promises.{Sorted}
use Rattle.rows.proofs.Put.{Put, here, there, all_out, put_insert}
use Rattle.rows.proofs.Hits.{HitCase, moves, joins, takes_over, hit_case}

-- ---- moving up

-- In a row, which goes up: old is taken out, and new put in no lower.
data Climb {X : Type 0} (old new : X) : List X → List X → Type 0 where
  below : {f : X} {row after : List X} → Climb old new row after → Climb old new (f ∷ row) (f ∷ after)
  gone : {rest after : List X} → Put new rest after → Climb old new (old ∷ rest) after

-- By position, which goes down: new is put in first, and old taken out behind.
data Rise {X : Type 0} (old new : X) : List X → List X → Type 0 where
  above : {f : X} {before after : List X} → Rise old new before after → Rise old new (f ∷ before) (f ∷ after)
  come : {rest before : List X} → Put old rest before → Rise old new before (new ∷ rest)

-- An entry that gives way to one that is no lower. Amounts do not matter here.
climb_insert : {Item : Type 0} (old new : Entry Item) {rest row : List (Entry Item)} → Put old rest row → Sorted row → old.count ≤ new.count →
    Climb old new row (insert new rest)
climb_insert old new (here {rest}) s l = gone (put_insert new rest)
climb_insert old new (there {f} {rest} {whole = row} p) s l =
    let low = all_out (λ e. f.count ≤ e.count) p s.0 in
    cond_both (leb f.count new.count) (f ∷ insert new rest) (new ∷ f ∷ rest) (Climb old new (f ∷ row))
    (λ _. below (climb_insert old new p s.1 l))
    (λ t. absurd (omega (arith, leb-false f.count new.count t)))

module _ {X : Type 0} {old new : X} where
  rise_onto : (front : List X) {before after : List X} → Rise old new before after → Rise old new (reverse_aux front before) (reverse_aux front after)
  rise_onto [] r = r
  rise_onto (f ∷ front) r = rise_onto front (above r)

  rise_put : {rest after : List X} → Put new rest after → {less more : List X} → Put old less more → Rise old new (reverse_aux rest more) (reverse_aux after less)
  rise_put (here {rest}) q = rise_onto rest (come q)
  rise_put (there p) q = rise_put p (there q)

  rise_climb : {row after : List X} → Climb old new row after → (behind : List X) → Rise old new (reverse_aux row behind) (reverse_aux after behind)
  rise_climb (below {f} c) behind = rise_climb c (f ∷ behind)
  rise_climb (gone p) behind = rise_put p here

module _ {X : Type 0} {new : X} where
  put_onto : (front : List X) {before after : List X} → Put new before after → Put new (reverse_aux front before) (reverse_aux front after)
  put_onto [] p = p
  put_onto (f ∷ front) p = put_onto front (there p)

  pub put_reverse_onto : {rest row : List X} → Put new rest row → (behind : List X) → Put new (reverse_aux rest behind) (reverse_aux row behind)
  put_reverse_onto (here {rest}) behind = put_onto rest here
  put_reverse_onto (there {f} p) behind = put_reverse_onto p (f ∷ behind)

-- ---- the first k

-- What became of the first k positions: nothing; or one went and new came; or new came.
pub data Change {X : Type 0} (new : X) (before after : List X) : Type 0 where
  unchanged : before ≡ after → Change new before after
  swapped : {old : X} {rest : List X} → Put old rest before → Put new rest after → Change new before after
  grown : Put new before after → Change new before after

module _ {X : Type 0} where
  change_behind : {new f : X} {before after : List X} → Change new before after → Change new (f ∷ before) (f ∷ after)
  change_behind {f = f} (unchanged e) = unchanged (ap (λ es. f ∷ es) e)
  change_behind (swapped p q) = swapped (there p) (there q)
  change_behind (grown p) = grown (there p)

  -- Without old, the first k are one fewer than the first k + 1 with it.
  one_fewer : {old : X} {rest row : List X} → Put old rest row → (k : ℕ) → (gone : X) × Put gone (take k rest) (take (suc k) row)
  one_fewer {old} here k = (old, here)
  one_fewer (there {f} p) zero = (f, here)
  one_fewer (there p) (suc k) = let r = one_fewer p k in (r.0, there r.1)

  one_more : (k : ℕ) (xs : List X) → (take k xs ≡ take (suc k) xs) ⊎ ((last : X) × Put last (take k xs) (take (suc k) xs))
  one_more zero [] = inl refl
  one_more zero (x ∷ xs) = inr (x, here)
  one_more (suc k) [] = inl refl
  one_more (suc k) (x ∷ xs) = elim (one_more k xs) [ inl e ↦ inl (ap (λ es. x ∷ es) e) | inr r ↦ inr (r.0, there r.1) ]

  change_rise : {old new : X} (k : ℕ) {before after : List X} → Rise old new before after → Change new (take k before) (take k after)
  change_rise zero r = unchanged refl
  change_rise (suc k) (above r) = change_behind (change_rise k r)
  change_rise (suc k) (come p) = swapped (one_fewer p k).1 here

  change_put : {new : X} (k : ℕ) {before after : List X} → Put new before after → Change new (take k before) (take k after)
  change_put zero p = unchanged refl
  change_put {new} (suc k) (here {rest}) = elim (one_more k rest) [
    | inl e ↦ grown (subst (λ es. Put new es (new ∷ take k rest)) e here)
    | inr r ↦ swapped r.1 here
  ]
  change_put (suc k) (there p) = change_behind (change_put k p)

-- ---- a hit

module _ {Item : Type 0} (same : Item → Item → Bool) (k : ℕ) where
  -- The first k positions change by one entry new, which is x's.
  abbrev pub ChangedBy : Item → List (Entry Item) → List (Entry Item) → Type 0
  ChangedBy x before after = (new : Entry Item) × (same new.item x ≡ true) × Change new (take k (by_position before)) (take k (by_position after))

  -- An entry gives way to one of x that is no lower.
  pub changed_by_moving : (x : Item) (old new : Entry Item) (rest row : List (Entry Item)) → same new.item x ≡ true → Put old rest row →
      Sorted row → old.count ≤ new.count → ChangedBy x row (insert new rest)
  changed_by_moving x old new rest row t p s l = (new, t, change_rise k (rise_climb (climb_insert old new p s l) []))

  -- An entry of x joins.
  pub changed_by_joining : (x : Item) (new : Entry Item) (row : List (Entry Item)) → same new.item x ≡ true → ChangedBy x row (insert new row)
  changed_by_joining x new row t = (new, t, change_put k (put_reverse_onto (put_insert new row) []))

  module _ (laws : Equivalence same) (m : ℕ) (pos : 1 ≤ m) (x : Item) where
    changed_by_case : {row after : List (Entry Item)} → HitCase same m x row after → Sorted row → ChangedBy x row after
    changed_by_case (moves {row} {rest} e t p) s = changed_by_moving x e (raised 1 e) rest row t p s (omega arith)
    changed_by_case (joins {row} away free) s = changed_by_joining x (entry x 1 0) row (laws.reflexive x)
    changed_by_case (takes_over {first} {rest} away full) s =
        changed_by_moving x first (entry x (first.count + 1) first.count) rest (first ∷ rest) (laws.reflexive x) here s (omega arith)

    pub changed_by_hit : (row : List (Entry Item)) → Sorted row → ChangedBy x row (hit same m row x)
    changed_by_hit row s = changed_by_case (hit_case same m pos x row) s
