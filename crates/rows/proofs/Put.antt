-- One element put into a list, or taken out: what holds of all pairs, and what insertion into a row is.
use Rattle.std.proofs.Common.{◌≡◌, ◌+◌, ◌≤◌, leb, List, [], ◌∷◌, refl, arith}
use Rattle.std.specs.List.{AllByRecursion as Each}
use Rattle.std.proofs.lemmas.Bool.{cond_both, leb-true, leb-false}
use Rattle.std.proofs.ByRecursion.{All-weaker}
pub use Rattle.items.proofs.Put.{Put, here, there, put_length, all_out, all_in}
use Rattle.rows.specs.declared.entry.Entry.{Entry}
use Rattle.rows.specs.Row.{insert}
use Rattle.rows.specs.Promises.{Pairwise, Sorted, sum_of_counts}

module _ {X : Type 0} where
  pub pairwise_out : (R : X → X → Type 0) {e : X} {rest row : List X} → Put e rest row → Pairwise R row → Pairwise R rest
  pairwise_out R here a = a.1
  pairwise_out R (there {f} p) a = ((all_out (R f) p a.0).1, pairwise_out R p a.1)

  -- For a relation that goes both ways: it holds of the element and all others,
  pub others_out : (R : X → X → Type 0) → ((x y : X) → R x y → R y x) → {e : X} {rest row : List X} → Put e rest row → Pairwise R row → Each (R e) rest
  others_out R flip here a = a.0
  others_out R flip {e} (there {f} p) a = (flip f e (all_out (R f) p a.0).0, others_out R flip p a.1)

  -- and an element of which it holds may be put in anywhere.
  pub pairwise_in : (R : X → X → Type 0) → ((x y : X) → R x y → R y x) → {e : X} {rest row : List X} → Put e rest row → Each (R e) rest → Pairwise R rest → Pairwise R row
  pairwise_in R flip here h a = (h, a)
  pairwise_in R flip {e} (there {f} p) h a = (all_in (R f) p (flip e f h.0) a.0, pairwise_in R flip p h.1 a.1)

module _ {Item : Type 0} where
  pub put_sum : {e : Entry Item} {rest row : List (Entry Item)} → Put e rest row → sum_of_counts row ≡ e.count + sum_of_counts rest
  put_sum here = refl
  put_sum (there p) = omega (arith, put_sum p)

  pub put_insert : (new : Entry Item) (row : List (Entry Item)) → Put new row (insert new row)
  put_insert new [] = here
  put_insert new (e ∷ row) = cond_both (leb e.count new.count) _ _ (Put new (e ∷ row)) (λ _. there (put_insert new row)) (λ _. here)

  pub sorted_insert : (new : Entry Item) (row : List (Entry Item)) → Sorted row → Sorted (insert new row)
  sorted_insert new [] s = (tt, tt)
  sorted_insert new (e ∷ row) s =
      cond_both (leb e.count new.count) _ _ Sorted
      (λ t. (all_in (λ f. e.count ≤ f.count) (put_insert new row) (leb-true _ _ t) s.0, sorted_insert new row s.1))
      (λ t.
      let low : new.count ≤ e.count = omega (arith, leb-false e.count new.count t) in
      ((low, All-weaker (λ f. e.count ≤ f.count) (λ f. new.count ≤ f.count) (λ f h. omega arith) row s.0), s))
