-- A hit books its item, and leaves the other entries as they are.
use Rattle.std.proofs.Common.{◌≡◌, ℕ, ◌+◌, ◌<◌, ◌≤◌, Bool, true, false, ltb, leb, List, [], ◌∷◌, length, Some, None, Option, sym, ap, ◌∙◌, subst, arith}
use Rattle.std.specs.List.{AllByRecursion as Each}
use Rattle.std.proofs.ByRecursion.{All-weaker}
use Rattle.std.proofs.lemmas.Bool.{cond_both, cond-true, cond-false, leb-false, lt-ltb, le-ltb}
use Rattle.items.specs.Sameness.{Equivalence}
use Rattle.rows.specs.declared.entry.Entry.{Entry}
use Rattle.rows.specs.Row.{entry, raised, insert, take_over, entry_of, without, hit_at, hit}
use Rattle.rows.specs.Promises.{Sorted, Apart, Booked, TrueHit}
use Rattle.rows.proofs.Put.{pairwise_out}
use Rattle.rows.proofs.Sameness.{Absent, Found, found, absent_rest}

module _ {Item : Type 0} (same : Item → Item → Bool) (x : Item) where
  -- An entry of x in front is the one that is found,
  booked_first : (new : Entry Item) (others : List (Entry Item)) → same new.item x ≡ true → Each (λ e. new.count < e.count) others →
      Booked same x new others (new ∷ others)
  booked_first new others t greater = record {
    its_entry = cond-true (same new.item x) _ _ t;
    others_stay = cond-true (same new.item x) _ _ t;
    behind_equals = subst (Each (λ e. new.count < e.count)) (sym (cond-true (same new.item x) _ _ t)) greater;
  }

  -- and an entry of another item in front changes nothing.
  booked_behind : (e new : Entry Item) (others row : List (Entry Item)) → same e.item x ≡ false → Booked same x new others row →
      Booked same x new (e ∷ others) (e ∷ row)
  booked_behind e new others row t b = record {
    its_entry = cond-false (same e.item x) _ _ t ∙ b.its_entry;
    others_stay = cond-false (same e.item x) _ _ t ∙ ap (λ es. e ∷ es) b.others_stay;
    behind_equals = subst (Each (λ f. new.count < f.count)) (sym (cond-false (same e.item x) _ _ t)) b.behind_equals;
  }

  pub booked_insert : (new : Entry Item) (row : List (Entry Item)) → same new.item x ≡ true → Absent same x row → Sorted row → Booked same x new row (insert new row)
  booked_insert new [] t away s = booked_first new [] t tt
  booked_insert new (e ∷ row) t away s =
      cond_both (leb e.count new.count) (e ∷ insert new row) (new ∷ e ∷ row) (Booked same x new (e ∷ row))
      (λ _. booked_behind e new row (insert new row) away.0 (booked_insert new row t away.1 s.1))
      (λ above.
      let greater : new.count < e.count = leb-false e.count new.count above in
      booked_first new (e ∷ row) t (greater, All-weaker (λ f. e.count ≤ f.count) (λ f. new.count < f.count) (λ f l. omega arith) row s.0))

module _ {Item : Type 0} (same : Item → Item → Bool) (laws : Equivalence same) (m : ℕ) (x : Item) where
  found_as : (row : List (Entry Item)) (o : Option (Entry Item)) → entry_of same x row ≡ o → Found same x o (without same x row) row
  found_as row o e = subst (λ p. Found same x p (without same x row) row) e (found same x row)

  hit_with_entry : (row : List (Entry Item)) → Sorted row → Apart same row → (e : Entry Item) → entry_of same x row ≡ Some e →
      Booked same x (raised 1 e) (without same x row) (hit same m row x)
  hit_with_entry row s a e is =
      let f = found_as row (Some e) is in
      subst (Booked same x (raised 1 e) (without same x row)) (sym (ap (hit_at same m row x) is))
      (booked_insert same x (raised 1 e) (without same x row) f.0 (absent_rest same laws x f.0 f.1 a) (pairwise_out (λ a b. a.count ≤ b.count) f.1 s))

  hit_with_room : (row : List (Entry Item)) → Sorted row → entry_of same x row ≡ None → length row < m → Booked same x (entry x 1 0) row (hit same m row x)
  hit_with_room row s is free =
      subst (Booked same x (entry x 1 0) row) (sym (ap (hit_at same m row x) is ∙ cond-true (ltb (length row) m) _ _ (lt-ltb (length row) m free)))
      (booked_insert same x (entry x 1 0) row (laws.reflexive x) (found_as row None is) s)

  hit_without_room : (first : Entry Item) (rest : List (Entry Item)) → Sorted (first ∷ rest) → entry_of same x (first ∷ rest) ≡ None → m ≤ length (first ∷ rest) →
      Booked same x (entry x (first.count + 1) first.count) rest (hit same m (first ∷ rest) x)
  hit_without_room first rest s is full =
      let row = first ∷ rest in
      let new = entry x (first.count + 1) first.count in
      subst (Booked same x new rest) (sym (ap (hit_at same m row x) is ∙ cond-false (ltb (length row) m) (insert (entry x 1 0) row) (take_over x row) (le-ltb (length row) m full)))
      (booked_insert same x new rest (laws.reflexive x) (found_as row None is).1 s.1)

  pub true_hit : (row : List (Entry Item)) → Sorted row → Apart same row → TrueHit same m x row (hit same m row x)
  true_hit row s a = record {
    with_entry = hit_with_entry row s a;
    with_room = hit_with_room row s;
    without_room = λ first rest is none full.
        subst (λ r. Sorted r → entry_of same x r ≡ None → m ≤ length r → Booked same x (entry x (first.count + 1) first.count) rest (hit same m r x)) (sym is)
        (hit_without_room first rest) s none full;
  }
