-- What a watched hit answers is told from the item that was hit and the last of the first k positions.
use Rattle.std.proofs.Common.{◌≡◌, ℕ, zero, suc, ◌+◌, ◌≤◌, Bool, true, false, cond, not, eqb, ltb, leb, ◌⊎◌, List, [], ◌∷◌, ◌++◌, length, take, is_some, Some, None, Option, sym, refl, ap, ◌∙◌, subst, inl, inr, arith, length-take}
use lib.ListN.{length-map}
use lib.Seq.{take-append-le}
use Rattle.std.specs.List.{AllByRecursion as Each}
use Rattle.std.proofs.lemmas.List.{reverse-append, length-reverse}
use Rattle.std.proofs.ByRecursion.{All-weaker}
use Rattle.std.proofs.lemmas.Bool.{both_ways, cond-true, cond-false, ltb-false, not-false, or_parts, false_from_ne_true, cases_lt, or_right}
use mathlib.Core.Path.{Σ_path}
use Rattle.items.specs.Sameness.{Equivalence}
use Rattle.rows.specs.declared.entry.Entry.{Entry}
use Rattle.rows.specs.Row.{entry, raised, insert, entry_of}
use Rattle.rows.specs.Questions.{by_position, listed, first_new, watched}
use Rattle.rows.specs.Promises.{Sorted}
use Rattle.rows.proofs.Lists.{all_both}
use Rattle.rows.proofs.Put.{Put, here, there, put_insert, put_length, all_out, all_in}
use Rattle.rows.proofs.Sameness.{listed_put, listed_alike, some_first}
use Rattle.rows.proofs.Fronts.{Change, unchanged, swapped, grown, ChangedBy, changed_by_moving, changed_by_joining, put_reverse_onto}
use Rattle.table.specs.Placed.{Placed, entries, put, at_place, off_place, raised as raised_placed, entered, overtaken, step, placed_entry}
use Rattle.calls.specs.Foreign.{holds, foreign_first, foreign_hit}
use Rattle.calls.specs.Calls.{entry_at}
use Rattle.calls.specs.Watching.{last_item, form_of, entered_by, left_by, told}
use Rattle.calls.proofs.Stepping.{entries_insert}

-- ---- the first ones of a list with one put in

module _ {X : Type 0} where
  -- What holds of the first j + 1 holds of the first j; and of the first j without an element.
  one_less : (P : X → Type 0) (j : ℕ) (xs : List X) → Each P (take (suc j) xs) → Each P (take j xs)
  one_less P zero xs a = tt
  one_less P (suc j) [] a = tt
  one_less P (suc j) (x ∷ xs) a = (a.0, one_less P j xs a.1)

  fewer : (P : X → Type 0) (j : ℕ) {e : X} {rest row : List X} → Put e rest row → Each P (take (suc j) row) → Each P (take j rest)
  fewer P zero p a = tt
  fewer P (suc j) (here {rest}) a = a.1
  fewer P (suc j) (there p) a = (a.0, fewer P j p a.1)

  -- What holds of an element and of the first j without it holds of the first j with it.
  more : (P : X → Type 0) (j : ℕ) {e : X} {rest row : List X} → Put e rest row → P e → Each P (take j rest) → Each P (take j row)
  more P zero p h a = tt
  more P (suc j) (here {rest}) h a = (h, one_less P j rest a)
  more P (suc j) (there p) h a = (a.0, more P j p h a.1)

  -- An element is among the first j + 1, or they are those without it.
  put_take : {e : X} (j : ℕ) {rest row : List X} → Put e rest row → Put e (take j rest) (take (suc j) row) ⊎ (take (suc j) row ≡ take (suc j) rest)
  put_take j (here {rest}) = inl here
  put_take zero (there p) = inr refl
  put_take (suc j) (there {f} p) = elim (put_take j p) [ inl q ↦ inl (there q) | inr e ↦ inr (ap (λ xs. f ∷ xs) e) ]

module _ {T : Type 0} (same : T → T → Bool) (laws : Equivalence same) where
  -- Every entry of one list is listed in another.
  abbrev AllListed : List (Entry T) → List (Entry T) → Type 0
  AllListed es others = Each (λ e. listed same e.item others ≡ true) es

  all_self : (es : List (Entry T)) → AllListed es es
  all_self [] = tt
  all_self (e ∷ es) = (
    ap (λ b. is_some (cond b (Some e) (entry_of same e.item es))) (laws.reflexive e.item),
    All-weaker (λ f. listed same f.item es ≡ true) (λ f. listed same f.item (e ∷ es) ≡ true) (λ f t. some_first (same e.item f.item) e (entry_of same f.item es) ∙ or_right (same e.item f.item) (is_some (entry_of same f.item es)) t) es (all_self es),
  )

  -- ---- the first new item

  none_new : (es others : List (Entry T)) → AllListed es others → first_new same es others ≡ None
  none_new [] others a = refl
  none_new (e ∷ es) others a = cond-true (listed same e.item others) _ _ a.0 ∙ none_new es others a.1

  one_new : {new : Entry T} {rest es : List (Entry T)} (others : List (Entry T)) → Put new rest es → AllListed rest others → listed same new.item others ≡ false → first_new same es others ≡ Some new.item
  one_new {new} others (here {rest}) a out = cond-false (listed same new.item others) _ _ out
  one_new others (there {f} p) a out = cond-true (listed same f.item others) _ _ a.0 ∙ one_new others p a.1 out

  -- Only the last of the first j + 1 can be new, if the first j are listed.
  last_new : (j : ℕ) (es others : List (Entry T)) → AllListed (take j es) others → first_new same (take (suc j) es) others ≡ left_by same (last_item (take (suc j) es)) others
  last_new j [] others a = refl
  last_new zero (e ∷ es) others a = refl
  last_new (suc j) (e ∷ []) others a = refl
  last_new (suc j) (e ∷ f ∷ es) others a = cond-true (listed same e.item others) _ _ a.0 ∙ last_new j (f ∷ es) others a.1

  -- ---- a hit with x

  module _ (x : T) where
    alike : (y : T) (es : List (Entry T)) → same y x ≡ true → listed same x es ≡ false → listed same y es ≡ false
    alike y es t out = false_from_ne_true (listed same y es) (λ u. both_ways (listed same x es) out (listed_alike same laws y x es t u))

    to_item : (y : T) (es : List (Entry T)) → same y x ≡ true → listed same x es ≡ true → listed same y es ≡ true
    to_item y es t u = listed_alike same laws x y es (laws.symmetric y x t) u

    module _ {new : Entry T} (t : same new.item x ≡ true) {was is : List (Entry T)} where
      -- Where x was listed, nothing comes that was not.
      still_listed : Change new was is → listed same x was ≡ true → AllListed is was
      still_listed (unchanged e) u = subst (λ es. AllListed es was) e (all_self was)
      still_listed (swapped p q) u = all_in (λ e. listed same e.item was ≡ true) q (to_item new.item was t u) (all_out (λ e. listed same e.item was ≡ true) p (all_self was)).1
      still_listed (grown q) u = all_in (λ e. listed same e.item was ≡ true) q (to_item new.item was t u) (all_self was)

      -- No entry of x goes.
      none_goes : Change new was is → Each (λ e. same e.item x ≡ true → listed same e.item is ≡ true) was
      none_goes (unchanged e) = All-weaker (λ f. listed same f.item is ≡ true) (λ f. same f.item x ≡ true → listed same f.item is ≡ true) (λ f u _. u) was (subst (λ es. AllListed es is) (sym e) (all_self is))
      none_goes (swapped p q) = each was
        where
          each : (es : List (Entry T)) → Each (λ e. same e.item x ≡ true → listed same e.item is ≡ true) es
          each [] = tt
          each (e ∷ es) = ((λ u. to_item e.item is u (listed_alike same laws new.item x is t (listed_put same laws q))), each es)
      none_goes (grown q) = All-weaker (λ f. listed same f.item is ≡ true) (λ f. same f.item x ≡ true → listed same f.item is ≡ true) (λ f u _. u) was (all_out (λ e. listed same e.item is ≡ true) q (all_self is)).1

    module _ (j : ℕ) where
      -- What enters, where new is put into others.
      entering : (new : Entry T) → same new.item x ≡ true → (others before after : List (Entry T)) → Put new others after →
          AllListed (take j others) (take (suc j) before) →
          (take (suc j) after ≡ take (suc j) others → listed same x (take (suc j) before) ≡ false → take (suc j) after ≡ take (suc j) before) →
          (listed same x (take (suc j) before) ≡ true → AllListed (take (suc j) after) (take (suc j) before)) →
          first_new same (take (suc j) after) (take (suc j) before) ≡ entered_by (listed same x (take (suc j) before)) (listed same x (take (suc j) after)) new.item
      entering new t others before after p kept out led = go (listed same x (take (suc j) before)) refl
        where
          coming : Put new (take j others) (take (suc j) after) → listed same x (take (suc j) before) ≡ false →
              first_new same (take (suc j) after) (take (suc j) before) ≡ cond (listed same x (take (suc j) after)) (Some new.item) None
          coming q u =
              one_new (take (suc j) before) q kept (alike new.item (take (suc j) before) t u) ∙
              sym (cond-true (listed same x (take (suc j) after)) (Some new.item) None (listed_alike same laws new.item x (take (suc j) after) t (listed_put same laws q)))

          staying : take (suc j) after ≡ take (suc j) before → listed same x (take (suc j) before) ≡ false →
              first_new same (take (suc j) after) (take (suc j) before) ≡ cond (listed same x (take (suc j) after)) (Some new.item) None
          staying e u =
              none_new (take (suc j) after) (take (suc j) before) (subst (λ es. AllListed es (take (suc j) before)) (sym e) (all_self (take (suc j) before))) ∙
              sym (cond-false (listed same x (take (suc j) after)) (Some new.item) None (ap (listed same x) e ∙ u))

          go : (b : Bool) → listed same x (take (suc j) before) ≡ b → first_new same (take (suc j) after) (take (suc j) before) ≡ entered_by b (listed same x (take (suc j) after)) new.item
          go true u = none_new (take (suc j) after) (take (suc j) before) (led u)
          go false u = elim (put_take j p) [ inl q ↦ coming q u | inr e ↦ staying (out e u) u ]

      -- An entry of x gets one more, and moves.
      pub told_moved : (e : Entry T) (rest row : List (Entry T)) → Put e rest row → Sorted row → same e.item x ≡ true →
          watched same (suc j) row (insert (raised 1 e) rest) ≡ told same (suc j) x e.item row (insert (raised 1 e) rest)
      told_moved e rest row p sorted t =
          let after : List (Entry T) = insert (raised 1 e) rest in
          let was : List (Entry T) = take (suc j) (by_position row) in
          let is : List (Entry T) = take (suc j) (by_position after) in
          let gone : Put e (by_position rest) (by_position row) = put_reverse_onto p [] in
          let come : Put (raised 1 e) (by_position rest) (by_position after) = put_reverse_onto (put_insert (raised 1 e) rest) [] in
          let change : ChangedBy same (suc j) x row after = changed_by_moving same (suc j) x e (raised 1 e) rest row t p sorted (omega arith) in
          let entered = entering (raised 1 e) t (by_position rest) (by_position row) (by_position after) come
          (fewer (λ f. listed same f.item was ≡ true) j gone (all_self was))
          (λ out away. out ∙ sym (elim (put_take j gone) [
            | inl q ↦ absurd (both_ways (listed same x was) away (listed_alike same laws e.item x was t (listed_put same laws q)))
            | inr s ↦ s
          ]))
          (still_listed change.1 change.2) in
          let either = more (λ f. (f ≡ e) ⊎ (listed same f.item is ≡ true)) j gone (inl refl)
          (All-weaker (λ f. listed same f.item is ≡ true) (λ f. (f ≡ e) ⊎ (listed same f.item is ≡ true)) (λ f u. inr u) (take j (by_position rest)) (fewer (λ f. listed same f.item is ≡ true) j come (all_self is))) in
          let kept = all_both (λ f. (f ≡ e) ⊎ (listed same f.item is ≡ true)) (λ f. same f.item x ≡ true → listed same f.item is ≡ true) (λ f. listed same f.item is ≡ true)
          (λ f o g. elim o [ inl i ↦ g (ap (λ (d : Entry T). same d.item x) i ∙ t) | inr u ↦ u ]) (take j (by_position row)) either
          (one_less (λ f. same f.item x ≡ true → listed same f.item is ≡ true) j (by_position row) (none_goes change.1 change.2)) in
          Σ_path entered (last_new j (by_position row) is kept)

      -- x joins.
      pub told_joined : (row : List (Entry T)) → watched same (suc j) row (insert (entry x 1 0) row) ≡ told same (suc j) x x row (insert (entry x 1 0) row)
      told_joined row =
          let after : List (Entry T) = insert (entry x 1 0) row in
          let was : List (Entry T) = take (suc j) (by_position row) in
          let is : List (Entry T) = take (suc j) (by_position after) in
          let t = laws.reflexive x in
          let come : Put (entry x 1 0) (by_position row) (by_position after) = put_reverse_onto (put_insert (entry x 1 0) row) [] in
          let change : ChangedBy same (suc j) x row after = changed_by_joining same (suc j) x (entry x 1 0) row t in
          Σ_path
          (entering (entry x 1 0) t (by_position row) (by_position row) (by_position after) come (one_less (λ f. listed same f.item was ≡ true) j (by_position row) (all_self was)) (λ out away. out) (still_listed change.1 change.2))
          (last_new j (by_position row) is (fewer (λ f. listed same f.item is ≡ true) j come (all_self is)))

      -- x takes over the first entry, of a row that has the positions asked for.
      pub told_overtaken : (e : Entry T) (rest : List (Entry T)) → Sorted (e ∷ rest) → suc j ≤ length (e ∷ rest) →
          watched same (suc j) (e ∷ rest) (insert (entry x (e.count + 1) e.count) rest) ≡ told same (suc j) x x (e ∷ rest) (insert (entry x (e.count + 1) e.count) rest)
      told_overtaken e rest sorted few =
          let new : Entry T = entry x (e.count + 1) e.count in
          let after : List (Entry T) = insert new rest in
          let others : List (Entry T) = by_position rest in
          let ends : by_position (e ∷ rest) ≡ others ++ e ∷ [] = reverse-append (e ∷ []) rest in
          let was : List (Entry T) = take (suc j) (by_position (e ∷ rest)) in
          let is : List (Entry T) = take (suc j) (by_position after) in
          let t = laws.reflexive x in
          let n : length others ≡ length rest = length-reverse rest in
          let first : Put e rest (e ∷ rest) = here in
          let gone : Put e others (by_position (e ∷ rest)) = put_reverse_onto first [] in
          let come : Put new others (by_position after) = put_reverse_onto (put_insert new rest) [] in
          let change : ChangedBy same (suc j) x (e ∷ rest) after = changed_by_moving same (suc j) x e new rest (e ∷ rest) t here sorted (omega arith) in
          let front : take j (by_position (e ∷ rest)) ≡ take j others = ap (take j) ends ∙ take-append-le j others (e ∷ []) (omega arith) in
          Σ_path
          (entering new t others (by_position (e ∷ rest)) (by_position after) come
          (fewer (λ f. listed same f.item was ≡ true) j gone (all_self was))
          (λ out away. out ∙ sym (elim (cases_lt j (length others)) [
            | inl l ↦ ap (take (suc j)) ends ∙ take-append-le (suc j) others (e ∷ []) l
            | inr q ↦ absurd (let a = ap length out in let b = length-take (suc j) (by_position after) in let c = length-take (suc j) others in let d = put_length come in omega arith)
          ]))
          (still_listed change.1 change.2))
          (last_new j (by_position (e ∷ rest)) is (subst (λ es. AllListed es is) (sym front) (fewer (λ f. listed same f.item is ≡ true) j come (all_self is))))

  -- ---- a hit on the placed row

  put_at : (p : ℕ) (row : List (Placed T)) (e : Placed T) → at_place p row ≡ Some e → Put e.entry (entries (off_place p row)) (entries row)
  put_at p [] e is = absurd cc
  put_at p (f ∷ row) e is = go (eqb p f.place) (put_at p row e) is
    where
      go : (b : Bool) → (at_place p row ≡ Some e → Put e.entry (entries (off_place p row)) (entries row)) → cond b (Some f) (at_place p row) ≡ Some e →
          Put e.entry (entries (cond b row (f ∷ off_place p row))) (entries (f ∷ row))
      go true behind i = let first : f ≡ e = cc in subst (λ (d : Placed T). Put d.entry (entries row) (entries (f ∷ row))) first here
      go false behind i = there (behind i)

  module _ (x : T) (j m : ℕ) (few : suc j ≤ m) (row : List (Placed T)) (sorted : Sorted (entries row)) where
    -- Told of the row before, the form that is held, and the row after.
    abbrev Told : T → List (Placed T) → Type 0
    Told form after = watched same (suc j) (entries row) (entries after) ≡ told same (suc j) x form (entries row) (entries after)

    told_from : (form : T) (after : List (Placed T)) (es : List (Entry T)) → entries after ≡ es → watched same (suc j) (entries row) es ≡ told same (suc j) x form (entries row) es → Told form after
    told_from form after es is t = subst (λ (r : List (Entry T)). watched same (suc j) (entries row) r ≡ told same (suc j) x form (entries row) r) (sym is) t

    told_raised : (p : ℕ) (o : Option (Placed T)) → at_place p row ≡ o → holds same o x ≡ true → Told (form_of (placed_entry o) x) (raised_placed o (off_place p row))
    told_raised p None is t = absurd (both_ways false refl t)
    told_raised p (Some e) is t =
        told_from e.entry.item _ (insert (raised 1 e.entry) (entries (off_place p row))) (entries_insert (put e.place e.entry.item (e.entry.count + 1) e.entry.error) (off_place p row))
        (told_moved x j e.entry (entries (off_place p row)) (entries row) (put_at p row e is) sorted t)

    told_entered : Told x (entered (length row) x row)
    told_entered = told_from x _ (insert (entry x 1 0) (entries row)) (entries_insert (put (length row) x 1 0) row) (told_joined x j (entries row))

  told_over : (x : T) (j m : ℕ) → suc j ≤ m → (row : List (Placed T)) → Sorted (entries row) → m ≤ length row → (find : T → Option ℕ) → foreign_first row find ≡ false →
      watched same (suc j) (entries row) (entries (overtaken x row)) ≡ told same (suc j) x x (entries row) (entries (overtaken x row))
  told_over x j m few [] sorted full find own = absurd (omega arith)
  told_over x j m few (e ∷ row) sorted full find own =
      told_from x j m few (e ∷ row) sorted x _ (insert (entry x (e.entry.count + 1) e.entry.count) (entries row)) (entries_insert (put e.place x (e.entry.count + 1) e.entry.count) row)
      (told_overtaken x j e.entry (entries row) sorted (let n = length-map row (λ p. p.entry) in omega arith))

  -- Of a hit for which the finder is not foreign.
  pub told_step : (x : T) (j m : ℕ) → suc j ≤ m → (row : List (Placed T)) → Sorted (entries row) → (held room : ℕ) (find : T → Option ℕ) (o : Option ℕ) → foreign_hit same m (length row) row held room find x o ≡ false →
      watched same (suc j) (entries row) (entries (step m row x o)) ≡ told same (suc j) x (form_of (entry_at row o) x) (entries row) (entries (step m row x o))
  told_step x j m few row sorted held room find (Some p) own =
      told_raised x j m few row sorted p (at_place p row) refl (not-false (holds same (at_place p row) x) (or_parts (leb (length row) p) (not (holds same (at_place p row) x)) own).1)
  told_step x j m few row sorted held room find None own = go (ltb (length row) m) refl own
    where
      go : (b : Bool) → ltb (length row) m ≡ b → cond b (leb room held) (foreign_first row find) ≡ false →
          watched same (suc j) (entries row) (entries (cond b (entered (length row) x row) (overtaken x row))) ≡ told same (suc j) x x (entries row) (entries (cond b (entered (length row) x row) (overtaken x row)))
      go true t own = told_entered x j m few row sorted
      go false t own = told_over x j m few row sorted (ltb-false (length row) m t) find own
