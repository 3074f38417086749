-- The front of a row of slots: one binding put behind it, or the last put in the place of one that leaves.
use Rattle.std.proofs.Common.{◌≡◌, ℕ, suc, ◌+◌, ◌<◌, ◌≤◌, List, [], ◌∷◌, ◌++◌, length, get_or, take, drop, set, sym, ap, ◌∙◌, subst, ⊎_elim, arith}
use lib.Seq.{take-set-lt}
use Rattle.std.proofs.lemmas.List.{take_more, take-set-le, append-nil, set_split, set-get_or, append_assoc, length-take-le, get_or-take}
use Rattle.std.proofs.lemmas.Bool.{cases_lt}
use Rattle.items.proofs.Put.{Put, put_between}

module _ {X : Type 0} where
  -- One more behind the others.
  pub put_push : (xs : List X) (e : X) → Put e xs (xs ++ e ∷ [])
  put_push xs e = subst (λ rest. Put e rest (xs ++ e ∷ [])) (append-nil xs) (put_between xs [])

  -- Two lists with the same elements: one of them moved, or none.
  pub data Moved : List X → List X → Type 0 where
    stays : {xs : List X} → Moved xs xs
    moves : {e : X} {rest xs ys : List X} → Put e rest xs → Put e rest ys → Moved xs ys

  -- The list after e has left, which stood somewhere in the list before.
  pub record Closed (e : X) (before after : List X) : Type 0 where
    pub rest : List X
    pub out : Put e rest before
    pub moved : Moved rest after

  closed_middle : (front back : List X) (e last : X) → Closed e (front ++ e ∷ (back ++ last ∷ [])) (front ++ last ∷ back)
  closed_middle front back e last = record {
    rest = front ++ (back ++ last ∷ []);
    out = put_between front (back ++ last ∷ []);
    moved = moves
        (subst (λ zs. Put last zs (front ++ (back ++ last ∷ []))) (ap (λ (zs : List X). front ++ zs) (append-nil back))
        (subst (Put last (front ++ (back ++ []))) (append_assoc front back (last ∷ [])) (subst (λ zs. Put last zs ((front ++ back) ++ last ∷ [])) (append_assoc front back []) (put_between (front ++ back) []))))
        (put_between front back);
  }

  closed_end : (front : List X) (e : X) → Closed e (front ++ e ∷ []) front
  closed_end front e = record {
    rest = front;
    out = put_push front e;
    moved = stays;
  }

  -- Of the first m + 1 slots, the one at i leaves, and the last takes its place.
  pub closed : (xs : List X) (m i : ℕ) (d : X) → i ≤ m → m < length xs → Closed (get_or xs i d) (take (m + 1) xs) (take m (set xs i (get_or xs m d)))
  closed xs m i d low high =
      ⊎_elim
      (λ (less : i < m).
      let long : length (take m xs) ≡ m = length-take-le m xs (omega arith) in
      let inside : i < length (take m xs) = omega arith in
      let split : take m xs ≡ take i (take m xs) ++ get_or xs i d ∷ drop (suc i) (take m xs) =
      sym (set-get_or (take m xs) i d) ∙ set_split (take m xs) i (get_or (take m xs) i d) inside
      ∙ ap (λ (x : X). take i (take m xs) ++ x ∷ drop (suc i) (take m xs)) (get_or-take m xs i d less) in
      let before : take (m + 1) xs ≡ take i (take m xs) ++ get_or xs i d ∷ (drop (suc i) (take m xs) ++ get_or xs m d ∷ []) =
      take_more xs m d high ∙ ap (λ (zs : List X). zs ++ get_or xs m d ∷ []) split
      ∙ append_assoc (take i (take m xs)) (get_or xs i d ∷ drop (suc i) (take m xs)) (get_or xs m d ∷ []) in
      let after : take m (set xs i (get_or xs m d)) ≡ take i (take m xs) ++ get_or xs m d ∷ drop (suc i) (take m xs) =
      take-set-lt m xs i (get_or xs m d) less ∙ set_split (take m xs) i (get_or xs m d) inside in
      rw (before, after) (closed_middle (take i (take m xs)) (drop (suc i) (take m xs)) (get_or xs i d) (get_or xs m d)))
      (λ (ge : m ≤ i).
      let same : i ≡ m = omega arith in
      let before : take (m + 1) xs ≡ take m xs ++ get_or xs m d ∷ [] = take_more xs m d high in
      let after : take m (set xs i (get_or xs m d)) ≡ take m xs = take-set-le m xs i (get_or xs m d) ge in
      rw (before, after, same) (closed_end (take m xs) (get_or xs m d)))
      (cases_lt i m)
