-- Lines written one after another from the front.
use Rattle.std.proofs.Common.{◌≡◌, ℕ, ◌+◌, ◌<◌, ◌≤◌, List, [], ◌∷◌, ◌++◌, map, length, take, drop, set, sym, refl, ap, ◌∙◌, append_assoc, arith}
use Rattle.std.proofs.lemmas.List.{length-map, length-take-le, map_push, set_at}
use Rattle.lists.proofs.Fronts.{Next, reached}

module _ {X Y : Type 0} (f : X → Y) (xs : List X) (old : List Y) where
  -- The first i as lines, and behind them the lines as they were.
  abbrev pub Written : ℕ → List Y → Type 0
  Written i lines = lines ≡ map f (take i xs) ++ drop i old

  long : (i : ℕ) → i ≤ length xs → length (map f (take i xs)) ≡ i
  long i l = length-map (take i xs) f ∙ length-take-le i xs l

  pub write_none : (i : ℕ) (lines : List Y) → i ≡ 0 → lines ≡ old → Written i lines
  write_none i lines none same = rw (none, same) refl

  pub write_more : (n i n' : ℕ) (x : X) (y : Y) (lines : List Y) → Next xs n x → n < length old → i ≡ n → n' ≡ n + 1 → y ≡ f x → Written n lines → Written n' (set lines i y)
  write_more n i n' x y lines at room same one is h =
      let o = reached old n room in
      let before : List Y = map f (take n xs) in
      let behind : List Y = drop (n + 1) old in
      let l : n ≤ length xs = omega (arith, at.below) in
      rw (same, one, is) (
      ap (λ (ys : List Y). set ys n (f x)) (h ∙ ap (λ (r : List Y). before ++ r) o.1.rest)
      ∙ set_at before o.0 behind (f x) n (long n l)
      ∙ sym (append_assoc before (f x ∷ []) behind)
      ∙ ap (λ (r : List Y). r ++ behind) (sym (ap (map f) at.front ∙ map_push f (take n xs) x))
      )

  pub write_all : (i n : ℕ) (lines : List Y) → i ≡ n → n ≤ length xs → Written i lines → lines ≡ map f (take n xs) ++ drop (length (map f (take n xs))) old
  write_all i n lines all l h = h ∙ ap (λ (j : ℕ). map f (take j xs) ++ drop j old) all ∙ ap (λ (i : ℕ). map f (take n xs) ++ drop i old) (sym (long n l))
