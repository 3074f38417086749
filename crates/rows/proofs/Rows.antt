-- After any hits the row is sound, and its brackets are true.
use Rattle.std.proofs.Common.{◌≡◌, ℕ, ◌+◌, ◌-◌, ◌*◌, ◌≤◌, Bool, true, false, List, [], ◌∷◌, ◌++◌, length, Some, None, fold, Option, refl, subst₂, mul-le-mul_right, arith}
use mathlib.Core.Path.{fun_ext}
use Rattle.std.proofs.lemmas.List.Sums.{fold_push}
use Rattle.items.specs.Sameness.{Equivalence}
use Rattle.rows.specs.declared.entry.Entry.{Entry}
use Rattle.rows.specs.Row.{hit, entry_of, without, row_after, one_if, hits_of}
use Rattle.rows.specs.Questions.{outside, bracket_at, bracket}
use Rattle.rows.specs.Promises.{SoundRow, TrueBracket}
use Rattle.rows.proofs.Put.{all_out}
use Rattle.rows.proofs.Sameness.{Found, found}
use Rattle.rows.proofs.Outside.{outside_share}
use Rattle.rows.proofs.Invariant.{Invariant, Covered, amount_if, plus, hit_keeps}

pub row_after_one_more : {Item : Type 0} (same : Item → Item → Bool) (m : ℕ) (hits : List Item) (x : Item) →
    row_after same m (hits ++ x ∷ []) ≡ hit same m (row_after same m hits) x
row_after_one_more same m hits x = fold_push (hit same m) [] hits x

one_is_amount : (b : Bool) → amount_if 1 b ≡ one_if b
one_is_amount true = refl
one_is_amount false = refl

module _ {Item : Type 0} (same : Item → Item → Bool) (laws : Equivalence same) (m : ℕ) (pos : 1 ≤ m) where
  invariant_at_first : Invariant same m (λ _. 0) 0 []
  invariant_at_first = record {
    sorted = tt;
    apart = tt;
    room = omega arith;
    error_below = tt;
    adds_up = refl;
    covers = tt;
    bounded = tt;
    left_out = λ x a. omega arith;
    alike = λ x y t. refl;
  }

  invariant_from : (hits : List Item) (h all : Item → ℕ) (n total : ℕ) (row : List (Entry Item)) → Invariant same m h n row →
      ((y : Item) → h y + hits_of same hits y ≡ all y) → n + length hits ≡ total → Invariant same m all total (fold (hit same m) row hits)
  invariant_from [] h all n total row k e l = subst₂ (λ f i. Invariant same m f i row) (fun_ext (λ y. omega (arith, e y))) (omega arith) k
  invariant_from (x ∷ hits) h all n total row k e l =
      invariant_from hits (plus same 1 h x) all (n + 1) total (hit same m row x) (hit_keeps same laws m pos h n x row k)
      (λ y. omega (arith, e y, one_is_amount (same x y))) (omega arith)

  pub invariant_after : (hits : List Item) → Invariant same m (hits_of same hits) (length hits) (row_after same m hits)
  invariant_after hits = invariant_from hits (λ _. 0) (hits_of same hits) 0 (length hits) [] invariant_at_first (λ y. omega arith) (omega arith)

pub sound_row : {Item : Type 0} {same : Item → Item → Bool} {m n : ℕ} {h : Item → ℕ} {row : List (Entry Item)} → Invariant same m h n row → SoundRow same m n row
sound_row k = record { sorted = k.sorted; apart = k.apart; room = k.room; error_below = k.error_below; adds_up = k.adds_up }

module _ {Item : Type 0} {same : Item → Item → Bool} {m n : ℕ} {h : Item → ℕ} {row : List (Entry Item)} (k : Invariant same m h n row) (x : Item) where
  at_least : (o : Option (Entry Item)) → Found same x o (without same x row) row → (bracket_at (outside m row) o).0 ≤ h x
  at_least (Some e) f =
      let eq : h e.item ≡ h x = k.alike e.item x f.0 in
      let c = all_out (Covered h) f.1 k.covers in
      omega arith
  at_least None f = omega arith

  at_most : (o : Option (Entry Item)) → Found same x o (without same x row) row → h x ≤ (bracket_at (outside m row) o).1
  at_most (Some e) f =
      let eq : h e.item ≡ h x = k.alike e.item x f.0 in
      let c = all_out (Covered h) f.1 k.covers in
      omega arith
  at_most None f = k.left_out x f

  width : (o : Option (Entry Item)) → Found same x o (without same x row) row → (bracket_at (outside m row) o).1 - (bracket_at (outside m row) o).0 ≤ outside m row
  width (Some e) f =
      let b = all_out (λ e. e.error ≤ outside m row) f.1 k.bounded in
      omega arith
  width None f = omega arith

  -- The gap of a bracket is at most the outside figure, so m times that fits into all counts.
  pub narrow : ((bracket same m row x).1 - (bracket same m row x).0) * m ≤ n
  narrow = omega (arith, mul-le-mul_right m (width (entry_of same x row) (found same x row)), outside_share m row k.room k.sorted, k.adds_up)

  pub lower_holds : (bracket same m row x).0 ≤ h x
  lower_holds = at_least (entry_of same x row) (found same x row)

  pub upper_holds : h x ≤ (bracket same m row x).1
  upper_holds = at_most (entry_of same x row) (found same x row)

pub true_bracket : {Item : Type 0} {same : Item → Item → Bool} {m : ℕ} {hits : List Item} {row : List (Entry Item)} →
    Invariant same m (hits_of same hits) (length hits) row → (x : Item) →
    TrueBracket same m hits x (bracket same m row x)
true_bracket k x = record { at_least = lower_holds k x; at_most = upper_holds k x; narrow = narrow k x }
