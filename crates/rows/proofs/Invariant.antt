-- What ties a row to the hits behind it, and that a hit keeps it.
use Rattle.std.proofs.Common.{◌≡◌, ℕ, suc, ◌+◌, ◌<◌, ◌≤◌, Bool, true, false, List, ◌∷◌, length, sym, ap, ◌∙◌, inl, inr, arith}
use Rattle.std.specs.List.{AllByRecursion as Each}
use Rattle.std.proofs.ByRecursion.{All-weaker}
use Rattle.std.proofs.lemmas.Bool.{cases_Bool}
use Rattle.items.proofs.Alike.{flipped, differs, alike_second}
use Rattle.items.specs.Sameness.{Equivalence}
use Rattle.rows.specs.declared.entry.Entry.{Entry}
use Rattle.rows.specs.Row.{entry, raised, insert, hit}
use Rattle.rows.specs.Questions.{outside}
use Rattle.rows.specs.Promises.{Sorted, Apart, sum_of_counts}
use Rattle.rows.proofs.Lists.{all_both}
use Rattle.rows.proofs.Put.{Put, here, put_length, all_out, all_in, pairwise_out, put_sum, put_insert, sorted_insert}
use Rattle.rows.proofs.Sameness.{Absent, absent_rest, apart_out, apart_in}
use Rattle.rows.proofs.Outside.{outside_with_room, outside_full, outside_rises}
use Rattle.rows.proofs.Hits.{HitCase, moves, joins, takes_over, hit_case}

-- The hits of an entry's item, by a function h, lie between its two figures.
abbrev pub Covered : {Item : Type 0} → (Item → ℕ) → Entry Item → Type 0
Covered h e = (e.count ≤ h e.item + e.error) × (h e.item ≤ e.count)

-- h tells how often each item was hit, and n how many hits there were.
pub record Invariant {Item : Type 0} (same : Item → Item → Bool) (m : ℕ) (h : Item → ℕ) (n : ℕ) (row : List (Entry Item)) : Type 0 where
  pub sorted : Sorted row
  pub apart : Apart same row
  pub room : length row ≤ m
  pub error_below : Each (λ e. e.error < e.count) row
  pub adds_up : sum_of_counts row ≡ n
  pub covers : Each (Covered h) row
  pub bounded : Each (λ e. e.error ≤ outside m row) row
  pub left_out : (x : Item) → Absent same x row → h x ≤ outside m row
  pub alike : (x y : Item) → same x y ≡ true → h x ≡ h y

-- An amount where a test passes, and 0 where not.
abbrev pub amount_if : ℕ → Bool → ℕ
amount_if amount true = amount
amount_if amount false = 0

-- h, with an amount more for x.
abbrev pub plus : {Item : Type 0} → (Item → Item → Bool) → ℕ → (Item → ℕ) → Item → Item → ℕ
plus same amount h x y = h y + amount_if amount (same x y)

-- Each of the three cases of a hit, with any amount in place of 1.
module _ {Item : Type 0} (same : Item → Item → Bool) (laws : Equivalence same) (m : ℕ) (pos : 1 ≤ m) (amount : ℕ) where
  counted : (x y : Item) → same x y ≡ true → amount_if amount (same x y) ≡ amount
  counted x y t = ap (amount_if amount) t

  uncounted : (x y : Item) → same x y ≡ false → amount_if amount (same x y) ≡ 0
  uncounted x y t = ap (amount_if amount) t

  plus_alike : (h : Item → ℕ) (x : Item) → ((y z : Item) → same y z ≡ true → h y ≡ h z) → (y z : Item) → same y z ≡ true → plus same amount h x y ≡ plus same amount h x z
  plus_alike h x a y z t =
      let p : h y ≡ h z = a y z t in
      let q : amount_if amount (same x y) ≡ amount_if amount (same x z) = ap (amount_if amount) (alike_second same laws x y z t) in
      omega arith

  -- Entries of other items stay covered.
  covers_others : (h : Item → ℕ) (x : Item) (row : List (Entry Item)) → Absent same x row → Each (Covered h) row → Each (Covered (plus same amount h x)) row
  covers_others h x row away c =
      all_both (λ e. same e.item x ≡ false) (Covered h) (Covered (plus same amount h x))
      (λ e t k.
      let z : amount_if amount (same x e.item) ≡ 0 = uncounted x e.item (flipped same laws e.item x t) in
      (omega arith, omega arith)) row away c

  -- The entry e of x rises.
  pub invariant_raised : (h : Item → ℕ) (n : ℕ) (row rest : List (Entry Item)) (x : Item) (e : Entry Item) → same e.item x ≡ true →
      Put e rest row → Invariant same m h n row →
      Invariant same m (plus same amount h x) (n + amount) (insert (raised amount e) rest)
  invariant_raised h n row rest x e t p k =
      let up = raised amount e in
      let i : Put up rest (insert up rest) = put_insert up rest in
      let len : length (insert up rest) ≡ length row = put_length i ∙ sym (put_length p) in
      let owes = all_out (λ f. f.error < f.count) p k.error_below in
      let cov = all_out (Covered h) p k.covers in
      let bou = all_out (λ f. f.error ≤ outside m row) p k.bounded in
      let came : amount_if amount (same x e.item) ≡ amount = counted x e.item (laws.symmetric e.item x t) in
      let grows : outside m row ≤ outside m (insert up rest) = outside_rises m pos row rest e up k.sorted p (omega arith) in
      record {
        sorted = sorted_insert up rest (pairwise_out (λ a b. a.count ≤ b.count) p k.sorted);
        apart = apart_in same laws i (absent_rest same laws e.item (laws.reflexive e.item) p k.apart) (apart_out same p k.apart);
        room = omega (arith, len, k.room);
        error_below = all_in (λ f. f.error < f.count) i (omega arith) owes.1;
        adds_up = omega (arith, put_sum i, put_sum p, k.adds_up);
        covers = all_in (Covered (plus same amount h x)) i (omega arith, omega arith) (covers_others h x rest (absent_rest same laws x t p k.apart) cov.1);
        bounded = all_in (λ f. f.error ≤ outside m (insert up rest)) i (omega arith) (All-weaker _ _ (λ f b. omega arith) rest bou.1);
        left_out = λ y a.
            let gone = all_out (λ f. same f.item y ≡ false) i a in
            let z : amount_if amount (same x y) ≡ 0 = uncounted x y (differs same laws e.item x y t gone.0) in
            let b : h y ≤ outside m row = k.left_out y (all_in (λ f. same f.item y ≡ false) p gone.0 gone.1) in
            omega arith;
        alike = plus_alike h x k.alike;
      }

  -- x had no entry, and there is room.
  pub invariant_joined : (h : Item → ℕ) (n : ℕ) (row : List (Entry Item)) (x : Item) → 1 ≤ amount → Absent same x row → length row < m → Invariant same m h n row →
      Invariant same m (plus same amount h x) (n + amount) (insert (entry x amount 0) row)
  invariant_joined h n row x some away free k =
      let new = entry x amount 0 in
      let i : Put new row (insert new row) = put_insert new row in
      let len : length (insert new row) ≡ suc (length row) = put_length i in
      let none : outside m row ≡ 0 = outside_with_room m row free in
      let came : amount_if amount (same x x) ≡ amount = counted x x (laws.reflexive x) in
      let before : h x ≤ outside m row = k.left_out x away in
      record {
        sorted = sorted_insert new row k.sorted;
        apart = apart_in same laws i away k.apart;
        room = omega arith;
        error_below = all_in (λ f. f.error < f.count) i (omega arith) k.error_below;
        adds_up = omega (arith, put_sum i, k.adds_up);
        covers = all_in (Covered (plus same amount h x)) i (omega arith, omega arith) (covers_others h x row away k.covers);
        bounded = all_in (λ f. f.error ≤ outside m (insert new row)) i (omega arith) (All-weaker _ _ (λ f b. omega arith) row k.bounded);
        left_out = λ y a.
            let gone = all_out (λ f. same f.item y ≡ false) i a in
            let z : amount_if amount (same x y) ≡ 0 = uncounted x y gone.0 in
            let b : h y ≤ outside m row = k.left_out y gone.1 in
            omega arith;
        alike = plus_alike h x k.alike;
      }

  -- x had no entry, and takes over the first.
  pub invariant_taken_over : (h : Item → ℕ) (n : ℕ) (e : Entry Item) (rest : List (Entry Item)) (x : Item) → 1 ≤ amount → Absent same x (e ∷ rest) →
      m ≤ length (e ∷ rest) → Invariant same m h n (e ∷ rest) →
      Invariant same m (plus same amount h x) (n + amount) (insert (entry x (e.count + amount) e.count) rest)
  invariant_taken_over h n e rest x some away full k =
      let row = e ∷ rest in
      let new = entry x (e.count + amount) e.count in
      let i : Put new rest (insert new rest) = put_insert new rest in
      let len : length (insert new rest) ≡ suc (length rest) = put_length i in
      let out : outside m row ≡ e.count = outside_full m row full in
      let came : amount_if amount (same x x) ≡ amount = counted x x (laws.reflexive x) in
      let before : h x ≤ outside m row = k.left_out x away in
      let grows : outside m row ≤ outside m (insert new rest) = outside_rises m pos row rest e new k.sorted here (omega arith) in
      record {
        sorted = sorted_insert new rest k.sorted.1;
        apart = apart_in same laws i away.1 k.apart.1;
        room = omega (arith, len, k.room);
        error_below = all_in (λ f. f.error < f.count) i (omega arith) k.error_below.1;
        adds_up = omega (arith, put_sum i, k.adds_up);
        covers = all_in (Covered (plus same amount h x)) i (omega arith, omega arith) (covers_others h x rest away.1 k.covers.1);
        bounded = all_in (λ f. f.error ≤ outside m (insert new rest)) i (omega arith) (All-weaker _ _ (λ f b. omega arith) rest k.bounded.1);
        left_out = λ y a.
            let gone = all_out (λ f. same f.item y ≡ false) i a in
            let z : amount_if amount (same x y) ≡ 0 = uncounted x y gone.0 in
            let b : h y ≤ outside m row =
            elim (cases_Bool (same e.item y)) [
              | inl t ↦ let eq : h e.item ≡ h y = k.alike e.item y t in let c : h e.item ≤ e.count = k.covers.0.1 in omega arith
              | inr t ↦ k.left_out y (t, gone.1)
            ] in
            omega arith;
        alike = plus_alike h x k.alike;
      }

-- A hit adds 1.
module _ {Item : Type 0} (same : Item → Item → Bool) (laws : Equivalence same) (m : ℕ) (pos : 1 ≤ m) (h : Item → ℕ) (n : ℕ) (x : Item) where
  case_keeps : {row after : List (Entry Item)} → HitCase same m x row after → Invariant same m h n row → Invariant same m (plus same 1 h x) (n + 1) after
  case_keeps (moves {row} {rest} e t p) k = invariant_raised same laws m pos 1 h n row rest x e t p k
  case_keeps (joins {row} away free) k = invariant_joined same laws m pos 1 h n row x (omega arith) away free k
  case_keeps (takes_over {first} {rest} away full) k = invariant_taken_over same laws m pos 1 h n first rest x (omega arith) away full k

  pub hit_keeps : (row : List (Entry Item)) → Invariant same m h n row → Invariant same m (plus same 1 h x) (n + 1) (hit same m row x)
  hit_keeps row k = case_keeps (hit_case same m pos x row) k
