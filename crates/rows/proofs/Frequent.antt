-- Frequent lists are true.
use Rattle.std.proofs.Common.{◌≡◌, ℕ, ◌*◌, ◌<◌, ◌≤◌, Bool, true, false, leb, List, [], ◌∷◌, length, take, drop, Some, None, filter, Option, sym, refl, ap, subst, lt_of_mul-lt-mul_right, arith}
use Rattle.std.specs.List.{AllByRecursion as Each}
use Rattle.std.proofs.ByRecursion.{All-weaker, all_kept_by, kept_by_passes}
use Rattle.std.proofs.lemmas.Bool.{cond_both, leb-true, leb-false, le-leb, lt-leb, ltb-true, lt-ltb, both_ways, true_from_ne_false}
use Rattle.rows.specs.declared.entry.Entry.{Entry}
use Rattle.rows.specs.Row.{entry_of, without, hits_of}
use Rattle.rows.specs.Questions.{by_position, outside, lower, listed, frequent, sure, complete}
use Rattle.rows.specs.Promises.{TrueFrequentList}
use Rattle.rows.proofs.Lists.{all_from_reverse, all_from_kept}
use Rattle.rows.proofs.Put.{all_out}
use Rattle.rows.proofs.Sameness.{Absent, Found, found, absent_from_listed}
use Rattle.rows.proofs.Outside.{outside_share}
use Rattle.rows.proofs.Positions.{HighestFirst, positions_fall, covered_positions}
use Rattle.rows.proofs.Invariant.{Invariant, Covered}

-- ---- which positions are listed

module _ {Item : Type 0} (t : ℕ) where
  abbrev reaches : Entry Item → Bool
  reaches e = leb t e.count

  pub none_reach : (es : List (Entry Item)) → Each (λ e. e.count < t) es → filter reaches es ≡ []
  none_reach [] a = refl
  none_reach (e ∷ es) a = rw (lt-leb t e.count a.0) (none_reach es a.1)

  -- Lines are the first of some entries, up to the last that reaches t.
  abbrev UpToLast : List (Entry Item) → List (Entry Item) → Type 0
  UpToLast es lines = (lines ≡ take (length lines) es) × Each (λ e. e.count < t) (drop (length lines) es)

  -- Of entries in falling order, those that reach t are the first ones.
  reaching_first : (es : List (Entry Item)) → HighestFirst es → UpToLast es (filter reaches es)
  reaching_first [] f = (refl, tt)
  reaching_first (e ∷ es) f =
      let behind = reaching_first es f.1 in
      cond_both (reaches e) (e ∷ filter reaches es) (filter reaches es) (UpToLast (e ∷ es))
      (λ _. (ap (λ lines. e ∷ lines) behind.0, behind.1))
      (λ fails.
      let low : e.count < t = leb-false t e.count fails in
      let below : Each (λ e. e.count < t) es = All-weaker _ _ (λ g l. omega arith) es f.0 in
      subst (UpToLast (e ∷ es)) (sym (none_reach es below)) (refl, (low, below)))

-- ---- what the marks mean

module _ {Item : Type 0} {same : Item → Item → Bool} {m n : ℕ} {h : Item → ℕ} {row : List (Entry Item)} (k : Invariant same m h n row) (t : ℕ) where
  sure_lines : Each (λ e. sure t e ≡ true → t ≤ h e.item) (frequent t row)
  sure_lines =
      all_kept_by (λ e. leb t e.count) (λ e. sure t e ≡ true → t ≤ h e.item) (by_position row)
      (All-weaker (Covered h) _ (λ e c s. omega (arith, leb-true t (lower e) s)) (by_position row) (covered_positions k))

  -- An item without a line in a complete list was hit less than t times.
  unlisted_found : (x : Item) → outside m row < t → Absent same x (frequent t row) → (o : Option (Entry Item)) → Found same x o (without same x row) row → h x < t
  unlisted_found x out away (Some e) f =
      let eq : h e.item ≡ h x = k.alike e.item x f.0 in
      let c = all_out (Covered h) f.1 k.covers in
      let no_line = all_out (λ e. leb t e.count ≡ true → same e.item x ≡ false) f.1
      (all_from_reverse (λ e. leb t e.count ≡ true → same e.item x ≡ false) row
      (all_from_kept (λ e. leb t e.count) (λ e. same e.item x ≡ false) (by_position row) away)) in
      let low : ¬ (t ≤ e.count) = λ l. both_ways (same e.item x) (no_line.0 (le-leb t e.count l)) f.0 in
      omega arith
  unlisted_found x out away None f = omega (arith, k.left_out x f)

  omits_none : complete t m row ≡ true → (x : Item) → t ≤ h x → listed same x (frequent t row) ≡ true
  omits_none c x l =
      true_from_ne_false (listed same x (frequent t row)) (λ fails.
      absurd (omega (arith, unlisted_found x (ltb-true (outside m row) t c) (absent_from_listed same x (frequent t row) fails) (entry_of same x row) (found same x row))))

  complete_when : n < t * m → complete t m row ≡ true
  complete_when l = lt-ltb (outside m row) t (lt_of_mul-lt-mul_right m (omega (arith, outside_share m row k.room k.sorted, k.adds_up)))

pub true_frequent_list : {Item : Type 0} {same : Item → Item → Bool} {m : ℕ} {hits : List Item} {row : List (Entry Item)} →
    Invariant same m (hits_of same hits) (length hits) row → (t : ℕ) →
    TrueFrequentList same m t hits row (frequent t row)
true_frequent_list {m} {row} k t =
    let first = reaching_first t (by_position row) (positions_fall row k.sorted) in
    record {
      first_positions = first.0;
      reaching = All-weaker _ _ (λ e l. leb-true t e.count l) (frequent t row) (kept_by_passes (λ e. leb t e.count) (by_position row));
      no_more = first.1;
      sure_exactly = λ e. record { means = leb-true t (lower e); given = le-leb t (lower e) };
      sure_lines = sure_lines k t;
      complete_exactly = record { means = ltb-true (outside m row) t; given = lt-ltb (outside m row) t };
      omits_none = omits_none k t;
      complete_when = complete_when k t;
    }
