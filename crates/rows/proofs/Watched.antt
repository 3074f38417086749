-- Watched hits are true.
use Rattle.std.proofs.Common.{◌≡◌, ℕ, Bool, true, false, cond, List, [], ◌∷◌, take, is_some, Some, None, Option, sym, refl, ap, ◌∙◌, subst}
use Rattle.std.specs.List.{AllByRecursion as Each}
use Rattle.std.proofs.lemmas.Bool.{both_ways, false≢true, false_from_ne_true, true_from_ne_false}
use Rattle.items.proofs.Alike.{same_by_third}
use Rattle.items.specs.Sameness.{Equivalence}
use Rattle.rows.specs.declared.entry.Entry.{Entry}
use Rattle.rows.specs.Row.{entry_of, without}
use Rattle.rows.specs.Questions.{by_position, listed, first_new, entered, left}
use Rattle.rows.specs.Promises.{Apart, form_at, OnlyNew, TellsNew, TrueWatch}
use Rattle.rows.proofs.Lists.{pairwise_take}
use Rattle.rows.proofs.Put.{all_out, all_in}
use Rattle.rows.proofs.Sameness.{Absent, Found, found, absent_from_listed, listed_from_absent, listed_alike, listed_put, absent_rest, apart_reverse}
use Rattle.rows.proofs.Fronts.{Change, unchanged, swapped, grown, ChangedBy}

module _ {Item : Type 0} (same : Item → Item → Bool) (laws : Equivalence same) where
  -- ---- the first item that is new

  -- What first_new tells on any lists.
  abbrev Told : List (Entry Item) → List (Entry Item) → Option Item → Type 0
  Told es others (Some x) = (form_at (entry_of same x es) ≡ Some x) × (listed same x others ≡ false)
  Told es others None = Each (λ e. listed same e.item others ≡ true) es

  told_behind : (e : Entry Item) (es others : List (Entry Item)) (o : Option Item) → listed same e.item others ≡ true → Told es others o → Told (e ∷ es) others o
  told_behind e es others (Some x) t k =
      let other : same e.item x ≡ false = false_from_ne_true (same e.item x) (λ u. both_ways (listed same x others) k.1 (listed_alike same laws e.item x others u t)) in
      (ap (λ b. form_at (cond b (Some e) (entry_of same x es))) other ∙ k.0, k.1)
  told_behind e es others None t k = (t, k)

  told : (es others : List (Entry Item)) → Told es others (first_new same es others)
  told [] others = tt
  told (e ∷ es) others = go (told es others) (listed same e.item others) refl
    where
      go : Told es others (first_new same es others) → (b : Bool) → listed same e.item others ≡ b →
          Told (e ∷ es) others (cond b (first_new same es others) (Some e.item))
      go behind true t = told_behind e es others (first_new same es others) t behind
      go behind false t = (ap (λ b. form_at (cond b (Some e) (entry_of same e.item es))) (laws.reflexive e.item), t)

  held_is_listed : (x : Item) (o : Option (Entry Item)) → form_at o ≡ Some x → is_some o ≡ true
  held_is_listed x (Some e) h = refl
  held_is_listed x None h = absurd cc

  -- At most one item, up to sameness, is in one list and not in the other.
  abbrev OneNew : List (Entry Item) → List (Entry Item) → Type 0
  OneNew es others = (x y : Item) → listed same x es ≡ true → listed same x others ≡ false → listed same y es ≡ true → listed same y others ≡ false → same x y ≡ true

  all_listed : (es others : List (Entry Item)) → Each (λ e. listed same e.item others ≡ true) es → (y : Item) →
      (o : Option (Entry Item)) (rest : List (Entry Item)) → Found same y o rest es → is_some o ≡ true → listed same y others ≡ true
  all_listed es others a y (Some e) rest f t = listed_alike same laws e.item y others f.0 (all_out (λ e. listed same e.item others ≡ true) f.1 a).0
  all_listed es others a y None rest f t = absurd (false≢true t)

  tells_new_at : (es others : List (Entry Item)) → OneNew es others → (o : Option Item) → Told es others o → TellsNew same es others o
  tells_new_at es others one (Some x) k = record {
    held = k.0;
    new = k.1;
    only = λ y inside out. one x y (held_is_listed x (entry_of same x es) k.0) k.1 inside out;
  }
  tells_new_at es others one None k = λ y inside. all_listed es others k y (entry_of same y es) (without same y es) (found same y es) inside

  tells_new : (es others : List (Entry Item)) → OneNew es others → TellsNew same es others (first_new same es others)
  tells_new es others one = tells_new_at es others one (first_new same es others) (told es others)

  -- ---- the change of the first k positions

  -- Only e is in one list and not in the other.
  only_by : (e : Entry Item) (es others : List (Entry Item)) → ((y : Item) → same e.item y ≡ false → Absent same y others → Absent same y es) →
      (y : Item) → listed same y es ≡ true → listed same y others ≡ false → same e.item y ≡ true
  only_by e es others away y inside out =
      true_from_ne_false (same e.item y) (λ t. both_ways (listed same y es) (listed_from_absent same y es (away y t (absent_from_listed same y others out))) inside)

  one_by : (e : Entry Item) (es others : List (Entry Item)) → ((y : Item) → same e.item y ≡ false → Absent same y others → Absent same y es) → OneNew es others
  one_by e es others away x y xin xout yin yout = same_by_third same laws e.item x y (only_by e es others away x xin xout) (only_by e es others away y yin yout)

  module _ {new : Entry Item} {before after : List (Entry Item)} where
    comes : Change new before after → (y : Item) → same new.item y ≡ false → Absent same y before → Absent same y after
    comes (unchanged e) y t a = subst (Absent same y) e a
    comes (swapped p q) y t a = all_in (λ e. same e.item y ≡ false) q t (all_out (λ e. same e.item y ≡ false) p a).1
    comes (grown q) y t a = all_in (λ e. same e.item y ≡ false) q t a

    one_goes : Change new before after → OneNew before after
    one_goes (unchanged e) = one_by new before after (λ y t a. subst (Absent same y) (sym e) a)
    one_goes (swapped {old} p q) = one_by old before after (λ y t a. all_in (λ e. same e.item y ≡ false) p t (all_out (λ e. same e.item y ≡ false) q a).1)
    one_goes (grown q) = one_by new before after (λ y t a. (all_out (λ e. same e.item y ≡ false) q a).1)

    -- Where z goes, new comes.
    comes_for : Change new before after → Apart same after → (z : Item) → listed same z before ≡ true → listed same z after ≡ false →
        (listed same new.item after ≡ true) × (listed same new.item before ≡ false)
    comes_for (unchanged e) apart z inside out = absurd (both_ways (listed same z after) out (ap (listed same z) (sym e) ∙ inside))
    comes_for (grown q) apart z inside out =
        absurd (both_ways (listed same z before) (listed_from_absent same z before (all_out (λ e. same e.item z ≡ false) q (absent_from_listed same z after out)).1) inside)
    comes_for (swapped {old} p q) apart z inside out =
        let away = all_out (λ e. same e.item z ≡ false) q (absent_from_listed same z after out) in
        let went : same old.item z ≡ true =
        only_by old before after (λ y t a. all_in (λ e. same e.item y ≡ false) p t (all_out (λ e. same e.item y ≡ false) q a).1) z inside out in
        let other : same old.item new.item ≡ false =
        false_from_ne_true (same old.item new.item) (λ t. both_ways (same new.item z) away.0 (same_by_third same laws old.item new.item z t went)) in (
          listed_put same laws q,
          listed_from_absent same new.item before
              (all_in (λ e. same e.item new.item ≡ false) p other (absent_rest same laws new.item (laws.reflexive new.item) q apart)),
        )

  -- ---- watched hits

  some_left : (es others : List (Entry Item)) (o : Option Item) → Told es others o → is_some o ≡ true →
      (z : Item) × (listed same z es ≡ true) × (listed same z others ≡ false)
  some_left es others (Some z) k t = (z, held_is_listed z (entry_of same z es) k.0, k.1)
  some_left es others None k t = absurd (false≢true t)

  some_entered : (es others : List (Entry Item)) (x : Item) → listed same x es ≡ true → listed same x others ≡ false → (o : Option Item) →
      TellsNew same es others o → is_some o ≡ true
  some_entered es others x inside out (Some y) k = refl
  some_entered es others x inside out None k = absurd (both_ways (listed same x others) out (k x inside))

  pub true_watch : (k : ℕ) (x : Item) (before after : List (Entry Item)) → Apart same after → ChangedBy same k x before after → TrueWatch same k x before after
  true_watch k x before after apart c =
      let new = c.0 in
      let was = take k (by_position before) in
      let is = take k (by_position after) in
      let entering : TellsNew same is was (entered same k before after) = tells_new is was (one_by new is was (comes c.2)) in
      let apart-front : Apart same is = pairwise_take _ k (by_position after) (apart_reverse same laws after apart) in
      record {
        entering = entering;
        leaving = tells_new was is (one_goes c.2);
        only_the_hit = λ y e.
            let y-new : OnlyNew same is was y = subst (TellsNew same is was) e entering in
            same_by_third same laws new.item y x (only_by new is was (comes c.2) y (held_is_listed y (entry_of same y is) y-new.held) y-new.new) c.1;
        by_another = λ t.
            let z = some_left was is (left same k before after) (told was is) t in
            let n = comes_for c.2 apart-front z.0 z.1 z.2 in
            some_entered is was new.item n.0 n.1 (entered same k before after) entering;
      }
