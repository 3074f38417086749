-- What looking an item up in a row tells, and what an equivalence gives of rows.
use Rattle.std.proofs.Common.{◌≡◌, Bool, true, false, cond, List, [], ◌∷◌, reverse, is_some, Some, None, Option, sym, refl, ◌∙◌, ◌||◌}
use Rattle.std.specs.List.{AllByRecursion as Each}
use Rattle.std.proofs.ByRecursion.{All-weaker}
use Rattle.std.proofs.lemmas.Bool.{both_ways, true≢false, true_from_ne_false}
use Rattle.items.proofs.Alike.{flipped, differs, alike_second}
use Rattle.items.specs.Sameness.{Equivalence}
use Rattle.rows.specs.declared.entry.Entry.{Entry}
use Rattle.rows.specs.Row.{entry_of, without}
use Rattle.rows.specs.Questions.{listed}
use Rattle.rows.specs.Promises.{Apart}
use Rattle.rows.proofs.Lists.{pairwise_weaker, pairwise_reverse}
use Rattle.rows.proofs.Put.{Put, here, there, all_out, others_out, pairwise_in, pairwise_out}

-- No entry holds an item the same as x.
abbrev pub Absent : {Item : Type 0} → (Item → Item → Bool) → Item → List (Entry Item) → Type 0
Absent same x row = Each (λ e. same e.item x ≡ false) row

-- What looking x up tells: its entry, put into the rest, is the row; or it has none.
abbrev pub Found : {Item : Type 0} → (Item → Item → Bool) → Item → Option (Entry Item) → List (Entry Item) → List (Entry Item) → Type 0
Found same x (Some e) rest row = (same e.item x ≡ true) × Put e rest row
Found same x None rest row = Absent same x row

pub some_first : {X : Type 0} (b : Bool) (x : X) (o : Option X) → is_some (cond b (Some x) o) ≡ b || is_some o
some_first true x o = refl
some_first false x o = refl

module _ {Item : Type 0} (same : Item → Item → Bool) where
  found_behind : (x : Item) (f : Entry Item) (o : Option (Entry Item)) (rest row : List (Entry Item)) → same f.item x ≡ false →
      Found same x o rest row → Found same x o (f ∷ rest) (f ∷ row)
  found_behind x f (Some e) rest row t h = (h.0, there h.1)
  found_behind x f None rest row t h = (t, h)

  pub found : (x : Item) (row : List (Entry Item)) → Found same x (entry_of same x row) (without same x row) row
  found x [] = tt
  found x (f ∷ row) = go (found x row) (same f.item x) refl
    where
      go : Found same x (entry_of same x row) (without same x row) row → (b : Bool) → same f.item x ≡ b →
          Found same x (cond b (Some f) (entry_of same x row)) (cond b row (f ∷ without same x row)) (f ∷ row)
      go ih true t = (t, here)
      go ih false t = found_behind x f (entry_of same x row) (without same x row) row t ih

  absent_found : (x : Item) (o : Option (Entry Item)) (rest row : List (Entry Item)) → Found same x o rest row → is_some o ≡ false → Absent same x row
  absent_found x (Some e) rest row f t = absurd (true≢false t)
  absent_found x None rest row f t = f

  pub absent_from_listed : (x : Item) (es : List (Entry Item)) → listed same x es ≡ false → Absent same x es
  absent_from_listed x es t = absent_found x (entry_of same x es) (without same x es) es (found x es) t

  not_found : (x : Item) (o : Option (Entry Item)) (rest row : List (Entry Item)) → Found same x o rest row → Absent same x row → is_some o ≡ false
  not_found x (Some e) rest row f a = absurd (both_ways (same e.item x) (all_out (λ g. same g.item x ≡ false) f.1 a).0 f.0)
  not_found x None rest row f a = refl

  pub listed_from_absent : (x : Item) (es : List (Entry Item)) → Absent same x es → listed same x es ≡ false
  listed_from_absent x es a = not_found x (entry_of same x es) (without same x es) es (found x es) a

  pub apart_out : {e : Entry Item} {rest row : List (Entry Item)} → Put e rest row → Apart same row → Apart same rest
  apart_out p a = pairwise_out (λ f g. same f.item g.item ≡ false) p a

  module _ (laws : Equivalence same) where
    pub absent_alike : (x y : Item) (es : List (Entry Item)) → same x y ≡ true → Absent same x es → Absent same y es
    absent_alike x y es t a = All-weaker (λ e. same e.item x ≡ false) (λ e. same e.item y ≡ false) (λ e u. sym (alike_second same laws e.item x y t) ∙ u) es a

    pub listed_alike : (x y : Item) (es : List (Entry Item)) → same x y ≡ true → listed same x es ≡ true → listed same y es ≡ true
    listed_alike x y es t l =
        true_from_ne_false (listed same y es) (λ u. both_ways (listed same x es)
        (listed_from_absent x es (absent_alike y x es (laws.symmetric x y t) (absent_from_listed y es u))) l)

    pub listed_put : {e : Entry Item} {rest es : List (Entry Item)} → Put e rest es → listed same e.item es ≡ true
    listed_put {e} {rest} {es} p =
        true_from_ne_false (listed same e.item es) (λ u. both_ways (same e.item e.item)
        (all_out (λ f. same f.item e.item ≡ false) p (absent_from_listed e.item es u)).0 (laws.reflexive e.item))

    -- In a row of items that are not the same, the rest has no entry of the item that was taken out;
    pub absent_rest : {e : Entry Item} {rest row : List (Entry Item)} (x : Item) → same e.item x ≡ true → Put e rest row → Apart same row → Absent same x rest
    absent_rest {e} {rest} x t p a =
        All-weaker (λ f. same e.item f.item ≡ false) (λ f. same f.item x ≡ false) (λ f u. flipped same laws x f.item (differs same laws e.item x f.item t u)) rest
        (others_out (λ f g. same f.item g.item ≡ false) (λ f g. flipped same laws f.item g.item) p a)

    -- and an entry of an item that the rest has no entry of may be put in anywhere.
    pub apart_in : {e : Entry Item} {rest row : List (Entry Item)} → Put e rest row → Absent same e.item rest → Apart same rest → Apart same row
    apart_in {e} {rest} p away a =
        pairwise_in (λ f g. same f.item g.item ≡ false) (λ f g. flipped same laws f.item g.item) p
        (All-weaker (λ f. same f.item e.item ≡ false) (λ f. same e.item f.item ≡ false) (λ f u. flipped same laws f.item e.item u) rest away) a

    pub apart_reverse : (row : List (Entry Item)) → Apart same row → Apart same (reverse row)
    apart_reverse row a =
        pairwise_weaker (λ f g. same g.item f.item ≡ false) (λ f g. same f.item g.item ≡ false) (λ f g. flipped same laws g.item f.item) (reverse row)
        (pairwise_reverse (λ f g. same f.item g.item ≡ false) row a)
