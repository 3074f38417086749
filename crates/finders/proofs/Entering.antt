-- What the bindings at the front of the slots stand for after one is entered, and after one has left.
use Rattle.std.proofs.Common.{◌≡◌, ℕ, ◌+◌, ◌<◌, ◌≤◌, Bool, true, List, [], ◌∷◌, ◌++◌, length, get_or, take, set, Ok, subst, sym, refl, ap, ◌∙◌, arith, length-take}
use Rattle.std.proofs.lemmas.List.{get_or-take}
use Rattle.items.specs.Sameness.{Equivalence}
use Rattle.finders.specs.declared.finder.Binding.{Binding}
use Rattle.finders.specs.Lookup.{lookup, Apart}
use Rattle.finders.specs.Refusals.{unless_refused, enter_refusal}
use Rattle.finders.specs.Search.{FoundAt}
use Rattle.finders.specs.Calls.{Entered, Left}
use Rattle.items.proofs.Put.{Put, put_length}
use Rattle.finders.proofs.Bindings.{lacking, lookup_out, apart_out, apart_in, entered, left}
use Rattle.finders.proofs.Refusing.{admitted}
use Rattle.finders.proofs.Slots.{Moved, stays, moves, Closed, put_push, closed}

module _ {Item : Type 0} (same : Item → Item → Bool) (laws : Equivalence same) where
  -- Moving one binding changes nothing of what the list stands for.
  apart_moved : {bs cs : List (Binding Item)} → Moved bs cs → Apart same bs → Apart same cs
  apart_moved stays apart = apart
  apart_moved (moves from to) apart = let parts = apart_out same laws from apart in apart_in same laws to parts.0 parts.1

  lookup_moved : {bs cs : List (Binding Item)} → Moved bs cs → Apart same bs → (x : Item) → lookup same cs x ≡ lookup same bs x
  lookup_moved stays apart x = refl
  lookup_moved (moves from to) apart x = lookup_out same laws to (apart_moved (moves from to) apart) x ∙ sym (lookup_out same laws from apart x)

  length_moved : {bs cs : List (Binding Item)} → Moved bs cs → length cs ≡ length bs
  length_moved stays = refl
  length_moved (moves from to) = put_length to ∙ sym (put_length from)

  left_moved : {b : Binding Item} {before rest after : List (Binding Item)} → Put b rest before → Moved rest after → Apart same before → (x : Item) → same x b.item ≡ true → Left same before x after
  left_moved out moved apart x found =
      let gone = left same laws out apart x found in
      record {
        places = λ y. lookup_moved moved (apart_out same laws out apart).1 y ∙ gone.places y;
        number = ap (λ n. n + 1) (length_moved moved) ∙ gone.number;
      }

  -- A binding that is not refused stands behind the others now.
  module _ (before after : List (Binding Item)) (room : ℕ) (b : Binding Item) (behind : after ≡ before ++ b ∷ []) (ok : Ok tt ≡ unless_refused (enter_refusal same before room b.item)) (apart : Apart same before) where
    pushed : Put b before after
    pushed = rw behind (put_push before b)

    pub apart_entered : Apart same after
    apart_entered = apart_in same laws pushed (lacking same before b.item (admitted (lookup same before b.item) (length before) room ok).0) apart

    pub entered_front : Entered same before b.item b.place after
    entered_front = entered same laws pushed apart_entered

  -- Of the slots at the front, the last was written over the one at i.
  module _ (slots slots' : List (Binding Item)) (held held' i : ℕ) (x : Item) (wrote : (d : Binding Item) → slots' ≡ set slots i (get_or slots held' d)) (less : held' + 1 ≡ held) (fits : held ≤ length slots) (at : FoundAt same (take held slots) x i) (apart : Apart same (take held slots)) where
    d : Binding Item
    d = record { item = x; place = 0 }

    inside : i < held
    inside = omega (arith, at.inside, length-take held slots)

    gone : Closed (get_or slots i d) (take held slots) (take held' slots')
    gone =
        subst (λ zs. Closed (get_or slots i d) (take held slots) (take held' zs)) (sym (wrote d))
        (subst (λ n. Closed (get_or slots i d) (take n slots) (take held' (set slots i (get_or slots held' d)))) less (closed slots held' i d (omega (arith, inside)) (omega (arith, inside))))

    pub apart_left : Apart same (take held' slots')
    apart_left = apart_moved gone.moved (apart_out same laws gone.out apart).1

    pub left_front : Left same (take held slots) x (take held' slots')
    left_front = left_moved gone.out gone.moved apart x (ap (λ (b : Binding Item). same x b.item) (sym (get_or-take held slots i d inside)) ∙ at.hits d)
