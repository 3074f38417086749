-- A call answers what was looked at, and what was then written.
use Rattle.std.proofs.Common.{◌≡◌, ℕ, ◌<◌, Bool, true, false, List, Some, None, Ok, Option, Result, sym, refl, ap, ◌∙◌, subst}
use Rattle.finders.specs.declared.finder.Binding.{Binding}
use Rattle.finders.specs.Lookup.{lookup}
use Rattle.table.specs.Placed.{Placed}
use Rattle.counters.specs.declared.counters.Counters.{Counters}
use Rattle.calls.specs.declared.refusal.Refusal.{Refusal}
use Rattle.calls.specs.Refusals.{limit, if_foreign, Unless}
use Rattle.calls.specs.Foreign.{foreign_place}
use Rattle.calls.specs.Calls.{Unchanged, Accepted, is_foreign, HitEnds}
use Rattle.calls.proofs.Refusing.{ok_is_not_err, limit_means}
use Rattle.summary.specs.Meaning.{reading}
use Rattle.summary.specs.Steps.{Admitted, Counted}

-- The place p that was found, told whether it is foreign.
module _ {T : Type 0} (same : T → T → Bool) (u : ℕ) (row : List (Placed T)) (x : T) (p : ℕ) (found : Option ℕ) (is : Some p ≡ found) where
  pub own_found : foreign_place same u row x (Some p) ≡ false →
      Unless (if_foreign (foreign_place same u row x found)) (Ok (Some p)) (Unit {0}) (◌≡◌ {A = Result (Option ℕ) Refusal} (Ok (Some p)) (Ok found))
  own_found own =
      subst (λ (o : Option ℕ). Unless (if_foreign (foreign_place same u row x o)) (Ok (Some p)) (Unit {0}) (◌≡◌ {A = Result (Option ℕ) Refusal} (Ok (Some p)) (Ok o))) is
      (subst (λ (b : Bool). Unless (if_foreign b) (Ok (Some p)) (Unit {0}) (◌≡◌ {A = Result (Option ℕ) Refusal} (Ok (Some p)) (Ok (Some p)))) (sym own) refl)

module _ {T F : Type 0} (same : T → T → Bool) (bindings : F → List (Binding T)) (room : F → ℕ) (lawful : F → Type 0) (s : Counters T) (f : F) (x : T) where
  module _ {Answer : Type 0} (answer : Answer) (a : Result (Option ℕ) Refusal) (admitted : Admitted same bindings room lawful s f x a) where
    pub hit_accepted : (place : Option ℕ) (given : Answer) (s' : Counters T) (f' : F) → a ≡ Ok place → Counted same bindings room lawful s f x place s' f' →
        (lookup same (bindings f) x ≡ place → is_foreign same bindings room lawful reading s f x ≡ false → Accepted same bindings room lawful reading s f x s' f' → given ≡ answer) →
        HitEnds same bindings room lawful reading (limit s.total None) answer s f x (Ok given) s' f'
    hit_accepted place given s' f' is counted answers = go (limit s.total None) refl admitted
      where
        at : lawful f → s.total < 4294967295 → (b : Bool) → is_foreign same bindings room lawful reading s f x ≡ b → Unless (if_foreign b) a (Unit {0}) (a ≡ Ok (lookup same (bindings f) x)) →
            Unless (if_foreign b) (Ok given) (Unchanged s f s' f') ((◌≡◌ {A = Result Answer Refusal} (Ok given) (Ok answer)) × Accepted same bindings room lawful reading s f x s' f')
        at law below true own u = absurd (ok_is_not_err (sym is ∙ u.0))
        at law below false own u = let found : lookup same (bindings f) x ≡ place = cc in let did = counted law below found own in (ap Ok (answers found own did), did)

        go : (o : Option Refusal) → limit s.total None ≡ o → Unless o a (Unit {0}) (lawful f → Unless (if_foreign (is_foreign same bindings room lawful reading s f x)) a (Unit {0}) (a ≡ Ok (lookup same (bindings f) x))) →
            Unless o (Ok given) (Unchanged s f s' f') (lawful f → Unless (if_foreign (is_foreign same bindings room lawful reading s f x)) (Ok given) (Unchanged s f s' f') ((◌≡◌ {A = Result Answer Refusal} (Ok given) (Ok answer)) × Accepted same bindings room lawful reading s f x s' f'))
        go (Some other) e u = absurd (ok_is_not_err (sym is ∙ u.0))
        go None e u = λ law. at law (limit_means s.total e) (is_foreign same bindings room lawful reading s f x) refl (u law)
