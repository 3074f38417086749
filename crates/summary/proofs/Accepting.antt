-- What is known of an admitted hit.
use Rattle.std.proofs.Common.{◌≡◌, ℕ, Bool, false, List, length, Option, sym, ap, ◌∙◌}
use Rattle.finders.specs.declared.finder.Binding.{Binding}
use Rattle.finders.specs.Lookup.{lookup}
use Rattle.counters.specs.declared.counters.Counters.{Counters}
use Rattle.counters.specs.Meaning.{size, placed}
use Rattle.calls.specs.Foreign.{foreign_hit}
use Rattle.calls.specs.Calls.{is_foreign}
use Rattle.summary.specs.Meaning.{reading}

module _ {T F : Type 0} (same : T → T → Bool) (bindings : F → List (Binding T)) (room : F → ℕ) (lawful : F → Type 0) where
  module _ (s : Counters T) (f : F) (x : T) where
    -- What is known of the hit where the place found is known.
    pub not_foreign : (o : Option ℕ) → lookup same (bindings f) x ≡ o → is_foreign same bindings room lawful reading s f x ≡ false →
        foreign_hit same (size s) (length (placed s)) (placed s) (length (bindings f)) (room f) (lookup same (bindings f)) x o ≡ false
    not_foreign o is own = ap (foreign_hit same (size s) (length (placed s)) (placed s) (length (bindings f)) (room f) (lookup same (bindings f)) x) (sym is) ∙ own
