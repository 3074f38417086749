-- What a watched hit tells is what is watched, between the rows before and after it.
use Rattle.std.proofs.Common.{◌≡◌, ℕ, zero, suc, Bool, false, List, length, take, None, Option, Result, sym, ap, ◌∙◌, subst, arith}
use Rattle.items.specs.Sameness.{Equivalence}
use Rattle.rows.specs.declared.entry.Entry.{Entry}
use Rattle.rows.specs.Questions.{by_position, listed, watched}
use Rattle.finders.specs.declared.finder.Binding.{Binding}
use Rattle.finders.specs.Lookup.{lookup}
use Rattle.table.specs.Placed.{Placed, entries, step}
use Rattle.counters.specs.declared.counters.Counters.{Counters}
use Rattle.counters.specs.Meaning.{size, placed}
use Rattle.calls.specs.declared.refusal.Refusal.{Refusal}
use Rattle.calls.specs.Refusals.{limit, rank}
use Rattle.calls.specs.Conditions.{Ranked}
use Rattle.calls.specs.Calls.{entry_at, Accepted, is_foreign, HitEnds}
use Rattle.calls.specs.Watching.{last_item, form_of, entered_by, left_by, told}
use Rattle.calls.proofs.Refusing.{rank_passes}
use Rattle.calls.proofs.Watching.{told_step}
use Rattle.lists.proofs.Sorting.{sorted}
use Rattle.summary.specs.Meaning.{reading}
use Rattle.summary.proofs.Accepting.{not_foreign}

-- What is told, by the parts that are looked at.
pub told_by : {T : Type 0} (same : T → T → Bool) (given : Option T × Option T) (k : ℕ) (x form form' : T) (before after was is : List (Entry T)) (leads : Bool) (last : Option T) →
    given ≡ (entered_by leads (listed same x is) form, left_by same last is) → is ≡ take k (by_position after) →
    leads ≡ listed same x was → last ≡ last_item was → was ≡ take k (by_position before) → form ≡ form' → given ≡ told same k x form' before after
told_by same given k x form form' before after was is leads last e after_is l i before_is f = cc

module _ {T F : Type 0} (same : T → T → Bool) (laws : Equivalence same) (bindings : F → List (Binding T)) (room : F → ℕ) (lawful : F → Type 0) (s : Counters T) (f : F) (x : T) where
  pub told_hit : (k : ℕ) (place : Option ℕ) (s' : Counters T) (f' : F) → Ranked (size s) k → lookup same (bindings f) x ≡ place → is_foreign same bindings room lawful reading s f x ≡ false →
      Accepted same bindings room lawful reading s f x s' f' → told same k x (form_of (entry_at (placed s) place) x) (entries (placed s)) (entries (placed s')) ≡ watched same k (entries (placed s)) (entries (placed s'))
  told_hit zero place s' f' ranked found own did = let n = ranked.some in absurd (omega arith)
  told_hit (suc j) place s' f' ranked found own did =
      let row : placed s' ≡ step (size s) (placed s) x place = did.placed ∙ ap (step (size s) (placed s) x) found in
      subst (λ (r : List (Placed T)). told same (suc j) x (form_of (entry_at (placed s) place) x) (entries (placed s)) (entries r) ≡ watched same (suc j) (entries (placed s)) (entries r)) (sym row)
      (sym (told_step same laws x j (size s) ranked.at_most_all (placed s) (sorted s) (length (bindings f)) (room f) (lookup same (bindings f)) place (not_foreign same bindings room lawful s f x place found own)))

  -- Positions that may be asked for leave the other refusals, and others are refused first.
  pub ranked_ends : {Answer : Type 0} (k : ℕ) (answer : Answer) (r : Result Answer Refusal) (s' : Counters T) (f' : F) → Ranked (size s) k →
      HitEnds same bindings room lawful reading (limit s.total None) answer s f x r s' f' → HitEnds same bindings room lawful reading (rank (size s) k (limit s.total None)) answer s f x r s' f'
  ranked_ends k answer r s' f' ranked ends =
      subst (λ (o : Option Refusal). HitEnds same bindings room lawful reading o answer s f x r s' f') (sym (rank_passes (size s) k (limit s.total None) ranked)) ends
