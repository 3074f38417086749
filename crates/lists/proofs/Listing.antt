-- The entries that reach a threshold are the first ones by position.
use Rattle.std.proofs.Common.{◌≡◌, ℕ, suc, ◌+◌, ◌<◌, ◌≤◌, Bool, leb, List, [], ◌∷◌, map, length, take, filter, sym, refl, ap, ◌∙◌, inl, inr, arith}
use Rattle.std.specs.List.{prefix_len}
use Rattle.std.proofs.lemmas.List.{length-take-le, length-map}
use Rattle.std.proofs.ByRecursion.{All-weaker}
use Rattle.std.proofs.lemmas.Bool.{cases_Bool, cond-true, cond-false, leb-false}
use Rattle.rows.proofs.Frequent.{none_reach}
use Rattle.rows.specs.declared.entry.Entry.{Entry}
use Rattle.rows.proofs.Positions.{HighestFirst}

module _ {T : Type 0} (t : ℕ) where
  abbrev pub reached : Entry T → Bool
  reached e = leb t e.count

  abbrev reaching : List (Entry T) → List (Entry T)
  reaching es = filter reached es

  -- Behind the first entry that does not reach the threshold, none does.
  pub reaching_first : (es : List (Entry T)) → HighestFirst es → reaching es ≡ take (prefix_len reached es) es
  reaching_first [] falls = refl
  reaching_first (e ∷ es) falls = elim (cases_Bool (leb t e.count)) [
    | inl passes ↦
        let one : 1 + prefix_len reached es ≡ suc (prefix_len reached es) = omega arith in
        cond-true (leb t e.count) (e ∷ reaching es) (reaching es) passes ∙ ap (λ (r : List (Entry T)). e ∷ r) (reaching_first es falls.1)
        ∙ sym (ap (λ (n : ℕ). take n (e ∷ es)) (cond-true (leb t e.count) (1 + prefix_len reached es) 0 passes ∙ one))
    | inr fails ↦
        let low : e.count < t = leb-false t e.count fails in
        cond-false (leb t e.count) (e ∷ reaching es) (reaching es) fails
        ∙ none_reach t es (All-weaker (λ f. f.count ≤ e.count) (λ f. f.count < t) (λ f l. omega arith) es falls.0)
        ∙ sym (ap (λ n. take n (e ∷ es)) (cond-false (leb t e.count) (1 + prefix_len reached es) 0 fails))
  ]

-- The first n, each as something else, are n.
pub number_of : {X Y : Type 0} (f : X → Y) (xs ys : List X) (n : ℕ) → n ≤ length ys → xs ≡ take n ys → n ≡ length (map f xs)
number_of f xs ys n within e = sym (length-map xs f ∙ ap length e ∙ length-take-le n ys within)
