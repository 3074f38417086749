-- The three cases of a hit.
use Rattle.std.proofs.Common.{◌≡◌, ℕ, ◌+◌, ◌<◌, ◌≤◌, Bool, true, ltb, List, [], ◌∷◌, length, Some, None, Option, arith}
use Rattle.std.proofs.lemmas.Bool.{cond_both, ltb-true, ltb-false}
use Rattle.rows.specs.declared.entry.Entry.{Entry}
use Rattle.rows.specs.Row.{entry, raised, insert, take_over, entry_of, without, hit_at, hit}
use Rattle.rows.proofs.Put.{Put}
use Rattle.rows.proofs.Sameness.{Absent, Found, found}

-- HitCase same m x row after: how a hit with x leads from one row to the next.
pub data HitCase {Item : Type 0} (same : Item → Item → Bool) (m : ℕ) (x : Item) : List (Entry Item) → List (Entry Item) → Type 0 where
  moves : {row rest : List (Entry Item)} (e : Entry Item) → same e.item x ≡ true → Put e rest row → HitCase same m x row (insert (raised 1 e) rest)
  joins : {row : List (Entry Item)} → Absent same x row → length row < m → HitCase same m x row (insert (entry x 1 0) row)
  takes_over : {first : Entry Item} {rest : List (Entry Item)} → Absent same x (first ∷ rest) → m ≤ length (first ∷ rest) →
      HitCase same m x (first ∷ rest) (insert (entry x (first.count + 1) first.count) rest)

module _ {Item : Type 0} (same : Item → Item → Bool) (m : ℕ) (pos : 1 ≤ m) (x : Item) where
  taking_over : (row : List (Entry Item)) → Absent same x row → m ≤ length row → HitCase same m x row (take_over x row)
  taking_over [] away full = absurd (omega arith)
  taking_over (first ∷ rest) away full = takes_over away full

  hit_case_at : (row : List (Entry Item)) (o : Option (Entry Item)) → Found same x o (without same x row) row → HitCase same m x row (hit_at same m row x o)
  hit_case_at row (Some e) f = moves e f.0 f.1
  hit_case_at row None away =
      cond_both (ltb (length row) m) (insert (entry x 1 0) row) (take_over x row) (HitCase same m x row)
      (λ t. joins away (ltb-true (length row) m t))
      (λ t. taking_over row away (ltb-false (length row) m t))

  pub hit_case : (row : List (Entry Item)) → HitCase same m x row (hit same m row x)
  hit_case row = hit_case_at row (entry_of same x row) (found same x row)
