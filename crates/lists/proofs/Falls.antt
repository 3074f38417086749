-- Whether lower figures fall along the row by position no slower than counts, looked at one position after another.
use Rattle.std.proofs.Common.{◌≡◌, ℕ, zero, suc, ◌+◌, ◌-◌, ◌<◌, ◌≤◌, Bool, true, false, ◌&&◌, leb, List, [], ◌∷◌, length, drop, sym, refl, ap, ◌∙◌, arith}
use Rattle.std.proofs.Math.Bool.{and-true}
use Rattle.std.proofs.lemmas.List.{drop_all}
use Rattle.std.proofs.lemmas.Bool.{le-leb, lt-leb}
use Rattle.rows.specs.declared.entry.Entry.{Entry}
use Rattle.rows.specs.Questions.{by_position, first_count, outside, lower, falling, ordered}
use Rattle.lists.proofs.Fronts.{Next}

module _ {T : Type 0} (m k most : ℕ) (row : List (Entry T)) where
  abbrev positions : List (Entry T)
  positions = by_position row

  abbrev out : ℕ
  out = outside m row

  -- n positions are passed, and `last` is the lower figure at the last of them: what is left to look at, from there on.
  abbrev pub Looked : ℕ → ℕ → Type 0
  Looked n last =
      first_count (outside m row) (drop n (by_position row)) ≤ most →
      ordered k m row ≡ leb (first_count (outside m row) (drop n (by_position row))) last && falling (outside m row) (k - n) (drop n (by_position row))

  looked_zero : (last : ℕ) → last ≡ most → Looked 0 last
  looked_zero last is small =
      let all : k - 0 ≡ k = omega arith in
      rw (le-leb (first_count out positions) last (omega arith), all) refl

  pub looked_none : (n last : ℕ) → n ≡ 0 → last ≡ most → Looked n last
  looked_none n last none is = rw none (looked_zero last is)

  at_next : (n last : ℕ) (e : Entry T) → Next positions n e → e.count ≤ most → Looked n last → ordered k m row ≡ leb e.count last && falling out (k - n) (e ∷ drop (n + 1) positions)
  at_next n last e at small h = (rw at.rest at h) small

  pub looked_more : (n n' last last' : ℕ) (e : Entry T) → Next positions n e → e.count ≤ most → n < k → e.count ≤ last → n' ≡ n + 1 → last' ≡ lower e → Looked n last → Looked n' last'
  looked_more n n' last last' e at small more falls one is h =
      let left : k - n ≡ suc (k - (n + 1)) = omega arith in
      rw one (λ _. at_next n last e at small h ∙ rw (le-leb e.count last falls, left, is) refl)

  pub looked_rise : (n last : ℕ) (e : Entry T) → Next positions n e → e.count ≤ most → last < e.count → Looked n last → false ≡ ordered k m row
  looked_rise n last e at small rises h = sym (at_next n last e at small h ∙ rw (lt-leb e.count last rises) refl)

  pub looked_enough : (n last : ℕ) (e : Entry T) → Next positions n e → e.count ≤ most → k ≤ n → e.count ≤ last → Looked n last → true ≡ ordered k m row
  looked_enough n last e at small done falls h =
      let left : k - n ≡ 0 = omega arith in
      sym (at_next n last e at small h ∙ rw (le-leb e.count last falls, left) refl)

  none_left : (j : ℕ) → falling {Item = T} out j [] ≡ true
  none_left zero = refl
  none_left (suc j) = refl

  pub looked_all : (n last figure : ℕ) → length positions ≤ n → out ≤ most → figure ≡ out → Looked n last → leb figure last ≡ ordered k m row
  looked_all n last figure past small is h =
      let e : ordered k m row ≡ leb out last && falling out (k - n) [] = (rw (drop_all n positions past) at h) small in
      ap (λ (f : ℕ). leb f last) is ∙ sym (e ∙ ap (λ (b : Bool). leb out last && b) (none_left (k - n)) ∙ and-true (leb out last))
