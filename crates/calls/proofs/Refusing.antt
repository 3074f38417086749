-- How a call ends: with the first refusal that applies, or accepted.
use Rattle.std.proofs.Common.{◌≡◌, ℕ, ◌<◌, ◌≤◌, Bool, true, false, cond, ◌||◌, eqb, ltb, leb, is_ok, IfOk, IfErr, Some, None, Ok, Err, Option, Result, sym, refl, ap, ◌∙◌, subst, arith}
use Rattle.std.proofs.lemmas.Bool.{false≢true, cond-false, or_parts, or_from, eqb-false, ne_eqb, ltb-false, le-ltb, leb-false, lt-leb, cond-true, true_from_ne_false}
use Rattle.std.proofs.lemmas.Option.{none-some}
use Rattle.rows.specs.Promises.{Exactly}
use Rattle.calls.specs.declared.refusal.Refusal.{Refusal}
use Rattle.calls.specs.declared.refusal.Refusal.TheVariants.{Size, Capacity, Occupied, Limit, Rank, Support, Lines, Foreign}
use Rattle.calls.specs.Refusals.{number_of, open_refusal, limit, rank, support, length_refusal, Unless}
use Rattle.calls.specs.Conditions.{Sized, Openable, Supported, Ranked}

pub ok_is_not_err : {Answer : Type 0} {a : Answer} {why : Refusal} → Ok a ≡ Err why → ⊥
ok_is_not_err e = cc

-- ---- the two ends of a call: how to show them (`refuses`, `goes_on`), and what follows from them

module _ {Answer : Type 0} (r : Result Answer Refusal) (kept done : Type 0) where
  pub refuses : (o : Option Refusal) (why : Refusal) → o ≡ Some why → r ≡ Err why → kept → Unless o r kept done
  refuses (Some other) why e answer k = let same : why ≡ other = cc in (answer ∙ ap Err same, k)
  refuses None why e answer k = absurd cc

  pub goes_on : (o : Option Refusal) → o ≡ None → done → Unless o r kept done
  goes_on (Some why) e d = absurd cc
  goes_on None e d = d

  pub answers_refusal : (o : Option Refusal) (why : Refusal) → o ≡ Some why → Unless o r kept done → (r ≡ Err why) × kept
  answers_refusal (Some other) why e u = let same : other ≡ why = cc in (u.0 ∙ ap Err same, u.1)
  answers_refusal None why e u = absurd cc

  pub unless_weaker : (kept' done' : Type 0) → (kept → kept') → (done → done') → (o : Option Refusal) → Unless o r kept done → Unless o r kept' done'
  unless_weaker kept' done' f g (Some why) u = (u.0, f u.1)
  unless_weaker kept' done' f g None u = g u

  module _ (a : Answer) (answers : done → r ≡ Ok a) where
    -- A call is accepted exactly if nothing refuses it.
    pub accepted_exactly : (Fact : Type 0) (o : Option Refusal) → (o ≡ None → Fact) → (Fact → o ≡ None) → Unless o r kept done → Exactly (is_ok r) Fact
    accepted_exactly Fact (Some why) means given u =
        record { means = λ t. absurd (false≢true (sym (ap is_ok u.0) ∙ t)); given = λ f. absurd (none-some why (sym (given f))) }
    accepted_exactly Fact None means given u = record { means = λ t. means refl; given = λ f. ap is_ok (answers u) }

    -- What a refusal keeps is kept.
    pub kept_if_refused : (o : Option Refusal) → Unless o r kept done → IfErr r (λ _. kept)
    kept_if_refused (Some why) u = subst (λ v. IfErr v (λ _. kept)) (sym u.0) u.1
    kept_if_refused None u = subst (λ v. IfErr v (λ _. kept)) (sym (answers u)) tt

    pub never_foreign : (o : Option Refusal) → (o ≡ Some Foreign → ⊥) → Unless o r kept done → r ≡ Err Foreign → ⊥
    never_foreign (Some why) other u e = let same : why ≡ Foreign = let first = u.0 in cc in other (ap Some same)
    never_foreign None other u e = ok_is_not_err (sym (answers u) ∙ e)

-- What holds of the answer of an accepted call holds of what it made.
pub made_if_accepted : {Answer : Type 0} (r : Result Answer Refusal) (kept done : Type 0) (a : Answer) (P : Answer → Type 0) (o : Option Refusal) →
    (o ≡ None → done → P a) → Unless o r kept ((r ≡ Ok a) × done) → IfOk r P
made_if_accepted (Err why) kept done a P o f u = tt
made_if_accepted (Ok v) kept done a P (Some why) f u = absurd (ok_is_not_err u.0)
made_if_accepted (Ok v) kept done a P None f u = let same : v ≡ a = let first = u.0 in cc in subst P (sym same) (f refl u.1)

-- ---- which refusal it is

-- A test, and what may refuse after it.
module _ (b : Bool) (why : Refusal) (next : Option Refusal) where
  refuses_first : (b ≡ false → ⊥) → cond b (Some why) next ≡ Some why
  refuses_first fails = cond-true b (Some why) next (true_from_ne_false b fails)

  none_refuses : cond b (Some why) next ≡ None → (b ≡ false) × (next ≡ None)
  none_refuses e = go b refl e
    where
      go : (c : Bool) → b ≡ c → cond c (Some why) next ≡ None → (b ≡ false) × (next ≡ None)
      go true t none = absurd cc
      go false f none = (f, none)

-- The limit of hits.
pub limit_means : (n : ℕ) → limit n None ≡ None → n < 4294967295
limit_means n e = leb-false 4294967295 n (none_refuses (leb 4294967295 n) Limit None e).0

pub limit_given : (n : ℕ) → n < 4294967295 → limit n None ≡ None
limit_given n l = cond-false (leb 4294967295 n) (Some Limit) None (lt-leb 4294967295 n l)

pub limit_refuses : (n : ℕ) → 4294967295 ≤ n → limit n None ≡ Some Limit
limit_refuses n l = refuses_first (leb 4294967295 n) Limit None (λ f. let below : n < 4294967295 = leb-false 4294967295 n f in omega arith)

-- Positions.
module _ (m k : ℕ) (next : Option Refusal) where
  ranked_means : (eqb k 0 || ltb m k) ≡ false → Ranked m k
  ranked_means f =
      let parts = or_parts (eqb k 0) (ltb m k) f in
      let n : k ≡ 0 → ⊥ = eqb-false k 0 parts.0 in
      record { some = omega arith; at_most_all = ltb-false m k parts.1 }

  pub rank_passes : Ranked m k → rank m k next ≡ next
  rank_passes h = cond-false (eqb k 0 || ltb m k) (Some Rank) next (or_from (eqb k 0) (ltb m k) (ne_eqb k 0 (λ z. omega arith)) (le-ltb m k h.at_most_all))

  pub rank_means : rank m k next ≡ None → Ranked m k × (next ≡ None)
  rank_means e = let both = none_refuses (eqb k 0 || ltb m k) Rank next e in (ranked_means both.0, both.1)

  pub rank_refuses : (Ranked m k → ⊥) → rank m k next ≡ Some Rank
  rank_refuses not = refuses_first (eqb k 0 || ltb m k) Rank next (λ f. not (ranked_means f))

-- Supports.
module _ (p q : ℕ) (next : Option Refusal) where
  supported_means : (eqb p 0 || (ltb q p || ltb 1000000 q)) ≡ false → Supported p q
  supported_means f =
      let parts = or_parts (eqb p 0) (ltb q p || ltb 1000000 q) f in
      let bounds = or_parts (ltb q p) (ltb 1000000 q) parts.1 in
      let n : p ≡ 0 → ⊥ = eqb-false p 0 parts.0 in
      record { some = omega arith; at_most_all = ltb-false q p bounds.0; bounded = ltb-false 1000000 q bounds.1 }

  pub support_passes : Supported p q → support p q next ≡ next
  support_passes h =
      cond-false (eqb p 0 || (ltb q p || ltb 1000000 q)) (Some Support) next
      (or_from (eqb p 0) (ltb q p || ltb 1000000 q) (ne_eqb p 0 (λ z. omega arith)) (or_from (ltb q p) (ltb 1000000 q) (le-ltb q p h.at_most_all) (le-ltb 1000000 q h.bounded)))

  pub support_means : support p q next ≡ None → Supported p q × (next ≡ None)
  support_means e = let both = none_refuses (eqb p 0 || (ltb q p || ltb 1000000 q)) Support next e in (supported_means both.0, both.1)

  pub support_refuses : (Supported p q → ⊥) → support p q next ≡ Some Support
  support_refuses not = refuses_first (eqb p 0 || (ltb q p || ltb 1000000 q)) Support next (λ f. not (supported_means f))

-- Lines.
module _ (listed supplied : ℕ) where
  pub fits_means : length_refusal listed supplied ≡ None → listed ≤ supplied
  fits_means e = ltb-false supplied listed (none_refuses (ltb supplied listed) Lines None e).0

  pub fits_given : listed ≤ supplied → length_refusal listed supplied ≡ None
  fits_given l = cond-false (ltb supplied listed) (Some Lines) None (le-ltb supplied listed l)

  pub fits_refuses : supplied < listed → length_refusal listed supplied ≡ Some Lines
  fits_refuses l = refuses_first (ltb supplied listed) Lines None (λ f. let most : listed ≤ supplied = ltb-false supplied listed f in omega arith)

-- Openings.
module _ (m room held : ℕ) where
  abbrev pub if_occupied : Option Refusal
  if_occupied = cond (ltb 0 held) (Some Occupied) None

  abbrev pub if_small : Option Refusal
  if_small = cond (ltb room m) (Some Capacity) if_occupied

  sized_means : (eqb m 0 || ltb 512 m) ≡ false → Sized m
  sized_means f =
      let parts = or_parts (eqb m 0) (ltb 512 m) f in
      let n : m ≡ 0 → ⊥ = eqb-false m 0 parts.0 in
      record { some = omega arith; at_most = ltb-false 512 m parts.1 }

  size_passes : Sized m → open_refusal m room held ≡ if_small
  size_passes h = cond-false (eqb m 0 || ltb 512 m) (Some Size) if_small (or_from (eqb m 0) (ltb 512 m) (ne_eqb m 0 (λ z. omega arith)) (le-ltb 512 m h.at_most))

  capacity_passes : m ≤ room → if_small ≡ if_occupied
  capacity_passes l = cond-false (ltb room m) (Some Capacity) if_occupied (le-ltb room m l)

  pub open_means : open_refusal m room held ≡ None → Openable m room held
  open_means e =
      let size = none_refuses (eqb m 0 || ltb 512 m) Size if_small e in
      let capacity = none_refuses (ltb room m) Capacity if_occupied size.1 in
      let none = ltb-false 0 held (none_refuses (ltb 0 held) Occupied None capacity.1).0 in
      record { sized = sized_means size.0; fits = ltb-false room m capacity.0; empty = omega arith }

  pub open_given : Openable m room held → open_refusal m room held ≡ None
  open_given h = size_passes h.sized ∙ capacity_passes h.fits ∙ cond-false (ltb 0 held) (Some Occupied) None (le-ltb 0 held (omega arith))

  pub size_refuses : (Sized m → ⊥) → open_refusal m room held ≡ Some Size
  size_refuses not = refuses_first (eqb m 0 || ltb 512 m) Size if_small (λ f. not (sized_means f))

  pub capacity_refuses : Sized m → room < m → open_refusal m room held ≡ Some Capacity
  capacity_refuses h l = size_passes h ∙ refuses_first (ltb room m) Capacity if_occupied (λ f. let most : m ≤ room = ltb-false room m f in omega arith)

  pub occupied_refuses : Sized m → m ≤ room → 0 < held → open_refusal m room held ≡ Some Occupied
  occupied_refuses h fits l = size_passes h ∙ capacity_passes fits ∙ refuses_first (ltb 0 held) Occupied None (λ f. let most : held ≤ 0 = ltb-false 0 held f in omega arith)

-- ---- no refusal but one is Foreign

another : (b : Bool) (why : Refusal) (next : Option Refusal) → (number_of why ≡ 8 → ⊥) → (next ≡ Some Foreign → ⊥) → cond b (Some why) next ≡ Some Foreign → ⊥
another true why next other rest e = let same : why ≡ Foreign = cc in other (ap number_of same)
another false why next other rest e = rest e

pub limit_is_another : (n : ℕ) → limit n None ≡ Some Foreign → ⊥
limit_is_another n = another (leb 4294967295 n) Limit None (λ e. omega arith) (none-some Foreign)

pub rank_is_another : (m k : ℕ) (next : Option Refusal) → (next ≡ Some Foreign → ⊥) → rank m k next ≡ Some Foreign → ⊥
rank_is_another m k next = another (eqb k 0 || ltb m k) Rank next (λ e. omega arith)

pub support_is_another : (p q : ℕ) (next : Option Refusal) → (next ≡ Some Foreign → ⊥) → support p q next ≡ Some Foreign → ⊥
support_is_another p q next = another (eqb p 0 || (ltb q p || ltb 1000000 q)) Support next (λ e. omega arith)

pub fits_is_another : (listed supplied : ℕ) → length_refusal listed supplied ≡ Some Foreign → ⊥
fits_is_another listed supplied = another (ltb supplied listed) Lines None (λ e. omega arith) (none-some Foreign)
