-- A walk along a chain: what it has passed, and what is ahead.
use Rattle.std.proofs.Common.{◌≡◌, ℕ, ◌<◌, ◌≤◌, Bool, true, false, List, [], ◌∷◌, map, length, get_or, Some, None, Option, sym, refl, ap, ◌∙◌, inl, inr, ⊎_elim, arith}
use mathlib.Core.Logic.{∥∥₁_elim}
use native.Mathlib.Bridge.{le_prop}
use Rattle.std.proofs.lemmas.Bool.{both_ways, cases_Bool, ne_eqb}
use Rattle.std.proofs.Props.{props}
use Rattle.std.specs.Option.{IsSome}
use Rattle.hashed.specs.declared.slot.Entry.{Entry}
use Rattle.hashed.specs.declared.slot.Slot.{Slot}
use Rattle.hashed.specs.Chains.{In, Path}
use Rattle.hashed.specs.Slots.{entries, links, heads, chain_of, Sound}
use Rattle.hashed.specs.Steps.{entry_at, hit_at, Follows, onto, last_of, Split, Located, Missing}
use Rattle.hashed.proofs.Lists.{in_onto, onto_in}
use Rattle.hashed.proofs.Paths.{steps, steps_path}
use Rattle.hashed.proofs.Moves.{chain_short}
use Rattle.hashed.proofs.Clearing.{own_by_entry}

-- The list is what the walk has behind it and what it has ahead, and nothing behind passes the test.
pub record Walked (link : ℕ → Option ℕ) (test : ℕ → Bool) (chain : List ℕ) (before now : Option ℕ) : Type 0 where
  pub behind : List ℕ
  pub ahead : List ℕ
  pub whole : chain ≡ onto behind ahead
  pub last : before ≡ last_of behind
  pub path : Path link now ahead
  pub passed : (i : ℕ) → In i behind → test i ≡ false

length_onto : (front back : List ℕ) → length back ≤ length (onto front back)
length_onto [] back = omega arith
length_onto (x ∷ front) back = omega (arith, length_onto front (x ∷ back))

-- What is in the chain of a mark is an entry.
used : {T : Type 0} (n chain : ℕ) (o : Option (Entry T)) → chain_of n o ≡ chain → chain < n → IsSome o
used n chain None own low = let same : n ≡ chain = own in absurd (omega arith)
used n chain (Some e) own low = refl

module _ {T : Type 0} (same : T → T → Bool) (t : List (Slot T)) (x : T) (b : ℕ) where
  abbrev link_of : ℕ → Option ℕ
  link_of i = get_or (links t) i None

  abbrev own_of : ℕ → ℕ
  own_of i = get_or (map (chain_of (length t)) (entries t)) i (length t)

  abbrev pub Walks : Option ℕ → Option ℕ → Type 0
  Walks before now = (free : Option ℕ) (st : Sound t free) → Walked link_of (hit_at same (entries t) x) (st.chain b) before now

  pub walk_start : b < length t → (now : Option ℕ) → now ≡ get_or (heads t) b None → Walks None now
  walk_start inside now at_head free st =
      record {
        behind = [];
        ahead = st.chain b;
        whole = refl;
        last = refl;
        path = rw at_head (rw (ne_eqb b (length t) (λ e. omega arith)) at (st.linked b));
        passed = λ i m. absurd m;
      }

  -- At a slot: it is the first ahead.
  record Reached (chain : List ℕ) (before : Option ℕ) (here : ℕ) : Type 0 where
    pub split : Split chain before here
    pub path : Path link_of (link_of here) split.ahead
    pub passed : (i : ℕ) → In i split.behind → hit_at same (entries t) x i ≡ false

  reached : (chain : List ℕ) (before now : Option ℕ) (here : ℕ) → now ≡ Some here → Walked link_of (hit_at same (entries t) x) chain before now → Reached chain before here
  reached chain before now here at w = first w.behind w.ahead w.whole w.last w.path w.passed
    where
      first : (behind ahead : List ℕ) → chain ≡ onto behind ahead → before ≡ last_of behind → Path link_of now ahead → ((i : ℕ) → In i behind → hit_at same (entries t) x i ≡ false) → Reached chain before here
      first behind [] whole last path passed = absurd (cc)
      first behind (y ∷ ahead) whole last path passed =
          let e : y ≡ here = cc in
          record {
            split = record { behind = behind; ahead = ahead; whole = whole ∙ ap (λ (z : ℕ). onto behind (z ∷ ahead)) e; last = last };
            path = rw e at path.1;
            passed = passed;
          }

  module _ (before now : Option ℕ) (here : ℕ) (at : now ≡ Some here) (walks : Walks before now) where
    at_here : (free : Option ℕ) (st : Sound t free) → Reached (st.chain b) before here
    at_here free st = reached (st.chain b) before now here at (walks free st)

    mine : (free : Option ℕ) (st : Sound t free) → (here < length t) × (own_of here ≡ b)
    mine free st =
        let split = (at_here free st).split in
        st.inside b here (rw split.whole (in_onto here split.behind (here ∷ split.ahead) (inr (inl refl))))

    module _ (free : Option ℕ) (sound : ∥ Sound t free ∥₁) where
      pub walk_inside : here < length t
      walk_inside = ∥∥₁_elim sound le_prop (λ st. (mine free st).0)

      -- It is in use, since its chain is that of a mark.
      pub walk_used : b < length t → IsSome (entry_at (entries t) here)
      walk_used low = ∥∥₁_elim sound (hlevel props) (λ st. used (length t) b (entry_at (entries t) here) (sym (own_by_entry (length t) (entries t) here) ∙ (mine free st).1) low)

      pub walk_less : (next : Option ℕ) → next ≡ link_of here → steps link_of (length t) next < steps link_of (length t) now
      walk_less next is =
          ∥∥₁_elim sound le_prop
          (λ st.
          let r = at_here free st in
          let ahead = r.split.ahead in
          let fits : length (here ∷ ahead) ≤ length t =
          omega (arith, length_onto r.split.behind (here ∷ ahead), ap length r.split.whole, chain_short st b) in
          let from = steps_path link_of (length t) now (here ∷ ahead) (at, r.path) fits in
          let to = steps_path link_of (length t) next ahead (rw is r.path) (omega arith) in
          omega arith)

      pub walk_found : hit_at same (entries t) x here ≡ true → Located same t x (record { chain = b; before = before; here = here })
      walk_found hit = record { inside = walk_inside; hit = hit; split = λ free st. (at_here free st).split }

    pub walk_on : hit_at same (entries t) x here ≡ false → (before' next : Option ℕ) → Follows (links t) here before' next → Walks before' next
    walk_on miss before' next follows free st =
        let r = at_here free st in
        record {
          behind = here ∷ r.split.behind;
          ahead = r.split.ahead;
          whole = r.split.whole;
          last = follows.before_slot;
          path = rw follows.at_link r.path;
          passed = λ i m. ⊎_elim (λ e. rw e miss) (r.passed i) m;
        }

  pub walk_end : (before now : Option ℕ) → now ≡ None → Walks before now → (free : Option ℕ) → ∥ Sound t free ∥₁ → Missing same t x b
  walk_end before now end walks free sound i inside own =
      ⊎_elim
      (λ hit. absurd (∥∥₁_elim sound (λ p q. absurd p) (λ st. both_ways _ (passed free st (walks free st)) hit)))
      (λ f. f)
      (cases_Bool (hit_at same (entries t) x i))
    where
      nothing_ahead : (ahead : List ℕ) → Path link_of now ahead → In i ahead → ⊥
      nothing_ahead [] path m = m
      nothing_ahead (y ∷ ahead) path m = cc

      passed : (free : Option ℕ) (st : Sound t free) → Walked link_of (hit_at same (entries t) x) (st.chain b) before now → hit_at same (entries t) x i ≡ false
      passed free st w =
          ⊎_elim (w.passed i) (λ m. absurd (nothing_ahead w.ahead w.path m)) (onto_in i w.behind w.ahead (rw w.whole at (rw own at (st.whole i inside))))
