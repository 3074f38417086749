-- The structure of the slots after a free slot is put in front of a chain, and after a slot of a chain is made free.
use Rattle.std.proofs.Common.{◌≡◌, ℕ, ◌%◌, ◌<◌, Bool, cond, eqb, List, [], ◌∷◌, map, length, get_or, set, IfSome, Some, None, Option, sym, refl, ap, ◌∙◌, mod-lt, arith, length-set}
use mathlib.Core.Logic.{∥∥₁_elim}
use native.Mathlib.Bridge.{le_prop}
use lib.ListN.{length-map}
use Rattle.std.proofs.lemmas.List.{get_or-set_same, get_or-set_other}
use Rattle.std.proofs.lemmas.Bool.{cond-true, cond-false, eq-eqb, ne_eqb}
use Rattle.hashed.specs.declared.slot.Entry.{Entry}
use Rattle.hashed.specs.declared.slot.Slot.{Slot}
use Rattle.hashed.specs.declared.table.Spot.{Spot}
use Rattle.hashed.specs.Chains.{Path}
use Rattle.hashed.specs.Slots.{entry_of, entries, links, heads, chain_of, Stands, Sound}
use Rattle.hashed.specs.Steps.{Columns, SpotInside, relinked, reheaded, Split, Located}
use Rattle.hashed.proofs.Columns.{at_written, at_other}
use Rattle.hashed.proofs.Moves.{Moved, Closed, before_apart, chained}

-- A slot that a path begins at is the first of it.
pub first_split : (link : ℕ → Option ℕ) (from : Option ℕ) (i : ℕ) (xs : List ℕ) → from ≡ Some i → Path link from xs → Split xs None i
first_split link from i [] at path = absurd (cc)
first_split link from i (x ∷ xs) at path = record { behind = []; ahead = xs; whole = cc; last = refl }

-- The heads of n chains, and of the free slots behind them.
abbrev pub head_in : ℕ → Option ℕ → List (Option ℕ) → ℕ → Option ℕ
head_in n free hs b = cond (eqb b n) free (get_or hs b None)

pub head_of_free : (n : ℕ) (free : Option ℕ) (hs : List (Option ℕ)) → head_in n free hs n ≡ free
head_of_free n free hs = cond-true _ _ _ (eq-eqb n n refl)

head_of_chain : (n : ℕ) (free : Option ℕ) (hs : List (Option ℕ)) (b : ℕ) → (b ≡ n → ⊥) → head_in n free hs b ≡ get_or hs b None
head_of_chain n free hs b ne = cond-false _ _ _ (ne_eqb b n ne)

module _ {T : Type 0} (n : ℕ) (es : List (Option (Entry T))) (ls hs : List (Option ℕ)) (free : Option ℕ) (le : length es ≡ n) (ll : length ls ≡ n) (lh : length hs ≡ n) (i b : ℕ) (e : Option (Entry T)) (inside : i < n) (low : b < n) (st : Stands n es ls hs free) where
  abbrev own_in : List (Option (Entry T)) → ℕ → ℕ
  own_in cs j = get_or (map (chain_of n) cs) j n

  abbrev link_in : List (Option ℕ) → ℕ → Option ℕ
  link_in ks j = get_or ks j None

  not_free : b ≡ n → ⊥
  not_free same = omega arith

  pub occupied : free ≡ Some i → chain_of n e ≡ b → Stands n (set es i e) (set ls i (get_or hs b None)) (set hs b (Some i)) (get_or ls i None)
  occupied at mine = chained st split (λ same. not_free (sym same)) moved
    where
      split : Split (st.chain n) None i
      split = first_split (link_in ls) (head_in n free hs n) i (st.chain n) (head_of_free n free hs ∙ at) (st.linked n)

      moved : Moved i n b None (own_in es) (own_in (set es i e)) (link_in ls) (link_in (set ls i (get_or hs b None))) (head_in n free hs) (head_in n (get_or ls i None) (set hs b (Some i)))
      moved = record {
        to = at_written es (chain_of n) i e n (omega arith) ∙ mine;
        owners = λ j ne. at_other es (chain_of n) i j e n ne;
        front = head_of_chain n _ _ b not_free ∙ get_or-set_same hs b (Some i) None (omega arith);
        onward = get_or-set_same ls i (get_or hs b None) None (omega arith) ∙ sym (head_of_chain n free hs b not_free);
        closed = head_of_free n _ _;
        links = λ j ne _. get_or-set_other ls i j (get_or hs b None) None ne;
        heads = λ d ne last. head_of_chain n _ _ d last ∙ get_or-set_other hs b d (Some i) None ne ∙ sym (head_of_chain n free hs d last);
      }

  module _ (before : Option ℕ) (split : Split (st.chain b) before i) where
    abbrev next : Option ℕ
    next = get_or ls i None

    -- ---- what pointed to the slot now points to the next one

    links_else : (o : Option ℕ) (j : ℕ) → (o ≡ Some j → ⊥) → get_or (relinked o next ls) j None ≡ get_or ls j None
    links_else None j ne = refl
    links_else (Some p) j ne = get_or-set_other ls p j next None (λ same. ne (ap Some (sym same)))

    length_links : (o : Option ℕ) → length (relinked o next ls) ≡ n
    length_links None = ll
    length_links (Some p) = length-set ls p next ∙ ll

    heads_else : (o : Option ℕ) (d : ℕ) → (d ≡ b → ⊥) → get_or (reheaded o b next hs) d None ≡ get_or hs d None
    heads_else None d ne = get_or-set_other hs b d next None ne
    heads_else (Some p) d ne = refl

    closes : (o : Option ℕ) → ((p : ℕ) → o ≡ Some p → (p < n) × (p ≡ i → ⊥)) → Closed i b o (link_in ls) (link_in (set (relinked o next ls) i free)) (head_in n free hs) (head_in n (Some i) (reheaded o b next hs))
    closes None other = head_of_chain n _ _ b not_free ∙ get_or-set_same hs b next None (omega arith)
    closes (Some p) other =
        let apart = other p refl in
        let inside-p : p < n = apart.0 in (
          head_of_chain n _ _ b not_free ∙ sym (head_of_chain n free hs b not_free),
          get_or-set_other (set ls p next) i p free None apart.1 ∙ get_or-set_same ls p next None (omega arith),
        )

    pub released : chain_of n e ≡ n → Stands n (set es i e) (set (relinked before next ls) i free) (reheaded before b next hs) (Some i)
    released mine = chained st split not_free moved
      where
        moved : Moved i b n before (own_in es) (own_in (set es i e)) (link_in ls) (link_in (set (relinked before next ls) i free)) (head_in n free hs) (head_in n (Some i) (reheaded before b next hs))
        moved = record {
          to = at_written es (chain_of n) i e n (omega arith) ∙ mine;
          owners = λ j ne. at_other es (chain_of n) i j e n ne;
          front = head_of_free n _ _;
          onward = get_or-set_same (relinked before next ls) i free None (omega (arith, length_links before)) ∙ sym (head_of_free n free hs);
          closed = closes before (λ p at. before_apart st split p at);
          links = λ j ne other. get_or-set_other (relinked before next ls) i j free None ne ∙ links_else before j other;
          heads = λ d last ne. head_of_chain n _ _ d last ∙ heads_else before d ne ∙ sym (head_of_chain n free hs d last);
        }

-- ---- the slots themselves

stands_by : {T : Type 0} {n n' : ℕ} {es es' : List (Option (Entry T))} {ls ls' hs hs' : List (Option ℕ)} {free free' : Option ℕ} → n' ≡ n → es' ≡ es → ls' ≡ ls → hs' ≡ hs → free' ≡ free → Stands n es ls hs free → Stands n' es' ls' hs' free'
stands_by size entered linked headed freed st = rw (size, entered, linked, headed, freed) st

module _ {T : Type 0} (t t' : List (Slot T)) (free free' : Option ℕ) where
  long_entries : length (entries t) ≡ length t
  long_entries = length-map t entry_of

  long_links : length (links t) ≡ length t
  long_links = length-map t (λ s. s.link)

  long_heads : length (heads t) ≡ length t
  long_heads = length-map t (λ s. s.head)

  -- Writing one entry leaves as many slots.
  pub as_many : (i : ℕ) (e : Option (Entry T)) → entries t' ≡ set (entries t) i e → length t' ≡ length t
  as_many i e entered = sym (length-map t' entry_of) ∙ ap length entered ∙ length-set (entries t) i e ∙ long_entries

  pub sound_inserted : (i : ℕ) (e : Entry T) → 0 < length t → i < length t → free ≡ Some i → Columns t' (set (entries t) i (Some e)) (set (links t) i (get_or (heads t) (e.mark % length t) None)) (set (heads t) (e.mark % length t) (Some i)) → free' ≡ get_or (links t) i None → Sound t free → Sound t' free'
  sound_inserted i e some inside at columns freed st =
      stands_by (as_many i (Some e) columns.entered) columns.entered columns.linked columns.headed freed
      (occupied (length t) (entries t) (links t) (heads t) free long_entries long_links long_heads i (e.mark % length t) (Some e) inside (mod-lt e.mark some) st at refl)

  pub sound_removed : (i b : ℕ) (before : Option ℕ) → i < length t → b < length t → Columns t' (set (entries t) i None) (set (relinked before (get_or (links t) i None) (links t)) i free) (reheaded before b (get_or (links t) i None) (heads t)) → free' ≡ Some i → (st : Sound t free) → Split (st.chain b) before i → Sound t' free'
  sound_removed i b before inside low columns freed st split =
      stands_by (as_many i None columns.entered) columns.entered columns.linked columns.headed freed
      (released (length t) (entries t) (links t) (heads t) free long_entries long_links long_heads i b None inside low st before split refl)

some_inside : (n : ℕ) (o : Option ℕ) → ((p : ℕ) → o ≡ Some p → p < n) → IfSome o (λ p. p < n)
some_inside n None inside = tt
some_inside n (Some p) inside = inside p refl

-- The slot before a located one, if there is one, is a slot too.
pub spot_inside : {T : Type 0} (same : T → T → Bool) (t : List (Slot T)) (free : Option ℕ) (x : T) (s : Spot) → ∥ Sound t free ∥₁ → s.chain < length t → Located same t x s → SpotInside t s
spot_inside same t free x s sound low located = record {
  chain = low;
  before = some_inside (length t) s.before (λ p at. ∥∥₁_elim sound le_prop (λ st. (before_apart st (located.split free st) p at).0));
  here = located.inside;
}
