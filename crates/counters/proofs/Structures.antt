-- The structure of the table that stands comes out of the truncation, since each of its facts has one proof at most.
use mathlib.Core.HLevel.{Unit-prop, ×_prop, ×₃_prop}
use mathlib.Core.Logic.{∥∥₁_elim}
use Rattle.std.proofs.Common.{ℕ, List, [], ◌∷◌, Option}
use Rattle.std.proofs.Props.{props}
use Rattle.links.specs.Chains.{Chain}
use Rattle.table.specs.Stands.{Rises}
use Rattle.table.specs.Structure.{Structure}
use Rattle.table.proofs.Structuring.{structure}
use Rattle.counters.specs.declared.counters.Counters.{Counters}
use Rattle.counters.specs.Meaning.{Structured}
use Rattle.counters.proofs.Hits.{used_of}

rises_prop : {X : Type 0} (f : X → ℕ) (xs : List X) → IsProp (Rises f xs)
rises_prop f [] = Unit-prop
rises_prop f (x ∷ xs) = ×_prop (hlevel props) (rises_prop f xs)

chain_prop : (next prev : ℕ → Option ℕ) (p : Option ℕ) (xs : List ℕ) (n : Option ℕ) → IsProp (Chain next prev p xs n)
chain_prop next prev p [] n = Unit-prop
chain_prop next prev p (x ∷ xs) n = ×₃_prop (hlevel props) (hlevel props) (chain_prop next prev _ xs n)

module _ {T : Type 0} (s : Counters T) where
  pub structured : Structured s
  structured =
      let known : Structure s.table.places.now s.table.lists s.used s.total =
      ∥∥₁_elim s.sound (hlevel (props, rises_prop, chain_prop)) (λ st. structure s.table.places.now s.table.lists s.used s.total st.gs st.fs st.sound) in
      rw (used_of s) known
