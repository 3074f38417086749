-- A newcomer is seated at an unused counter: the structure stands, and the row has one entry more.
use Rattle.std.proofs.Common.{ℕ, sym, refl, ap, ◌∙◌, arith}
use mathlib.Core.Logic.{∥∥₁_map, ∥∥₁_elim}
use Rattle.std.proofs.lemmas.Result.{err_from_is_err_and}
use Rattle.std.proofs.Props.{props}
use base.Stored.{Coded-set}
use Rattle.links.proofs.Tables.{length_edit}
use Rattle.table.specs.Placed.{entered}
use Rattle.table.specs.Fields.{labelled}
use Rattle.counters.specs.Meaning.{placed}
use Rattle.counters.proofs.Hits.{made, no_counter, at_limit, used_of, enter_made}
use Rattle.counters.proofs.counters.Counters.enter.Goals as goal

pub returns-then-place-self-clause-answer : goal.returns-then-place-self-clause-answer
returns-then-place-self-clause-answer g c = no_counter _ _ _ _ _ (used_of c.args.self.now) refl c.if-place-self.true

pub returns-in_err-total-clause-answer : goal.returns-in_err-total-clause-answer
returns-in_err-total-clause-answer g c =
    let p = err_from_is_err_and c.from_residual.result c.from_residual.ensures.1 in
    rw (p.1, p.2, c.in_err-total.ensures.1) (at_limit _ _ _ _ _ (used_of c.args.self.now) refl c.if-place-self.false c.in_err-total.ensures.0)

pub invariant_of-self : goal.invariant_of-self
invariant_of-self g c =
    let s = c.args.self.now in
    let z = c.seat.ensures.size ∙ length_edit (labelled c.args.item 0) s.used s.table.places.now in
    record {
      small = omega (arith, s.small, z);
      fits = omega (arith, c.if-place-self.false, z);
      sound = ∥∥₁_map s.sound (λ st. rw c.in_ok-total.ensures.1 (enter_made _ _ _ _ _ _ c.args.item st c.if-place-self.false c.seat.ensures).stands);
    }

pub returns-clause-answer : goal.returns-clause-answer
returns-clause-answer g c = made _ _ _ _ _ (used_of c.args.self.now) refl c.if-place-self.false c.in_ok-total.ensures.0

pub returns-clause-moved : goal.returns-clause-moved
returns-clause-moved g c =
    let s = c.args.self.now in
    record {
      places = c.seat.ensures.size ∙ length_edit (labelled c.args.item 0) s.used s.table.places.now;
      row =
          ∥∥₁_elim s.sound (hlevel (props, Coded-set g.row.T.coded)) (λ st. (enter_made _ _ _ _ _ _ c.args.item st c.if-place-self.false c.seat.ensures).is)
          ∙ ap (λ (k : ℕ). entered k c.args.item (placed s)) (sym (used_of s));
      total = c.in_ok-total.ensures.1;
    }
