-- A counter is lifted: the structure stands, and the row is the one raised.
use Rattle.std.proofs.Common.{refl, ◌∙◌, arith}
use mathlib.Core.Logic.{∥∥₁_map, ∥∥₁_elim}
use base.Stored.{Coded-set}
use Rattle.std.proofs.Props.{props}
use Rattle.std.proofs.lemmas.Result.{err_from_is_err_and}
use Rattle.counters.proofs.Hits.{made, no_counter, at_limit, used_of, count_of, raise_made}
use Rattle.counters.proofs.counters.Counters.raise.Goals as goal

pub returns-then-place-self-clause-answer : goal.returns-then-place-self-clause-answer
returns-then-place-self-clause-answer g c = no_counter _ _ _ _ _ refl (used_of c.args.self.now) c.if-place-self.true

pub returns-in_err-total-clause-answer : goal.returns-in_err-total-clause-answer
returns-in_err-total-clause-answer g c =
    let p = err_from_is_err_and c.from_residual.result c.from_residual.ensures.1 in
    rw (p.1, p.2, c.in_err-total.ensures.1) (at_limit _ _ _ _ _ refl (used_of c.args.self.now) c.if-place-self.false c.in_err-total.ensures.0)

pub lift-requires : goal.lift-requires
lift-requires g c = omega (arith, count_of c.args.self.now c.args.place c.if-place-self.false, c.in_ok-total.ensures.0)

pub invariant_of-self : goal.invariant_of-self
invariant_of-self g c =
    let s = c.args.self.now in
    let z = c.lift.ensures.back.size ∙ c.lift.ensures.out.quiet.size in
    record {
      small = omega (arith, s.small, z);
      fits = omega (arith, s.fits, z);
      sound = ∥∥₁_map s.sound (λ st. rw c.in_ok-total.ensures.1 (raise_made _ _ _ _ _ _ c.args.place st c.if-place-self.false c.lift.ensures).stands);
    }

pub returns-clause-answer : goal.returns-clause-answer
returns-clause-answer g c = made _ _ _ _ _ refl (used_of c.args.self.now) c.if-place-self.false c.in_ok-total.ensures.0

pub returns-clause-moved : goal.returns-clause-moved
returns-clause-moved g c =
    let s = c.args.self.now in
    record {
      places = c.lift.ensures.back.size ∙ c.lift.ensures.out.quiet.size;
      row = ∥∥₁_elim s.sound (hlevel (props, Coded-set g.row.T.coded)) (λ st. (raise_made _ _ _ _ _ _ c.args.place st c.if-place-self.false c.lift.ensures).is);
      total = c.in_ok-total.ensures.1;
    }
