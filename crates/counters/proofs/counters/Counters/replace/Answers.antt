-- The lowest counter is overtaken: the structure stands, and so is the row.
use Rattle.std.proofs.Common.{◌<◌, refl, ◌∙◌, arith}
use mathlib.Core.Logic.{∥∥₁_map, ∥∥₁_elim}
use Rattle.std.proofs.lemmas.Result.{err_from_is_err_and}
use Rattle.std.proofs.Props.{props}
use base.Stored.{Coded-set}
use Rattle.links.proofs.Tables.{length_edit}
use Rattle.table.specs.Fields.{labelled}
use Rattle.counters.specs.Steps.{count_at}
use Rattle.counters.proofs.Hits.{made, no_counter, at_limit, used_of, count_of, lowest_of, none_of, replace_made}
use Rattle.counters.proofs.counters.Counters.replace.Goals as goal

pub returns-in_err-place-clause-answer : goal.returns-in_err-place-clause-answer
returns-in_err-place-clause-answer g c =
    let p = err_from_is_err_and c.from_residual.result c.from_residual.ensures.1 in
    rw (p.1, p.2, c.in_err-place.ensures.1) (no_counter _ _ _ _ _ refl refl (none_of c.args.self.now c.in_err-place.ensures.0))

pub returns-in_err-total-clause-answer : goal.returns-in_err-total-clause-answer
returns-in_err-total-clause-answer g c =
    let s = c.args.self.now in
    let lt = lowest_of s c.in_ok-place.place c.in_ok-place.ensures in
    let some : 0 < s.used = omega (arith, lt) in
    let p = err_from_is_err_and c.from_residual-in_err-total.result c.from_residual-in_err-total.ensures.1 in
    rw (p.1, p.2, c.in_err-total.ensures.1) (at_limit _ _ _ _ _ refl (used_of s) some c.in_err-total.ensures.0)

pub overtake-requires : goal.overtake-requires
overtake-requires g c =
    let s = c.args.self.now in
    omega (arith, count_of s c.in_ok-place.place (lowest_of s c.in_ok-place.place c.in_ok-place.ensures), c.in_ok-total.ensures.0)

pub invariant_of-self : goal.invariant_of-self
invariant_of-self g c =
    let s = c.args.self.now in
    let o = c.overtake.ensures in
    let z = o.back.size ∙ length_edit (labelled c.args.item (count_at s.table.places.now c.in_ok-place.place)) c.in_ok-place.place o.between ∙ o.out.quiet.size in
    record {
      small = omega (arith, s.small, z);
      fits = omega (arith, s.fits, z);
      sound = ∥∥₁_map s.sound (λ st. rw c.in_ok-total.ensures.1 (replace_made _ _ _ _ _ _ c.in_ok-place.place c.args.item st c.in_ok-place.ensures o).stands);
    }

pub returns-clause-answer : goal.returns-clause-answer
returns-clause-answer g c =
    let s = c.args.self.now in
    let lt = lowest_of s c.in_ok-place.place c.in_ok-place.ensures in
    let some : 0 < s.used = omega (arith, lt) in
    made _ _ _ _ _ refl (used_of s) some c.in_ok-total.ensures.0

pub returns-clause-moved : goal.returns-clause-moved
returns-clause-moved g c =
    let s = c.args.self.now in
    let o = c.overtake.ensures in
    record {
      places = o.back.size ∙ length_edit (labelled c.args.item (count_at s.table.places.now c.in_ok-place.place)) c.in_ok-place.place o.between ∙ o.out.quiet.size;
      row = ∥∥₁_elim s.sound (hlevel (props, Coded-set g.row.T.coded)) (λ st. (replace_made _ _ _ _ _ _ c.in_ok-place.place c.args.item st c.in_ok-place.ensures o).is);
      total = c.in_ok-total.ensures.1;
    }
