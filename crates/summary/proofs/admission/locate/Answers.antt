-- The place that the finder gives is right, or the finder is foreign.
use Rattle.std.proofs.Common.{length, refl, rules}
use Rattle.counters.specs.Meaning.{placed}
use Rattle.summary.proofs.Admitting.{seated, own_place}
use Rattle.summary.proofs.Answering.{own_found}
use Rattle.summary.proofs.admission.locate.Goals as goal

pub returns : goal.returns
returns g c lawful =
    let s = c.args.counters.now in
    own_found g.T.Kind.same (length (placed s)) (placed s) c.args.item.now c.in-Some.place _ (c.in-Some.ensures lawful)
    (own_place g.T.Kind.same (placed s) (seated s) c.args.item.now c.in-Some.place _ refl (search rules))
