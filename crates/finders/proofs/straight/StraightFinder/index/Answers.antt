-- The search finds an index where the look-up finds a place.
use Rattle.std.proofs.Common.{rules, tests}
use Rattle.std.proofs.lemmas.Iterator.{YieldsList-from_slice}
use Rattle.std.proofs.lemmas.Iterator.Search.{position_from_yields_List}
use Rattle.finders.specs.Straight.{bindings_of}
use Rattle.finders.proofs.Searches.{searched}
use Rattle.finders.proofs.straight.StraightFinder.index.Goals as goal

pub returns : goal.returns
returns g c =
    let bindings = bindings_of c.args.self.now in
    searched g.T.Kind.same c.args.item.now bindings _
    (position_from_yields_List (λ b. g.T.Kind.same c.args.item.now b.item) _ _ c.position.result c.position.ensures.ran (YieldsList-from_slice bindings cc) (λ x b q k. search (rules, tests)))
