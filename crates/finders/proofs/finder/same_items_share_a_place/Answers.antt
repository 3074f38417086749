-- Whatever the bindings, same items are looked up alike.
use Rattle.finders.proofs.Bindings.{lookup_alike}
use Rattle.finders.proofs.finder.same_items_share_a_place.Goals as goal

pub returns : goal.returns
returns g c = lookup_alike g.T.Kind.same g.met.T.Kind.equivalence
