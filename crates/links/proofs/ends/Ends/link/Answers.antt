-- What putting a place in writes is the list with it in between.
use Rattle.std.proofs.Common.{rules}
use Rattle.links.proofs.Listing.{linked_by}
use Rattle.links.proofs.ends.Ends.link.Goals as goal

pub returns : goal.returns
returns g c = linked_by g.K.Links.accessors g.met.K.Links.lawful _ _ _ _ _ _ _ (search rules) (search rules)
