-- What taking a place out writes is the list without it.
use Rattle.std.proofs.Common.{rules}
use Rattle.links.proofs.Listing.{unlinked_by}
use Rattle.links.proofs.ends.Ends.unlink.Goals as goal

pub returns : goal.returns
returns g c = unlinked_by g.K.Links.accessors g.met.K.Links.lawful _ _ _ _ _ (search rules) (search rules)
