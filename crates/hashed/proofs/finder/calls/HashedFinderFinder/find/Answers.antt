-- The walk ends at the slot that the look-up finds, or the look-up finds none.
use Rattle.std.proofs.Common.{Some, sym, ap, ◌∙◌}
use Rattle.hashed.proofs.Columns.{place_read}
use Rattle.hashed.proofs.Entries.{located_entry, found_place, missing_nowhere}
use Rattle.hashed.proofs.finder.calls.HashedFinderFinder.find.Goals as goal

pub returns-in_err-spot : goal.returns-in_err-spot
returns-in_err-spot g c =
    λ lawful.
    c.from_residual.ensures
    ∙ sym (missing_nowhere g.T.Kind.same g.T.Kind.mark_of g.met.T.Kind.equivalence g.met.T.Kind.marks c.args.self.now.table.slots.now c.args.item.now c.in_err-spot.ensures lawful)

pub returns : goal.returns
returns g c =
    λ lawful.
    let t = c.args.self.now.table.slots.now in
    let x = c.args.item.now in
    let located = c.in_ok-spot.ensures.1 in
    let found = located_entry g.T.Kind.same t x _ located in
    ap Some (place_read t _ _ located.inside found.entry found.is)
    ∙ sym (found_place g.T.Kind.same g.T.Kind.mark_of g.met.T.Kind.equivalence g.met.T.Kind.marks t x _ located lawful.apart)
