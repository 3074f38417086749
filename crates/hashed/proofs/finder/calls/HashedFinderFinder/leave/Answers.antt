-- The slot that is found leaves its chain for the free ones: the structure still stands, and the map is without its item.
use Rattle.std.proofs.Common.{◌≡◌, ◌<◌, List, length, set, None, Option, ap, arith}
use mathlib.Core.Logic.{∥∥₁_map}
use Rattle.items.proofs.Put.{put_length}
use Rattle.finders.proofs.Refusing.{leaves}
use Rattle.hashed.specs.declared.slot.Entry.{Entry}
use Rattle.hashed.specs.Slots.{entries, bindings_in}
use Rattle.hashed.proofs.Entries.{located_entry, put_located, found_place, missing_nowhere, lawful_left, left_slot, stays_out}
use Rattle.hashed.proofs.Standing.{as_many, sound_removed, spot_inside}
use Rattle.hashed.proofs.finder.calls.HashedFinderFinder.leave.Goals as goal

pub returns-in_default-clause-answer : goal.returns-in_default-clause-answer
returns-in_default-clause-answer g c =
    let t = c.args.self.now.table.slots.now in
    let x = c.args.item.now in
    λ lawful.
    stays_out g.T.Kind.same (bindings_in (entries t)) x (missing_nowhere g.T.Kind.same g.T.Kind.mark_of g.met.T.Kind.equivalence g.met.T.Kind.marks t x c.in_default.ensures lawful)

pub remove-requires : goal.remove-requires
remove-requires g c =
    let f = c.args.self.now in
    let located = c.in-Some.ensures.1 in
    let inside = located.inside in
    spot_inside g.T.Kind.same f.table.slots.now f.table.free c.args.item.now c.in-Some.spot f.sound (omega (arith, c.in-Some.ensures.0)) located

pub overflow_sub-self : goal.overflow_sub-self
overflow_sub-self g c =
    let f = c.args.self.now in
    omega (arith, put_length (put_located g.T.Kind.same f.table.slots.now c.args.item.now _ c.in-Some.ensures.1), f.counted)

pub invariant_of-self : goal.invariant_of-self
invariant_of-self g c =
    let f = c.args.self.now in
    let t = f.table.slots.now in
    let t' = c.remove.new.self.slots.now in
    let spot = c.in-Some.spot in
    let located = c.in-Some.ensures.1 in
    let inside : spot.here < length t = located.inside in
    let low : spot.chain < length t = omega (arith, c.in-Some.ensures.0) in
    let columns = c.remove.ensures.moved in
    let size = as_many t t' f.table.free c.remove.new.self.free spot.here None columns.entered in
    let less : length (bindings_in (entries t')) ≡ length (bindings_in (set (entries t) spot.here None)) = ap (λ (es : List (Option (Entry g.row.T.Denot))). length (bindings_in es)) columns.entered in
    record {
      few = omega (arith, size, f.few);
      counted = omega (arith, put_length (put_located g.T.Kind.same t c.args.item.now _ located), f.counted);
      sound =
          ∥∥₁_map f.sound
          (λ st. sound_removed t t' f.table.free c.remove.new.self.free spot.here spot.chain spot.before inside low columns c.remove.ensures.free st (located.split f.table.free st));
    }

pub returns : goal.returns
returns g c =
    let same = g.T.Kind.same in
    let mark_of = g.T.Kind.mark_of in
    let laws = g.met.T.Kind.equivalence in
    let marks = g.met.T.Kind.marks in
    let f = c.args.self.now in
    let t = f.table.slots.now in
    let es = entries t in
    let x = c.args.item.now in
    let i = c.in-Some.spot.here in
    let located = c.in-Some.ensures.1 in
    let found = located_entry same t x _ located in
    let out = put_located same t x _ located in
    let columns = c.remove.ensures.moved in
    record {
      answer = λ lawful. leaves same (bindings_in es) x (found_place same mark_of laws marks t x _ located lawful.apart);
      refused = tt;
      left = λ lawful. rw columns.entered (left_slot same mark_of laws marks es i found.entry lawful out x found.alike);
      room = as_many t c.remove.new.self.slots.now f.table.free c.remove.new.self.free i None columns.entered;
      lawful = λ lawful. rw columns.entered (lawful_left same mark_of laws marks es i found.entry lawful out);
    }
