-- The first free slot joins the chain of the item's mark: the structure still stands, and the map has one item more.
use Rattle.std.proofs.Common.{◌≡◌, ◌<◌, List, length, set, is_some, Some, None, Option, ap, ◌∙◌, arith}
use mathlib.Core.Logic.{∥∥₁_map}
use Rattle.finders.specs.Lookup.{lookup}
use Rattle.finders.proofs.Refusing.{enters}
use Rattle.items.proofs.Put.{put_length}
use Rattle.hashed.specs.declared.slot.Entry.{Entry}
use Rattle.hashed.specs.Members.{slots_within}
use Rattle.hashed.specs.Slots.{entries, bindings_in, Lawful}
use Rattle.hashed.proofs.Entries.{put_free, spare, full, free_inside, lawful_entered, entered_slot, none_from_test, fills}
use Rattle.hashed.proofs.Standing.{as_many, sound_inserted}
use Rattle.hashed.proofs.finder.calls.HashedFinderFinder.enter.Goals as goal

pub returns-in_default-clause-answer : goal.returns-in_default-clause-answer
returns-in_default-clause-answer g c =
    let f = c.args.self.now in
    let t = f.table.slots.now in
    λ lawful.
    fills g.T.Kind.same (bindings_in (entries t)) c.args.item (length t)
    (none_from_test _ (c.if-is_some.ensures ∙ ap is_some (c.find.ensures lawful)))
    (full t f.table.free c.in_default.is f.sound)

pub insert-requires : goal.insert-requires
insert-requires g c =
    let f = c.args.self.now in
    free_inside f.table.slots.now f.table.free c.in-Some.here c.in-Some.is f.sound

pub overflow_add-self : goal.overflow_add-self
overflow_add-self g c = let f = c.args.self.now in omega (arith, slots_within f.table.slots.now, f.few, f.counted)

pub invariant_of-self : goal.invariant_of-self
invariant_of-self g c =
    let f = c.args.self.now in
    let t = f.table.slots.now in
    let t' = c.insert.new.self.slots.now in
    let i = c.in-Some.here in
    let e : Entry g.row.T.Denot = record { binding = record { item = c.args.item; place = c.args.place }; mark = c.mark-mark.result } in
    let columns = c.insert.ensures.moved in
    let inside : i < length t = free_inside t f.table.free i c.in-Some.is f.sound in
    let size = as_many t t' f.table.free c.insert.new.self.free i (Some e) columns.entered in
    let more : length (bindings_in (entries t')) ≡ length (bindings_in (set (entries t) i (Some e))) = ap (λ (es : List (Option (Entry g.row.T.Denot))). length (bindings_in es)) columns.entered in
    record {
      few = omega (arith, size, f.few);
      counted = omega (arith, put_length (put_free t f.table.free i c.in-Some.is f.sound e), f.counted);
      sound = ∥∥₁_map f.sound (sound_inserted t t' f.table.free c.insert.new.self.free i e (omega arith) inside c.in-Some.is columns c.insert.ensures.free);
    }

pub returns : goal.returns
returns g c =
    let same = g.T.Kind.same in
    let mark_of = g.T.Kind.mark_of in
    let f = c.args.self.now in
    let t = f.table.slots.now in
    let es = entries t in
    let i = c.in-Some.here in
    let e : Entry g.row.T.Denot = record { binding = record { item = c.args.item; place = c.args.place }; mark = c.mark-mark.result } in
    let columns = c.insert.ensures.moved in
    let out = put_free t f.table.free i c.in-Some.is f.sound e in
    let absent : Lawful same mark_of es → lookup same (bindings_in es) c.args.item ≡ None =
    λ lawful. none_from_test _ (c.if-is_some.ensures ∙ ap is_some (c.find.ensures lawful)) in
    record {
      answer = λ lawful. enters same (bindings_in es) c.args.item (length t) (absent lawful) (spare t f.table.free i c.in-Some.is f.sound c.args.item);
      refused = tt;
      entered = λ lawful. rw columns.entered (entered_slot same mark_of g.met.T.Kind.equivalence g.met.T.Kind.marks es i e lawful out c.mark-mark.ensures (absent lawful));
      room = as_many t c.insert.new.self.slots.now f.table.free c.insert.new.self.free i (Some e) columns.entered;
      lawful = λ lawful. rw columns.entered (lawful_entered same mark_of g.met.T.Kind.equivalence g.met.T.Kind.marks es i e lawful out c.mark-mark.ensures (absent lawful));
    }
