-- The walk along a chain: what it has passed is not the item, and what is left of the chain gets shorter.
use Rattle.std.proofs.Common.{sym, ◌∙◌}
use Rattle.hashed.proofs.Columns.{head_read}
use Rattle.hashed.proofs.Walking.{walk_start, walk_inside, walk_used, walk_less, walk_found, walk_on, walk_end}
use Rattle.hashed.proofs.table.Table.locate.Goals as goal

pub loop-cursor-init : goal.loop-cursor-init
loop-cursor-init g c =
    let t = c.args.self.now.slots.now in
    walk_start g.T.Kind.same t c.args.item.now _ c.chain_for-chain.ensures.below _ (head_read t _ _ c.chain_for-chain.ensures.below)

pub holds-requires : goal.holds-requires
holds-requires g c =
    record {
      inside = walk_inside g.T.Kind.same c.args.self.now.slots.now c.args.item.now _ _ _ c.in-Some.here c.in-Some.is c.loop-cursor.invariant _ c.requires;
      used = walk_used g.T.Kind.same c.args.self.now.slots.now c.args.item.now _ _ _ c.in-Some.here c.in-Some.is c.loop-cursor.invariant _ c.requires c.chain_for-chain.ensures.below;
    }

pub returns-then-holds : goal.returns-then-holds
returns-then-holds g c =
    (c.chain_for-chain.ensures.value, walk_found g.T.Kind.same c.args.self.now.slots.now c.args.item.now _ _ _ c.in-Some.here c.in-Some.is c.loop-cursor.invariant _ c.requires (sym c.if-holds.ensures))

pub behind-cursor-requires : goal.behind-cursor-requires
behind-cursor-requires g c =
    walk_inside g.T.Kind.same c.args.self.now.slots.now c.args.item.now _ _ _ c.in-Some.here c.in-Some.is c.loop-cursor.invariant _ c.requires

pub loop-cursor-smaller : goal.loop-cursor-smaller
loop-cursor-smaller g c =
    walk_less g.T.Kind.same c.args.self.now.slots.now c.args.item.now _ _ _ c.in-Some.here c.in-Some.is c.loop-cursor.invariant _ c.requires _ c.behind-cursor.ensures.at_link

pub loop-cursor-preserved : goal.loop-cursor-preserved
loop-cursor-preserved g c =
    walk_on g.T.Kind.same c.args.self.now.slots.now c.args.item.now _ _ _ c.in-Some.here c.in-Some.is c.loop-cursor.invariant (sym c.if-holds.ensures) _ _ c.behind-cursor.ensures

pub returns : goal.returns
returns g c =
    λ i inside own.
    walk_end g.T.Kind.same c.args.self.now.slots.now c.args.item.now _ _ _ c.in_default.is c.loop-cursor.invariant _ c.requires i inside (own ∙ sym c.chain_for-chain.ensures.value)
