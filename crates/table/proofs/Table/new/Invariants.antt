-- The places so far are the free buckets, in order.
use Rattle.std.proofs.Common.{◌≡◌, ◌≤◌, length}
use Rattle.links.specs.Lists.{Listed}
use Rattle.table.specs.Fields.{bucket_links, no_ends}
use Rattle.table.specs.Groups.{below}
use Rattle.table.proofs.Table.new.Given as goal

abbrev pub invariant-loop-i : goal.invariant-loop-i
invariant-loop-i g l = record { main : l.lists.main ≡ no_ends; listed : l.i ≤ length l.places → Listed bucket_links l.places (below l.i) l.lists.free }
