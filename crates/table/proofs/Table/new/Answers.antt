-- The buckets before the index are linked as free.
use Rattle.std.proofs.Common.{◌<◌, [], ◌++◌, length, refl, append-nil, le_refl, add-one, arith}
use Rattle.links.specs.Chains.{Off}
use Rattle.links.specs.Lists.{Listed}
use Rattle.table.specs.Fields.{bucket_links}
use Rattle.table.specs.Groups.{below}
use Rattle.table.proofs.Bucketing.{off_below}
use Rattle.table.proofs.Table.new.Goals as goal

pub loop-i-preserved : goal.loop-i-preserved
loop-i-preserved g c =
    let i = c.loop-i.i in
    record {
      main = c.loop-i.invariant.main;
      listed = λ le.
          let lt : i < length c.loop-i.places = omega arith in
          let e = append-nil (below i) in
          let k = c.loop-i.invariant.listed (omega arith) in
          let h : Listed bucket_links c.loop-i.places (below i ++ []) c.loop-i.lists.free = rw e k in
          let o : Off i (below i ++ []) = rw e (off_below i i (le_refl i)) in
          rw add-one (c.append.ensures.put (below i) [] h k.stops refl o lt);
    }
