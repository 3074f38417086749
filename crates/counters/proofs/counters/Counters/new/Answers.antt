-- With all buckets free and no counter in use the structure stands.
use Rattle.std.proofs.Common.{◌≡◌, ◌≤◌, min, length, arith}
use Rattle.table.proofs.Moving.{stands_new}
use Rattle.counters.proofs.counters.Counters.new.Goals as goal

pub invariant_of-result : goal.invariant_of-result
invariant_of-result g c =
    let f = c.new.ensures in
    let n : length c.new.result.places.now ≤ 512 = omega (arith, f.size, c.split_at_mut-places.ensures.front_len, c.min-room.ensures) in
    let e : length c.new.result.places.now ≡ min (length c.split_at_mut-places.result.0.now) 65536 = omega (arith, f.size, n) in
    record { small = n; fits = omega arith; sound = ∣ stands_new _ _ _ f.main f.free e ∣₁ }
