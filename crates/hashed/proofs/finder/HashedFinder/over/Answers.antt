-- A finder over cleared slots holds nothing, and its structure stands.
use Rattle.std.proofs.Common.{length, sym, ap, arith}
use Rattle.hashed.proofs.Clearing.{cleared_sound, cleared_bindings}
use Rattle.hashed.proofs.finder.HashedFinder.over.Goals as goal

pub invariant_of-result : goal.invariant_of-result
invariant_of-result g c =
    let t = c.over.result.slots.now in
    let made = c.over.ensures in
    record {
      few = omega (arith, c.split_at_mut-slots.ensures.front_len, c.min-count.ensures, made.size);
      counted = sym (ap length (cleared_bindings t made.cleared));
      sound = ∣ rw made.free (cleared_sound t made.cleared) ∣₁;
    }
