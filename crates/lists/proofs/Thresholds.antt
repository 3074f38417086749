-- The threshold of a support: a division that rounds up.
use Rattle.std.proofs.Common.{◌≡◌, ℕ, ◌+◌, ◌-◌, ◌*◌, ◌/◌, ◌%◌, ◌<◌, ◌≤◌, min, div-lt_iff_lt-mul, le-div_iff_mul-le, add-mul, arith}
use Rattle.std.proofs.lemmas.Grind.{div_ceil_times}

pub rounded_up : (a b : ℕ) → 0 < b → a / b + min 1 (a % b) ≡ (a + (b - 1)) / b
rounded_up a b some =
    let q : ℕ = a / b + min 1 (a % b) in
    let bounds = div_ceil_times a b some in
    let one : (q + 1) * b ≡ q * b + 1 * b = add-mul q 1 b in
    let low : q ≤ (a + (b - 1)) / b = (le-div_iff_mul-le some).1 (omega (arith, bounds.1)) in
    let high : (a + (b - 1)) / b < q + 1 = (div-lt_iff_lt-mul some).1 (omega (arith, bounds.0)) in
    omega arith
