-- The numbers that are computed from others: thresholds and shares.
use Rattle.std.proofs.Common.{◌≡◌, ℕ, suc, ◌+◌, ◌-◌, ◌*◌, ◌/◌, ◌<◌, ◌≤◌, max, eqb, refl, div-lt_iff_lt-mul, mul-le-mul_left, arith}
use native.Mathlib.Nat.{mul-div-le, lt-mul-div-succ}
use Rattle.std.proofs.lemmas.Bool.{cond_both, eqb-true, eqb-false}
use Rattle.rows.specs.Questions.{threshold, share}
use Rattle.rows.specs.Promises.{LeastThreshold, TrueShare}

pub least_threshold : (p q n : ℕ) → 1 ≤ q → LeastThreshold p q n (threshold p q n)
least_threshold p q n pos =
    let up : ℕ = (p * n + (q - 1)) / q in
    let grown : q * up ≤ q * max 1 up = mul-le-mul_left q (omega arith) in
    record {
      positive = omega arith;
      reaches = omega arith;
      least = λ s one h.
          let below : up < suc s = (div-lt_iff_lt-mul pos).1 (omega arith) in
          omega arith;
    }

pub true_share : (figure n : ℕ) → TrueShare figure n (share figure n)
true_share figure n =
    let doubled : ℕ = 2 * (1000 * figure) + n in
    let quotient : ℕ = doubled / (2 * n) in
    let low : 2 * n * quotient ≤ doubled = mul-div-le doubled (2 * n) in
    cond_both (eqb n 0) 0 quotient (TrueShare figure n)
    (λ t.
    let none : n ≡ 0 = eqb-true n 0 t in
    record { not_above = λ some. absurd (omega arith); not_below = λ some. absurd (omega arith); of_no_hits = λ _. refl })
    (λ t.
    let some : n ≡ 0 → ⊥ = eqb-false n 0 t in
    let high : doubled < 2 * n * (quotient + 1) = lt-mul-div-succ doubled (omega arith) in
    record { not_above = λ _. omega arith; not_below = λ _. omega arith; of_no_hits = λ none. absurd (some none) })
