-- Along the walk each lower figure was at least the next count.
use Rattle.std.proofs.Common.{◌≡◌, ℕ, ◌≤◌, length, drop, sym, ap, ◌∙◌, inl, arith}
use Rattle.rows.specs.Questions.{by_position}
use Rattle.counters.specs.Meaning.{size}
use Rattle.lists.specs.Row.{row_of}
use Rattle.lists.specs.Walks.{ahead}
use Rattle.lists.proofs.Fronts.{splits, first, first_none}
use Rattle.lists.proofs.Sorting.{count_under, outside_under}
use Rattle.lists.proofs.Falls.{looked_none, looked_more, looked_rise, looked_enough, looked_all}
use Rattle.lists.proofs.top.falls.Goals as goal

pub loop-n-init : goal.loop-n-init
loop-n-init g c =
    let s = c.args.counters.now in
    let it = c.into_iter-n-iterator.result in
    let all : ahead it.iter ≡ by_position (row_of s) = let all = c.new.ensures.all in cc in
    let none : it.count ≡ 0 = cc in
    let few : length (ahead it.iter) ≤ 512 = let same : ahead it.iter ≡ ahead c.new.result = cc in omega (arith, ap length same, c.new.ensures.few) in (
      (tt, tt, inl (omega arith)),
      tt,
      all ∙ ap (λ (n : ℕ). drop n (by_position (row_of s))) (sym none),
      looked_none (size s) c.args.k s.total (row_of s) it.count _ none c.total-last.ensures,
    )

pub returns-then-last-entry : goal.returns-then-last-entry
returns-then-last-entry g c =
    let s = c.args.counters.now in
    let it = c.loop-n.n-iterator in
    let inv = c.loop-n.invariant in
    let at = (splits (by_position (row_of s)) it.count c.in-Some.entry _ (sym c.in-Some.ensures.steps.0 ∙ inv.2)).0 in
    looked_rise (size s) c.args.k s.total (row_of s) it.count c.loop-n.last c.in-Some.entry at (count_under s it.count c.in-Some.entry at) c.if-last-entry.true inv.3

pub returns-then-n-k : goal.returns-then-n-k
returns-then-n-k g c =
    let s = c.args.counters.now in
    let it = c.loop-n.n-iterator in
    let inv = c.loop-n.invariant in
    let step = c.in-Some.ensures.steps in
    let at = (splits (by_position (row_of s)) it.count c.in-Some.entry _ (sym step.0 ∙ inv.2)).0 in
    let done : c.args.k ≤ it.count = omega (arith, step.1, c.if-n-k.true) in
    looked_enough (size s) c.args.k s.total (row_of s) it.count c.loop-n.last c.in-Some.entry at (count_under s it.count c.in-Some.entry at) done c.if-last-entry.false inv.3

pub loop-n-preserved : goal.loop-n-preserved
loop-n-preserved g c =
    let s = c.args.counters.now in
    let it = c.loop-n.n-iterator in
    let inv = c.loop-n.invariant in
    let step = c.in-Some.ensures.steps in
    let on = c.in-Some.ensures.goes.on inv.1 in
    let behind = splits (by_position (row_of s)) it.count c.in-Some.entry _ (sym step.0 ∙ inv.2) in (
      on.0,
      on.1,
      behind.1 ∙ ap (λ (n : ℕ). drop n (by_position (row_of s))) (sym step.2),
      looked_more (size s) c.args.k s.total (row_of s) it.count _ c.loop-n.last _ c.in-Some.entry behind.0 (count_under s it.count c.in-Some.entry behind.0) (omega (arith, step.1, c.if-n-k.false)) c.if-last-entry.false step.2 c.lower-last.ensures inv.3,
    )

pub returns : goal.returns
returns g c =
    let s = c.args.counters.now in
    let it = c.loop-n.n-iterator in
    let inv = c.loop-n.invariant in
    let past = first_none _ it.count (ap first (sym inv.2 ∙ c.in-None.ensures.steps.0.0)) in
    looked_all (size s) c.args.k s.total (row_of s) it.count c.loop-n.last c.outside.result past (outside_under s) c.outside.ensures inv.3
