-- The walk has passed no number that is clear, and its running minimum is the least lower figure so far.
use Rattle.std.proofs.Common.{◌≡◌, ℕ, ◌≤◌, leb, min, length, drop, sym, ap, ◌∙◌, inl, Some, arith}
use Rattle.std.proofs.lemmas.Bool.{and_parts, and_from, both_ways, leb-true, le-leb}
use Rattle.rows.specs.Questions.{by_position}
use Rattle.counters.specs.Meaning.{size, placed}
use Rattle.lists.specs.Row.{row_of}
use Rattle.lists.specs.Walks.{ahead}
use Rattle.lists.proofs.Fronts.{splits, first, first_none}
use Rattle.lists.proofs.Places.{length_entries}
use Rattle.lists.proofs.Sorting.{count_under, outside_under}
use Rattle.lists.proofs.Cuts.{searched_none, searched_more, cut_found, cut_at_end, listed_lines}
use Rattle.lists.proofs.top.cut.Goals as goal

pub loop-n-init : goal.loop-n-init
loop-n-init g c =
    let s = c.args.counters.now in
    let it = c.into_iter-n-iterator.result in
    let all : ahead it.iter ≡ by_position (row_of s) = let all = c.new.ensures.all in cc in
    let none : it.count ≡ 0 = cc in
    let few : length (ahead it.iter) ≤ 512 = let same : ahead it.iter ≡ ahead c.new.result = cc in omega (arith, ap length same, c.new.ensures.few) in (
      (tt, tt, inl (omega arith)),
      tt,
      all ∙ ap (λ (n : ℕ). drop n (by_position (row_of s))) (sym none),
      searched_none (size s) c.args.k s.total (row_of s) it.count _ none c.total-least.ensures,
    )

pub returns-then-may_end : goal.returns-then-may_end
returns-then-may_end g c =
    let s = c.args.counters.now in
    let it = c.loop-n.n-iterator in
    let inv = c.loop-n.invariant in
    let step = c.in-Some.ensures.steps in
    let at = (splits (by_position (row_of s)) it.count c.in-Some.entry _ (sym step.0 ∙ inv.2)).0 in
    let ends = and_parts (leb c.args.k c.in-Some.n) (leb c.in-Some.entry.count c.loop-n.least) (sym c.may_end.ensures ∙ c.if-may_end.true) in
    let long : c.args.k ≤ c.in-Some.n = leb-true c.args.k c.in-Some.n ends.0 in
    let reached : c.args.k ≤ it.count = omega (arith, step.1, long) in
    let is = ap Some step.1 ∙ cut_found (size s) c.args.k s.total (row_of s) it.count c.loop-n.least c.in-Some.entry at (count_under s it.count c.in-Some.entry at) reached (leb-true c.in-Some.entry.count c.loop-n.least ends.1) inv.3 in
    record { is = is; lines = listed_lines c.args.k s _ is }

pub loop-n-preserved : goal.loop-n-preserved
loop-n-preserved g c =
    let s = c.args.counters.now in
    let it = c.loop-n.n-iterator in
    let inv = c.loop-n.invariant in
    let step = c.in-Some.ensures.steps in
    let on = c.in-Some.ensures.goes.on inv.1 in
    let behind = splits (by_position (row_of s)) it.count c.in-Some.entry _ (sym step.0 ∙ inv.2) in (
      on.0,
      on.1,
      behind.1 ∙ ap (λ (n : ℕ). drop n (by_position (row_of s))) (sym step.2),
      searched_more (size s) c.args.k s.total (row_of s) it.count _ c.loop-n.least _ c.in-Some.entry behind.0 (count_under s it.count c.in-Some.entry behind.0) (λ reached figure. both_ways _ c.if-may_end.false (c.may_end.ensures ∙ and_from _ _ (le-leb _ _ (omega (arith, step.1))) (le-leb _ _ figure))) step.2 (c.min-least.ensures ∙ ap (min c.loop-n.least) c.lower.ensures) inv.3,
    )

pub returns : goal.returns
returns g c =
    let s = c.args.counters.now in
    let it = c.loop-n.n-iterator in
    let inv = c.loop-n.invariant in
    let past = first_none _ it.count (ap first (sym inv.2 ∙ c.in-None.ensures.steps.0.0)) in
    let is = c.then_some.ensures ∙ cut_at_end (size s) c.args.k s.total (row_of s) it.count c.loop-n.least c.used.result c.outside.result past (c.used.ensures.number ∙ sym (length_entries (placed s))) (outside_under s) c.outside.ensures inv.3 in
    record { is = is; lines = listed_lines c.args.k s _ is }
