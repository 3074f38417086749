-- The lines before the index are those of the list, and the others are as they were.
use Rattle.std.proofs.Common.{◌≡◌, ℕ, ◌<◌, ◌≤◌, length, drop, sym, refl, ap, ◌∙◌, inl, inr, arith}
use Rattle.std.proofs.lemmas.List.{length-reverse}
use Rattle.std.proofs.lemmas.Bool.{cases_eq}
use Rattle.rows.specs.Questions.{by_position}
use Rattle.lists.specs.Row.{row_of}
use Rattle.lists.specs.Marks.{line_of}
use Rattle.lists.specs.Walks.{ahead}
use Rattle.lists.proofs.Fronts.{first, first_none, splits}
use Rattle.lists.proofs.Writing.{write_none, write_more, write_all}
use Rattle.lists.proofs.lines.write_lines.Goals as goal

pub loop-i-init : goal.loop-i-init
loop-i-init g c =
    let es = by_position (row_of c.args.counters.now) in
    let it = c.into_iter-i-iterator.result in
    let all : ahead it.iter.iter ≡ es = let all = c.new.ensures.all in cc in
    let same : ahead it.iter.iter ≡ ahead c.new.result = cc in
    let none : it.count ≡ 0 = cc in
    let left : it.iter.n ≡ c.args.n = cc in (
      (tt, tt, inl (omega (arith, ap length same, c.new.ensures.few))),
      tt,
      omega arith,
      all ∙ ap (λ (n : ℕ). drop n es) (sym none),
      write_none (line_of c.args.threshold) es c.args.lines.now it.count c.args.lines.now none refl,
    )

pub loop-i-preserved : goal.loop-i-preserved
loop-i-preserved g c =
    let es = by_position (row_of c.args.counters.now) in
    let it = c.loop-i.i-iterator in
    let inv = c.loop-i.invariant in
    let step = c.in-Some.ensures.steps in
    let on = c.in-Some.ensures.goes.on inv.1 in
    let behind = splits es it.count c.in-Some.entry _ (sym step.0.0 ∙ inv.3) in
    let room : it.count < length c.args.lines.now = omega (arith, inv.2, step.0.1, c.requires.1) in (
      on.0,
      on.1,
      omega (arith, inv.2, step.0.1, step.2),
      behind.1 ∙ ap (λ (n : ℕ). drop n es) (sym step.2),
      write_more (line_of c.args.threshold) es c.args.lines.now it.count c.in-Some.i _ c.in-Some.entry c.line_of.result c.loop-i.lines behind.0 room step.1 step.2 c.line_of.ensures inv.4,
    )

pub returns : goal.returns
returns g c =
    let es = by_position (row_of c.args.counters.now) in
    let it = c.loop-i.i-iterator in
    let inv = c.loop-i.invariant in
    let within : c.args.n ≤ length es = omega (arith, length-reverse (row_of c.args.counters.now), c.requires.0) in
    let all : it.count ≡ c.args.n = elim (cases_eq it.iter.n 0) [
      | inl none ↦ omega (arith, inv.2)
      | inr some ↦
          let over = first_none es it.count (ap first (sym inv.3 ∙ (c.in-None.ensures.steps.0 (omega arith)).0)) in
          omega (arith, inv.2, over, within)
    ] in
    write_all (line_of c.args.threshold) es c.args.lines.now it.count c.args.n c.loop-i.lines all within inv.4
