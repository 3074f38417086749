-- The digits from the right, each with its weight.
use Rattle.std.proofs.Common.{◌≡◌, ◌≤◌, inl, length, reverse, rules, tests, ◌∙◌, arith}
use Rattle.std.proofs.lemmas.Iterator.{YieldsList-from_map}
use Rattle.std.proofs.lemmas.Iterator.Adapters.{YieldsList-from_rev_slice, serves_from_places, fits_from_length, at_most_from_yields_List}
use Rattle.std.proofs.lemmas.Iterator.Consumers.{YieldsList-at, YieldsList-from_enumerate, sum_by_from_yields_List}
use Rattle.std.proofs.lemmas.List.{length-reverse}
use Rattle.std.proofs.lemmas.List.FromFn.{length-enumerate_from}
use Rattle.items.proofs.Digits.{weighs, sum_of_weights, digit_from_right}
use Rattle.items.proofs.Articles.{count_short}
use Rattle.items.proofs.article.Digits.check_sum.Goals as goal

pub sum-requires-clause-can : goal.sum-requires-clause-can
sum-requires-clause-can c =
    let bytes = c.args.self.now.bytes.now in
    let road = YieldsList-from_enumerate (YieldsList-at c.enumerate.ensures.source (YieldsList-from_rev_slice bytes cc)) c.enumerate.ensures.count in
    let short : length bytes ≤ 14 = count_short _ _ c.args.self.now.counted in
    let rest : c.map.result.iter.iter.iter.rest.now ≡ bytes = cc in
    let none : c.map.result.iter.count ≡ 0 = cc in (
      (tt, tt, inl (omega arith)),
      serves_from_places (YieldsList-at c.map.ensures.source road) (λ x q k. search (rules, tests))
          (λ x k inside at.
          let digit : (48 ≤ x.1.now) × (x.1.now ≤ 57) = digit_from_right bytes c.args.self.now.digits k (x.0, x.1.now) inside at in
          search rules),
    )

pub sum-requires-clause-fits : goal.sum-requires-clause-fits
sum-requires-clause-fits c =
    let bytes = c.args.self.now.bytes.now in
    let road = YieldsList-from_enumerate (YieldsList-at c.enumerate.ensures.source (YieldsList-from_rev_slice bytes cc)) c.enumerate.ensures.count in
    let short : length bytes ≤ 14 = count_short _ _ c.args.self.now.counted in
    fits_from_length _ _ 14 _ (at_most_from_yields_List (YieldsList-at c.map.ensures.source road) (omega (arith, length-enumerate_from 0 (reverse bytes), length-reverse bytes)))
    c.map.ensures.closure (omega arith) (λ x r q k. search (rules, tests))

pub returns : goal.returns
returns c =
    let bytes = c.args.self.now.bytes.now in
    let road = YieldsList-from_enumerate (YieldsList-at c.enumerate.ensures.source (YieldsList-from_rev_slice bytes cc)) c.enumerate.ensures.count in
    sum_by_from_yields_List weighs _ c.map.result _ c.sum.ensures.ran
    (YieldsList-from_map _ weighs (YieldsList-at c.map.ensures.source road) c.map.ensures.closure (λ x r q k. search (rules, tests)))
    ∙ sum_of_weights bytes
