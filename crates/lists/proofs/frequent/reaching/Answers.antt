-- The entries that reach the threshold are the first ones, up to the first that does not.
use Rattle.std.proofs.Common.{◌≡◌, ◌≤◌, length, take, sym, ap, ◌∙◌, inl, rules, arith}
use borrow.Author.Tests.{tests}
use Rattle.std.specs.List.{prefix_len}
use Rattle.std.proofs.lemmas.List.{length-take}
use Rattle.std.proofs.lemmas.List.Folds.{length-prefix_len}
use Rattle.std.proofs.lemmas.Iterator.Consumers.{YieldsList-from_first, count_from_yields_List}
use Rattle.std.proofs.lemmas.Iterator.Search.{YieldsList-from_take_while}
use Rattle.rows.specs.Questions.{by_position, sure}
use Rattle.calls.specs.Lists.{line}
use Rattle.lists.specs.Row.{row_of}
use Rattle.lists.specs.Walks.{ahead}
use Rattle.lists.proofs.Sorting.{highest_first}
use Rattle.lists.proofs.Listing.{reached, reaching_first, number_of}
use Rattle.lists.proofs.frequent.reaching.Given.{Over}
use Rattle.lists.proofs.frequent.reaching.Goals as goal

pub count-requires-clause-fits : goal.count-requires-clause-fits
count-requires-clause-fits g c = let same : ahead c.take_while.result.iter ≡ ahead c.new.result = cc in inl (omega (arith, ap length same, c.new.ensures.few))

prefix : (g : Over) (c : goal.After-count g) → c.count.result ≡ prefix_len (reached c.args.threshold) (by_position (row_of c.args.counters.now))
prefix g c =
    let es = by_position (row_of c.args.counters.now) in
    let all : ahead c.take_while.result.iter ≡ es = let all = c.new.ensures.all in cc in
    count_from_yields_List c.take_while.result c.count.result c.count.ensures.ran (YieldsList-from_take_while _ (reached c.args.threshold) (YieldsList-from_first (λ x. x) ahead es all) c.take_while.ensures.closure c.take_while.ensures.done (λ x b q k. search (rules, tests))) ∙ length-prefix_len (reached c.args.threshold) es

pub returns-clause-list : goal.returns-clause-list
returns-clause-list g c =
    let es = by_position (row_of c.args.counters.now) in
    reaching_first c.args.threshold es (highest_first c.args.counters.now) ∙ ap (λ n. take n es) (sym (prefix g c))

pub returns-clause-number : goal.returns-clause-number
returns-clause-number g c =
    let es = by_position (row_of c.args.counters.now) in
    let within : prefix_len (reached c.args.threshold) es ≤ length es = omega (arith, length-prefix_len (reached c.args.threshold) es, length-take (prefix_len (reached c.args.threshold) es) es) in
    number_of (λ e. line (sure c.args.threshold e) e) _ es c.count.result (omega (arith, prefix g c)) (returns-clause-list g c)
