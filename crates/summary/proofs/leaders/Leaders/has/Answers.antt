-- One of the positions holds the item where the item is listed.
use Rattle.std.proofs.Common.{◌≡◌, ◌∙◌, take, rules}
use borrow.Author.Tests.{tests}
use Rattle.std.proofs.lemmas.Iterator.{YieldsList-from_take}
use Rattle.std.proofs.lemmas.Iterator.Consumers.{YieldsList-from_first}
use Rattle.std.proofs.lemmas.Iterator.Search.{any_from_yields_List}
use Rattle.rows.specs.Questions.{by_position}
use Rattle.lists.specs.Row.{row_of}
use Rattle.lists.specs.Walks.{ahead}
use Rattle.summary.proofs.Surveying.{any_listed}
use Rattle.summary.proofs.leaders.Leaders.has.Goals as goal

pub returns : goal.returns
returns g c =
    let l = c.args.self.now in
    let es = by_position (row_of l.counters.now) in
    let all : ahead c.take.result.iter ≡ es = let all = c.new.ensures.all in cc in
    any_from_yields_List (λ e. g.T.Kind.same e.item c.args.item.now) c.any.new.self _ _ c.any.ensures.ran (YieldsList-from_take l.k (YieldsList-from_first (λ x. x) ahead es all) c.take.ensures.count) (λ x b q k. search (rules, tests))
    ∙ any_listed g.T.Kind.same c.args.item.now (take l.k es)
