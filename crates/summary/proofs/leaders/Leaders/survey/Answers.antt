-- The walk over the positions carries how the item stands to those passed.
use Rattle.std.proofs.Common.{◌≡◌, take, ap, ◌∙◌, rules}
use borrow.Author.Tests.{tests}
use Rattle.std.specs.List.{fold}
use Rattle.std.proofs.lemmas.Iterator.{YieldsList-from_take}
use Rattle.std.proofs.lemmas.Iterator.Consumers.{YieldsList-from_first, fold_from_yields_List}
use Rattle.rows.specs.Questions.{by_position}
use Rattle.lists.specs.Row.{row_of}
use Rattle.lists.specs.Walks.{ahead}
use Rattle.summary.proofs.Surveying.{none_passed, passing, fold_leads, fold_last}
use Rattle.summary.proofs.leaders.Leaders.survey.Goals as goal

pub returns : goal.returns
returns g c =
    let l = c.args.self.now in
    let es = by_position (row_of l.counters.now) in
    let same = g.T.Kind.same in
    let x = c.args.item.now in
    let all : ahead c.take.result.iter ≡ es = let all = c.new.ensures.all in cc in
    let passed : c.fold.result ≡ fold (passing same x) none_passed (take l.k es) =
    fold_from_yields_List _ (passing same x) none_passed _ c.fold.ensures.ran (YieldsList-from_take l.k (YieldsList-from_first (λ x. x) ahead es all) c.take.ensures.count) (λ a x b q k. search (rules, tests)) in
    record {
      leads = ap (λ s. s.leads) passed ∙ fold_leads same x none_passed (take l.k es);
      last = ap (λ s. s.last) passed ∙ fold_last same x (take l.k es);
    }
