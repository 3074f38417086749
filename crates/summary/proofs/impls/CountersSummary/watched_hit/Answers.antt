-- A watched hit is a hit between two looks at the first positions; what it tells is what entered and what left.
use Rattle.std.proofs.Common.{rules, ◌≡◌, ℕ, ap, ◌∙◌, subst}
use Rattle.rows.specs.Questions.{watched}
use Rattle.table.specs.Placed.{entries}
use Rattle.counters.specs.Meaning.{size, placed}
use Rattle.calls.specs.Conditions.{Ranked}
use Rattle.calls.specs.Calls.{entry_at}
use Rattle.calls.specs.Watching.{form_of, told}
use Rattle.calls.proofs.FinderCalls.{keeps_watched}
use Rattle.lists.proofs.Ends.{was_ranked}
use Rattle.summary.specs.Meaning.{reading, Structured}
use Rattle.summary.proofs.Admitting.{reliable}
use Rattle.summary.proofs.Answering.{hit_accepted}
use Rattle.summary.proofs.Watching.{told_by, told_hit, ranked_ends}
use Rattle.summary.proofs.impls.CountersSummary.watched_hit.Goals as goal

pub returns-in_err-check_rank-clause-keeps : goal.returns-in_err-check_rank-clause-keeps
returns-in_err-check_rank-clause-keeps g c = keeps_watched g.T.Kind.same g.met.T.Kind.equivalence g.F.Finder.bindings g.F.Finder.room g.F.Finder.lawful reading Structured reliable _ _ _ _ _ _ _ (search rules)

pub returns-in_err-place-clause-keeps : goal.returns-in_err-place-clause-keeps
returns-in_err-place-clause-keeps g c = keeps_watched g.T.Kind.same g.met.T.Kind.equivalence g.F.Finder.bindings g.F.Finder.room g.F.Finder.lawful reading Structured reliable _ _ _ _ _ _ _ (search rules)

pub returns : goal.returns
returns g c =
    let same = g.T.Kind.same in
    let laws = g.met.T.Kind.equivalence in
    let s = c.args.self.now in
    let f = c.args.finder.now in
    let x = c.args.item in
    let k = c.args.k in
    let place = c.in_ok-place.place in
    let s' = c.count.new.counters in
    let f' = c.count.new.finder in
    let ranked : Ranked (size s) k = subst (λ (m : ℕ). Ranked m k) c.size.ensures (was_ranked c.size.result k c.in_ok-check_rank.ensures) in
    let a = watched same k (entries (placed s)) (entries (placed s')) in
    let tells : c.changes.result ≡ told same k x (form_of (entry_at (placed s) place) x) (entries (placed s)) (entries (placed s')) =
    told_by same c.changes.result k x c.form_of-form.result _ (entries (placed s)) (entries (placed s')) _ _ c.survey-before.result.leads c.survey-before.result.last c.changes.ensures c.new-2.ensures
    c.survey-before.ensures.leads c.survey-before.ensures.last c.new.ensures (c.form_of-form.ensures ∙ ap (λ o. form_of o x) c.entry_at.ensures) in
    let answered = ranked_ends same laws g.F.Finder.bindings g.F.Finder.room g.F.Finder.lawful s f x k a _ s' f' ranked
    (hit_accepted same g.F.Finder.bindings g.F.Finder.room g.F.Finder.lawful s f x a c.admit.result c.admit.ensures place c.changes.result s' f' c.in_ok-place.was c.count.ensures
    (λ found own did. tells ∙ told_hit same laws g.F.Finder.bindings g.F.Finder.room g.F.Finder.lawful s f x k place s' f' ranked found own did)) in
    record {
      answered = answered;
      keeps = keeps_watched same laws g.F.Finder.bindings g.F.Finder.room g.F.Finder.lawful reading Structured reliable _ _ _ _ _ _ _ answered;
    }
