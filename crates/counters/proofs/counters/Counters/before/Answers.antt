-- The counter before one is the entry right below; there is none for a place not in use.
use Rattle.std.proofs.Common.{◌∙◌}
use Rattle.counters.proofs.Showings.{lower_place, no_lower_place, one_below}
use Rattle.counters.proofs.counters.Counters.before.Goals as goal

pub returns-then-place-self : goal.returns-then-place-self
returns-then-place-self g c =
    let s = c.args.self.now in
    let none = no_lower_place s c.args.place c.if-place-self.true in
    record { below = none; steps = λ i e. none ∙ one_below s c.args.place i e }

pub returns : goal.returns
returns g c =
    let s = c.args.self.now in
    let below = c.place_of.ensures ∙ c.before-2.ensures ∙ lower_place s c.args.place c.if-place-self.false in
    record { below = below; steps = λ i e. below ∙ one_below s c.args.place i e }
