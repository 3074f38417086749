-- The counter at a place is the entry there; there is none for a place not in use.
use Rattle.std.proofs.Common.{◌∙◌}
use Rattle.counters.proofs.Showings.{entry_there, no_entry, entry_at_position}
use Rattle.counters.proofs.counters.Counters.entry.Goals as goal

pub returns-then-place-self : goal.returns-then-place-self
returns-then-place-self g c =
    let s = c.args.self.now in
    let none = no_entry g.row.T.coded s c.args.place c.if-place-self.true in
    record { found = none; at = λ i e. none ∙ entry_at_position g.row.T.coded s c.args.place i e }

pub returns : goal.returns
returns g c =
    let s = c.args.self.now in
    let there = c.entry.ensures ∙ entry_there g.row.T.coded s c.args.place c.if-place-self.false in
    record { found = there; at = λ i e. there ∙ entry_at_position g.row.T.coded s c.args.place i e }
