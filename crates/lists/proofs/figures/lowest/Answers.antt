-- The entry at the first place is the first of the row.
use Rattle.std.proofs.Common.{sym, ◌∙◌}
use Rattle.counters.specs.Meaning.{placed}
use Rattle.lists.proofs.Places.{no_lowest}
use Rattle.lists.proofs.figures.lowest.Goals as goal

pub returns-in_err-place : goal.returns-in_err-place
returns-in_err-place g c = c.from_residual.ensures ∙ sym (no_lowest (placed c.args.counters.now) (sym c.first.ensures ∙ c.in_err-place.was))
