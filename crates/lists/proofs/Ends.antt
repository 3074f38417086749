-- A number of positions that passed the check may be asked for.
use Rattle.std.proofs.Common.{◌≡◌, ℕ, Some, None, Ok, Option, refl}
use Rattle.calls.specs.declared.refusal.Refusal.{Refusal}
use Rattle.calls.specs.Refusals.{unless_refused, rank}
use Rattle.calls.specs.Conditions.{Ranked}
use Rattle.calls.proofs.Refusing.{rank_means}

was_passed : (o : Option Refusal) → Ok tt ≡ unless_refused o → o ≡ None
was_passed None e = refl
was_passed (Some other) e = absurd cc

pub was_ranked : (m k : ℕ) → Ok tt ≡ unless_refused (rank m k None) → Ranked m k
was_ranked m k e = (rank_means m k None (was_passed (rank m k None) e)).0
