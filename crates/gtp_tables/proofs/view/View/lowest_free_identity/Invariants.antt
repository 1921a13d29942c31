use Rattle.std.proofs.Common.{ℕ, ◌≤◌, ◌<◌}
use Rattle.gtp_tables.specs.Identity.{HasIdentity}
use Rattle.gtp_tables.proofs.view.View.lowest_free_identity.Given as goal

abbrev pub invariant-loop-number : goal.invariant-loop-number
invariant-loop-number l = (i : ℕ) → 5 ≤ i → i < l.number → HasIdentity l.self.bearers l.session i
