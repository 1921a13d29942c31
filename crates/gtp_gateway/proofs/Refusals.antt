-- Commands that are refused, and commands that are not.
use Rattle.std.proofs.Common.{◌≡◌, ℕ, ◌<◌, ◌≤◌, List, length, Option, sym, ◌∙◌, ap, subst, arith}
use Rattle.std.specs.FinMap.{len}
use Rattle.gtp_reliable.specs.Waiting.{Waiting}
use Rattle.gtp_reliable.specs.Pending.{AreDistinct}
use Rattle.gtp_machine.specs.Node.{Node}
use Rattle.gtp_machine.specs.Choice.{HasPendingRoom}
use Rattle.gtp_machine.specs.Input.{Came_to, Effect, refused}
use Rattle.gtp_machine.specs.declared.outcome.Refusal.{Refusal}
use Rattle.gtp_machine.specs.declared.outcome.Outcome.TheVariants as outcomes
use Rattle.gtp_gateway.specs.declared.command.purpose.Purpose.{Purpose}
use Rattle.gtp_gateway.specs.Parts.{pending_in}
use Rattle.gtp_gateway.proofs.Requests.{len_pending}

not_begun : (why : Refusal) (teid : Option ℕ) → Came_to (outcomes.Refused why) ≡ Came_to (outcomes.Begun teid) → ⊥
not_begun why teid is = cc

one_reason : (why other : Refusal) → Came_to (outcomes.Refused why) ≡ Came_to (outcomes.Refused other) → why ≡ other
one_reason why other is = cc

-- what begins a request is not refused
pub asks_on : {old : Node} {e : Effect} {teid : Option ℕ} (why : Refusal) → refused old why ≡ e → e.outcome ≡ Came_to (outcomes.Begun teid) → ⊥
asks_on {teid = teid} why is begins = not_begun why teid (ap (λ (e : Effect). e.outcome) is ∙ begins)

-- two refusals that are one have one reason
pub same_reason : (old : Node) (why other : Refusal) → refused old why ≡ refused old other → why ≡ other
same_reason old why other is = one_reason why other (ap (λ (e : Effect). e.outcome) is)

module _ (old : Node) (ws : List (Waiting Purpose)) (distinct : AreDistinct ws) (same : old.pending ≡ pending_in ws) where
  count : ◌≡◌ {A = ℕ} (len old.pending) (length ws)
  count = ap len same ∙ len_pending ws distinct

  pub has_room : length ws < 256 → HasPendingRoom old
  has_room few = record { few = subst (λ (n : ℕ). n < 256) (sym count) few }

  pub has_none : 256 ≤ length ws → HasPendingRoom old → ⊥
  has_none many room = let few : length ws < 256 = subst (λ (n : ℕ). n < 256) count room.few in omega (arith, few, many)
