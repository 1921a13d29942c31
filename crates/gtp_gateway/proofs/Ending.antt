-- A response that only ends its request, as the machine has it.
use Rattle.std.proofs.Common.{◌≡◌, ◌↔◌, inl, inr, ℕ, true, Option, Some, None, refl, sym, subst}
use Rattle.std.specs.FinMap.{get}
use Rattle.gtp_reliable.specs.Pending.{purpose_of}
use Rattle.gtp_machine.specs.declared.outcome.DropReason.TheVariants.{NoPending, Mismatch}
use Rattle.gtp_machine.specs.declared.outcome.Outcome.{Outcome}
use Rattle.gtp_machine.specs.Message.{Message}
use Rattle.gtp_machine.specs.Node.{Arrival, PendingRequest}
use Rattle.gtp_machine.specs.Removal.{finished_about}
use Rattle.gtp_machine.specs.Response.{EndsRequest}
use Rattle.gtp_gateway.specs.declared.command.purpose.Asked.{Asked}
use Rattle.gtp_gateway.specs.declared.command.purpose.Purpose.{Purpose}
use Rattle.gtp_gateway.specs.declared.parts.Parts.{Parts}
use Rattle.gtp_gateway.specs.declared.receive.response.Response.{Response}
use Rattle.gtp_gateway.specs.declared.step.ControlStep.{ControlStep}
use Rattle.gtp_gateway.specs.command.Purpose.{session_of, bearer_of}
use Rattle.gtp_gateway.specs.command.SendRequest.{about}
use Rattle.gtp_gateway.specs.messages.Spelled.{is_for}
use Rattle.gtp_gateway.specs.GatewayState.{GatewayState, state_of}
use Rattle.gtp_gateway.specs.Parts.{node_of}
use Rattle.gtp_gateway.specs.receive.Response.{FitsAsked, EndsAsked}
use Rattle.gtp_gateway.specs.receive.Row.{IsRow}
use Rattle.gtp_gateway.proofs.Pendings.{waits, none_waits_at}
use Rattle.gtp_gateway.proofs.Rows.{drops, ends}

module _ (old : Parts) (number : ℕ) (asked : Asked) (response : Option Response) (outcome : Outcome) (request : Arrival) (Fits : PendingRequest → Type 0)
    (same : (purpose : Purpose) (m : Message) → is_for purpose m ≡ true → FitsAsked asked response purpose ↔ Fits (about purpose m)) where
  pub ended : (step : ControlStep) (new : GatewayState) → EndsAsked number asked response outcome (state_of old) step new
      → IsRow (λ node. EndsRequest node number (λ at. Fits at.pending) outcome) request old.role (node_of old) step new
  ended step new (inl (none, (is, stays))) =
      subst (λ (s : GatewayState). IsRow (λ node. EndsRequest node number (λ at. Fits at.pending) outcome) request old.role (node_of old) step s) (sym stays)
      (drops (λ node. EndsRequest node number (λ at. Fits at.pending) outcome) request (state_of old) step NoPending is
      (inl (λ here. by (purpose_of number old.pending.waiting) refl here.pending here.waits, refl)))
    where
      by : (o : Option Purpose) → purpose_of number old.pending.waiting ≡ o → (p : PendingRequest) → get (node_of old).pending number ≡ Some p → ⊥
      by None e p here = none_waits_at old.pending.waiting number p e here
      by (Some purpose) e p here = none (record { purpose = purpose; is = e })
  ended step new (inr (at, inl (unfit, (is, stays)))) =
      let w = waits old.config.config.peer.control old.pending.waiting number at.purpose old.asked at.is in
      subst (λ (s : GatewayState). IsRow (λ node. EndsRequest node number (λ at. Fits at.pending) outcome) request old.role (node_of old) step s) (sym stays)
      (drops (λ node. EndsRequest node number (λ at. Fits at.pending) outcome) request (state_of old) step Mismatch is
      (inr (record { pending = about at.purpose w.message; waits = w.stands }, inl (λ fits. unfit ((same at.purpose w.message w.meant).1 fits), refl))))
  ended step new (inr (at, inr (fits, (is, becomes, role)))) =
      let w = waits old.config.config.peer.control old.pending.waiting number at.purpose old.asked at.is in
      ends (λ node. EndsRequest node number (λ at. Fits at.pending) outcome) request (state_of old) new step outcome
      (finished_about (node_of old) number (session_of at.purpose) (bearer_of at.purpose)) is becomes role
      (inr (record { pending = about at.purpose w.message; waits = w.stands }, inr ((same at.purpose w.message w.meant).0 fits, refl)))
