-- Responses, and the requests that they answer.
use Rattle.std.specs.Prelude.{◌≡◌, ◌⊎◌, ℕ, true, Option, Some, None}
use Rattle.gtp_reliable.specs.Pending.{purpose_of}
use Rattle.gtp_machine.specs.declared.causes.TheConstants.{CONTEXT_NOT_FOUND}
use Rattle.gtp_machine.specs.declared.outcome.DropReason.{DropReason}
use Rattle.gtp_machine.specs.declared.outcome.DropReason.TheVariants.{NoPending, Mismatch}
use Rattle.gtp_machine.specs.declared.outcome.Outcome.{Outcome}
use Rattle.gtp_machine.specs.declared.outcome.Outcome.TheVariants.{Dropped}
use Rattle.gtp_machine.specs.Ordered.{Unless}
use Rattle.gtp_machine.specs.Removal.{finished_about}
use Rattle.gtp_gateway.specs.declared.command.purpose.Asked.{Asked}
use Rattle.gtp_gateway.specs.declared.command.purpose.Purpose.{Purpose}
use Rattle.gtp_gateway.specs.declared.receive.response.Response.{Response}
use Rattle.gtp_gateway.specs.declared.step.ControlStep.{ControlStep}
use Rattle.gtp_gateway.specs.command.Purpose.{session_of, bearer_of}
use Rattle.gtp_gateway.specs.GatewayState.{GatewayState}
use Rattle.gtp_gateway.specs.receive.Taken.{plain_report}

-- the header names the session that the request is about; or it is 0 with the cause that no context was found, where the request's own was not
abbrev pub Names : Response → Purpose → Type 0
Names r purpose = (session_of purpose ≡ Some r.header) ⊎ ((r.header ≡ 0) × (r.cause.value ≡ CONTEXT_NOT_FOUND) × (purpose.is_named ≡ true))

-- the request asks for this, and it is about the session that the response names; an Echo Response names none
abbrev pub FitsAsked : Asked → Option Response → Purpose → Type 0
FitsAsked asked None purpose = purpose.asked ≡ asked
FitsAsked asked (Some r) purpose = (purpose.asked ≡ asked) × Names r purpose

-- a request waits under this number
pub record Awaits (number : ℕ) (s : GatewayState) : Type 0 where
  pub purpose : Purpose
  pub is : purpose_of number s.queues.waiting ≡ Some purpose

-- a datagram was dropped, and nothing has changed
abbrev pub IsDropped : DropReason → GatewayState → ControlStep → GatewayState → Type 0
IsDropped why old step new = (step ≡ record { out = None; report = plain_report (Dropped why) }) × (new ≡ old)

-- A response that only ends its request was taken: it is dropped where no request waits under its number, or where it does not fit that; else the request is
-- finished, and what it was about goes.
abbrev pub EndsAsked : ℕ → Asked → Option Response → Outcome → GatewayState → ControlStep → GatewayState → Type 0
EndsAsked number asked response outcome old step new =
    Unless (Awaits number old) (IsDropped NoPending old step new) (λ at.
    Unless (FitsAsked asked response at.purpose) (IsDropped Mismatch old step new) (λ fits.
    (step ≡ record { out = None; report = plain_report outcome })
    × (new.node ≡ finished_about old.node number (session_of at.purpose) (bearer_of at.purpose)) × (new.role ≡ old.role)))
