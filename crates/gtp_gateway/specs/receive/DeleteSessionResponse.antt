-- Delete Session Responses that the serving gateway gets.
use Rattle.std.specs.Prelude.{◌≡◌}
use Rattle.gtp_machine.specs.Message as messages
use Rattle.gtp_machine.specs.Serving.{DeleteSessionAnswered}
use Rattle.gtp_machine.specs.Node.{Arrival}
use Rattle.gtp_gateway.specs.declared.receive.response.Response.{Response}
use Rattle.gtp_gateway.specs.declared.step.ControlStep.{ControlStep}
use Rattle.gtp_gateway.specs.GatewayState.{GatewayState}
use Rattle.gtp_gateway.specs.receive.Row.{IsRow}

-- a Delete Session Response was taken
abbrev pub TakesDeleteSessionResponse : Response → GatewayState → ControlStep → GatewayState → Type 0
TakesDeleteSessionResponse r old step new =
    (request : Arrival) (d : messages.DeleteSessionResponse) → d.header ≡ r.header → d.number ≡ r.seq → d.cause ≡ r.cause
    → IsRow (DeleteSessionAnswered d) request old.role old.node step new
