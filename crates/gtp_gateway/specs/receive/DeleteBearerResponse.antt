-- Delete Bearer Responses that the packet gateway gets.
use Rattle.std.specs.Prelude.{◌≡◌}
use Rattle.gtp_machine.specs.Message as messages
use Rattle.gtp_machine.specs.Packet.{DeleteBearerAnswered}
use Rattle.gtp_machine.specs.Node.{Arrival}
use Rattle.gtp_gateway.specs.declared.receive.response.Response.{Response}
use Rattle.gtp_gateway.specs.declared.step.ControlStep.{ControlStep}
use Rattle.gtp_gateway.specs.GatewayState.{GatewayState}
use Rattle.gtp_gateway.specs.receive.Row.{IsRow}

-- a Delete Bearer Response was taken
abbrev pub TakesDeleteBearerResponse : Response → GatewayState → ControlStep → GatewayState → Type 0
TakesDeleteBearerResponse r old step new =
    (request : Arrival) (d : messages.DeleteBearerResponse) → d.header ≡ r.header → d.number ≡ r.seq → d.cause ≡ r.cause
    → IsRow (DeleteBearerAnswered d) request old.role old.node step new
