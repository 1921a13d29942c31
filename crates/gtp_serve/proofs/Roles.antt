-- A gateway keeps its role.
use Rattle.std.proofs.Common.{◌≡◌, ℕ, List, inl, inr}
use Rattle.gtp_values.specs.declared.address.Endpoint.{Endpoint}
use Rattle.gtp_values.specs.declared.plane.Plane.{Plane}
use Rattle.gtp_values.specs.declared.plane.Plane.TheVariants.{Control, User}
use Rattle.gtp_gateway.specs.receive.Received.{IsReceived}
use Rattle.gtp_gateway.specs.GatewayState.{GatewayState}
use Rattle.gtp_gateway.specs.declared.step.Step.{Step}

pub received_role : (plane : Plane) (source : Endpoint) (octets : List ℕ) (old : GatewayState) (step : Step) (new : GatewayState) → IsReceived plane source octets old step new → new.role ≡ old.role
received_role Control source octets old step new (inl (none, whole)) = whole.role
received_role Control source octets old step new (inr (pair, both)) = both.role
received_role User source octets old step new is = is.role
