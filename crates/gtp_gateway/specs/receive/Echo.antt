-- Echo Request and Echo Response.
use Rattle.std.specs.Prelude.{◌≡◌, ℕ}
use Rattle.gtp_machine.specs.Message as messages
use Rattle.gtp_machine.specs.Answer.{echoed}
use Rattle.gtp_machine.specs.Response.{EchoAnswered}
use Rattle.gtp_machine.specs.Node.{Arrival}
use Rattle.gtp_gateway.specs.declared.step.ControlStep.{ControlStep}
use Rattle.gtp_gateway.specs.declared.receive.restart_counter.Heard.{Heard}
use Rattle.gtp_gateway.specs.receive.RestartCounter.{node_heard}
use Rattle.gtp_gateway.specs.GatewayState.{GatewayState}
use Rattle.gtp_gateway.specs.receive.Row.{IsRow}

-- an Echo Request was taken
abbrev pub AnswersEcho : Arrival → ℕ → Heard → GatewayState → ControlStep → GatewayState → Type 0
AnswersEcho arrival number heard old step new =
    (q : messages.Echo) → q.number ≡ number → IsRow (λ node e. e ≡ echoed arrival q node) arrival old.role (node_heard heard old.node) step new

-- an Echo Response was taken
abbrev pub TakesEchoResponse : ℕ → GatewayState → ControlStep → GatewayState → Type 0
TakesEchoResponse number old step new =
    (request : Arrival) (a : messages.Echo) → a.number ≡ number → IsRow (EchoAnswered a) request old.role old.node step new
