-- A message was taken, once its restart counter was heard.
use Rattle.std.specs.Prelude.{◌≡◌, Option, None, option_map}
use Rattle.gtp_values.specs.declared.counter.Counter.{Counter}
use Rattle.gtp_machine.specs.Config.{Config}
use Rattle.gtp_machine.specs.Message.{Message, recovery_of}
use Rattle.gtp_machine.specs.declared.role.Role.{Role}
use Rattle.gtp_machine.specs.Node.{Arrival, Node}
use Rattle.gtp_machine.specs.Input.{Came_to, nothing, Effect}
use Rattle.gtp_gateway.specs.declared.step.ControlStep.{ControlStep}
use Rattle.gtp_gateway.specs.declared.receive.restart_counter.Heard.{Heard}
use Rattle.gtp_gateway.specs.receive.RestartCounter.{weighed_by, node_heard}
use Rattle.gtp_machine.specs.Step.{TakesBy}
use Rattle.gtp_gateway.specs.messages.Sent.{AreSent}
use Rattle.gtp_gateway.specs.GatewayState.{GatewayState}
use Rattle.gtp_gateway.specs.receive.Taken.{datagrams, made_for}

-- the step tells what the effect has, which has nothing else to tell, and nothing of a counter
pub record TellsRow (config : Config) (request : Arrival) (step : ControlStep) (e : Effect) : Type 0 where
  pub sent : AreSent config (datagrams step.out) e.out.sent
  pub outcome : Came_to step.report.outcome ≡ e.outcome
  pub alone : step.report.second ≡ None
  pub made : made_for request step.report.made ≡ e.out.made
  pub heard : e.out.heard ≡ None
  pub learned : e.out.learned ≡ None
  pub untold : step.report.heard ≡ None
  pub unlearned : step.report.restart ≡ None
  pub all : e.out ≡ record nothing { sent = e.out.sent; made = e.out.made }

-- what the machine does with the message at a gateway that has heard its counter was done
pub record IsRow (Takes : Node → Effect → Type 0) (request : Arrival) (role : Role) (old : Node) (step : ControlStep) (new : GatewayState) : Type 0 where
  pub effect : Effect
  pub takes : Takes old effect
  pub tells : TellsRow old.config request step effect
  pub becomes : new.node ≡ effect.node
  pub role_stays : new.role ≡ role

-- a message was taken, once its counter was heard
abbrev pub IsHeardRow : Arrival → Message → Heard → GatewayState → ControlStep → GatewayState → Type 0
IsHeardRow request m heard old step new = IsRow (TakesBy old.role request m) request old.role (node_heard heard old.node) step new

-- what the counter of a message says, by the one that the gateway knows
abbrev pub IsWeighed : Heard → Message → GatewayState → Type 0
IsWeighed heard m s = (counter : Option Counter) × (option_map (λ c. c.0) counter ≡ recovery_of m) × (heard ≡ weighed_by counter s.node.known)
