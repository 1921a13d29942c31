-- What a line to a gateway is answered with, and how the gateway goes on.
use Rattle.std.specs.Prelude.{◌≡◌, ℕ, ◌⊎◌, List, Option, Some, None, codes}
use Rattle.json.specs.Json.{Json}
use Rattle.gtp_machine.specs.Input.{Command, Commanded, refused}
use Rattle.gtp_machine.specs.Step.{Step as MachineStep}
use Rattle.gtp_machine.specs.declared.outcome.Refusal.{Refusal}
use Rattle.gtp_gateway.specs.command.Command.{IsCarriedOut, IsTimed}
use Rattle.gtp_gateway.specs.receive.Choosing.{ChoosesLowest}
use Rattle.gtp_gateway.specs.receive.Received.{IsReceived, QueuesAfterReceive}
use Rattle.gtp_gateway.specs.GatewayState.{GatewayState, starting}
use Rattle.gtp_gateway.specs.Tick.{IsTicked, QueuesAfterTick}
use Rattle.gtp_gateway.specs.declared.sent.Begun.{Begun}
use Rattle.gtp_gateway.specs.declared.step.Step.{Step}
use Rattle.gtp_gateway.specs.declared.tick.Ticked.{Ticked}
use Rattle.gtp_values.specs.declared.address.Endpoint.{Endpoint}
use Rattle.gtp_values.specs.declared.plane.Plane.{Plane}
use Rattle.gtp_serve.specs.Heads.{Head, head_in}
use Rattle.gtp_serve.specs.Requests.{Request, Commands, Receives, Ticks, Lists, request_in}
use Rattle.gtp_serve.specs.Replies.{of_begun, of_refusal, of_step, of_tick, reply_json, contexts_json}
use Rattle.gtp_serve.specs.Served.{Stays}

-- A command is carried out: a step of the machine, which sends exactly this. A node tells the place of the peer.
pub record CarriesOut (peer : Option ℕ) (command : Command) (old : GatewayState) (answer : Json) (new : GatewayState) : Type 0 where
  pub begun : Begun
  pub done : IsCarriedOut command old begun new
  pub timed : IsTimed command old begun new
  pub told : answer ≡ reply_json peer (of_begun command begun)

-- A command is refused, as the machine refuses it, and nothing changes.
pub record RefusesIt (peer : Option ℕ) (command : Command) (old : GatewayState) (answer : Json) (new : GatewayState) : Type 0 where
  pub why : Refusal
  pub refuses : MachineStep old.role old.node (Commanded command) (refused old.node why)
  pub still : new ≡ old
  pub told : answer ≡ reply_json peer (of_refusal why)

-- A datagram is received: a step of the machine, which sends, tells and accepts exactly this.
pub record Takes (peer : Option ℕ) (plane : Plane) (source : Endpoint) (octets : List ℕ) (old : GatewayState) (answer : Json) (new : GatewayState) : Type 0 where
  pub step : Step
  pub received : IsReceived plane source octets old step new
  pub queues : QueuesAfterReceive plane source octets step old new
  pub choices : ChoosesLowest step.report.made old.role old.node new.node
  pub told : answer ≡ reply_json peer (of_step step)

-- A tick passes.
pub record Passes (peer : Option ℕ) (old : GatewayState) (answer : Json) (new : GatewayState) : Type 0 where
  pub ticked : Ticked
  pub passed : IsTicked old ticked new
  pub counts : QueuesAfterTick old new
  pub told : answer ≡ reply_json peer (of_tick ticked)

-- a request is done, and told of
abbrev pub Does : Option ℕ → Request → GatewayState → Json → GatewayState → Type 0
Does peer (Commands command) old answer new = CarriesOut peer command old answer new ⊎ RefusesIt peer command old answer new
Does peer (Receives plane source octets) old answer new = Takes peer plane source octets old answer new
Does peer Ticks old answer new = Passes peer old answer new
Does peer Lists old answer new = (answer ≡ contexts_json peer old.role old.node) × (new ≡ old)

-- what a line asks is done; a line that asks nothing changes nothing
abbrev pub Follows : Option Request → GatewayState → Json → GatewayState → Type 0
Follows (Some request) old answer new = Does None request old answer new
Follows None old answer new = Stays (codes "bad line") old answer new

-- a line to one gateway
abbrev pub GatewayDoes : List ℕ → GatewayState → Json → GatewayState → Type 0
GatewayDoes line = Follows (request_in line)

-- the gateway that a head says, as it starts
abbrev pub started : Head → GatewayState
started head = starting head.role head.settings head.counter

-- the line says this gateway, which has just started
abbrev pub GatewayStarts : List ℕ → GatewayState → Type 0
GatewayStarts line new = (head : Head) × (head_in line ≡ Some head) × (new ≡ started head)

-- it says none
abbrev pub SaysNoGateway : List ℕ → Type 0
SaysNoGateway line = head_in line ≡ None
