-- The steps of one gateway.
use Rattle.std.specs.Prelude.{◌≡◌, List, [], ◌∷◌}
use Rattle.gtp_machine.specs.Config.{Config}
use Rattle.gtp_machine.specs.Message.{Message, CreateSessionResponse, CreateBearerRequest, Create_session_response, Create_bearer_request}
use Rattle.gtp_machine.specs.Node.{Role, Serving, Packet, Arrival, Node}
use Rattle.gtp_machine.specs.Input.{Move, Input, Commanded, Control_came, User_came, Moves_on, Out, Effect}
use Rattle.gtp_machine.specs.Move.{MoveStep}
use Rattle.gtp_machine.specs.Tick.{TickStep}
use Rattle.gtp_machine.specs.User.{UserStep}
use Rattle.gtp_machine.specs.Command.{CommandStep}
use Rattle.gtp_machine.specs.Answer.{TakesReading, ControlStep}
use Rattle.gtp_machine.specs.Serving.{ServingTakes}
use Rattle.gtp_machine.specs.Packet.{PacketTakes}
use Rattle.gtp_machine.specs.Reading.{DatagramReading, Both}

-- what a gateway does with a message that it takes, once the peer's counter was heard
abbrev pub TakesBy : Role → Arrival → Message → Node → Effect → Type 0
TakesBy Serving = ServingTakes
TakesBy Packet = PacketTakes

-- A step of a gateway: what it may give for an input.
abbrev pub Step : Role → Node → Input → Effect → Type 0
Step role old (Commanded command) e = CommandStep role command old e
Step role old (Control_came request reading) e = ControlStep (TakesReading role (TakesBy role) reading) request old e
Step role old (User_came source reading) e = UserStep role source reading old e
Step role old (Moves_on move) e = MoveStep old move e

-- The pair of messages in one datagram (5.5.1) that a gateway takes, one after the other: the serving gateway, of its peer, a
-- Create Session Response with a Create Bearer Request.
pub record TakesPair (role : Role) (config : Config) (request : Arrival) (reading : DatagramReading) : Type 0 where
  pub by : role ≡ Serving
  pub peer : request.source.ip ≡ config.peer.control
  pub answer : CreateSessionResponse
  pub asked : CreateBearerRequest
  pub is : reading ≡ Both (Create_session_response answer) (Create_bearer_request asked)

-- a step: the gateway before it, what it took, and what that gave
pub record Done : Type 0 where
  pub before : Node
  pub input : Input
  pub effect : Effect

-- the gateway goes from one node to the other by these steps
abbrev pub Steps : Role → Node → List Done → Node → Type 0
Steps role old [] new = new ≡ old
Steps role old (done ∷ log) new = (done.before ≡ old) × Step role old done.input done.effect × Steps role done.effect.node log new

-- the steps of a tick, one a move
abbrev pub tick_steps : (old : Node) (moves : List Move) (out : Out) (new : Node) → TickStep old moves out new → List Done
tick_steps old [] out new tick = []
tick_steps old (move ∷ moves) out new (effect, rest, step, others, is) =
    record { before = old; input = Moves_on move; effect = effect } ∷
    tick_steps effect.node moves rest new others
