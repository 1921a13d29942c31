-- Requests that commands send.
use Rattle.std.specs.Prelude.{◌≡◌, ℕ, true, Option, Some}
use Rattle.gtp_machine.specs.Choice.{IsFreeNumber}
use Rattle.gtp_machine.specs.Command.{asks}
use Rattle.gtp_machine.specs.Input.{Effect}
use Rattle.gtp_machine.specs.Message.{Message}
use Rattle.gtp_machine.specs.Node.{Node}
use Rattle.gtp_machine.specs.Reading.{control_message}
use Rattle.gtp_gateway.specs.declared.tables.change.Change.{Change}
use Rattle.gtp_gateway.specs.declared.command.purpose.Purpose.{Purpose}
use Rattle.gtp_gateway.specs.declared.command.request.RequestToSend.{RequestToSend}
use Rattle.gtp_gateway.specs.declared.sent.Begun.{Begun}
use Rattle.gtp_gateway.specs.command.SendRequest.{about}
use Rattle.gtp_gateway.specs.command.Command.{IsAsked, request_number}
use Rattle.gtp_gateway.specs.messages.Own.{IsOwn}
use Rattle.gtp_gateway.specs.messages.Spelled.{is_for}
use Rattle.gtp_gateway.specs.tables.Change.{changed_by, keeps_requests}
use Rattle.gtp_gateway.specs.GatewayState.{GatewayState}

-- a request that is sent: what it is about, what changes with it, the session or bearer that the caller is told, and its message
pub record Request : Type 0 where
  pub purpose : Purpose
  pub change : Change
  pub teid : Option ℕ
  pub message : Message

-- the request that was built, as its message reads
abbrev pub request_by : RequestToSend → Request
request_by r = record { purpose = r.purpose; change = r.change; teid = r.teid; message = control_message r.message }

-- it can be sent with this number: a gateway sends such messages, it is for its purpose, and all other requests wait on
pub record CanBeSent (number : ℕ) (r : RequestToSend) : Type 0 where
  pub own : IsOwn r.message
  pub numbered : request_number (control_message r.message) ≡ Some number
  pub meant : is_for r.purpose (control_message r.message) ≡ true
  pub keeps : keeps_requests r.change ≡ true

-- the peer is asked for it, under a free number
pub record AsksFor (number : ℕ) (r : Request) (old : Node) (e : Effect) : Type 0 where
  pub number_free : IsFreeNumber old number
  pub gives : e ≡ asks old number (about r.purpose r.message) r.teid (changed_by r.change old)

-- the request was sent
abbrev pub IsAskedFor : ℕ → Request → GatewayState → Begun → GatewayState → Type 0
IsAskedFor number r old begun new = IsAsked (AsksFor number r old.node) old begun new
