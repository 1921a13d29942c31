-- Delete Session Requests, as the packet gateway takes them.
use Rattle.std.specs.Prelude.{Some}
use Rattle.gtp_machine.specs.Answer.{answered}
use Rattle.gtp_machine.specs.Element.{cause_of}
use Rattle.gtp_machine.specs.Input.{Effect}
use Rattle.gtp_machine.specs.Message.{Delete_session_response}
use Rattle.gtp_machine.specs.Message as messages
use Rattle.gtp_machine.specs.Node.{Arrival, Node}
use Rattle.gtp_machine.specs.Packet.{DeleteSessionJudged, DeleteSessionAsked}
use Rattle.gtp_gateway.specs.declared.receive.delete_request.DeleteRequest.{DeleteRequest}
use Rattle.gtp_gateway.specs.declared.receive.delete_session_request.DeleteSessionVerdict.{DeleteSessionVerdict}
use Rattle.gtp_gateway.specs.declared.step.ControlStep.{ControlStep}
use Rattle.gtp_gateway.specs.tables.Change.{changed_by, CanChange}
use Rattle.gtp_gateway.specs.receive.Row.{IsRow}
use Rattle.gtp_gateway.specs.GatewayState.{GatewayState}

-- the machine's Delete Session Request that was read
abbrev pub delete_session_by : DeleteRequest → messages.DeleteSessionRequest
delete_session_by r = record { header = r.header; number = r.seq; linked = r.linked }

-- the effect that a verdict stands for
abbrev pub delete_session_effect : Arrival → messages.DeleteSessionRequest → DeleteSessionVerdict → Node → Effect
delete_session_effect request d v old =
    answered request (Delete_session_response (record { header = v.header; number = d.number; cause = cause_of v.cause; recovery = Some old.counter })) v.cause
    (changed_by v.change old)

-- the verdict is the machine's, and what it changes can change
pub record JudgesDeleteSession (r : DeleteRequest) (old : Node) (v : DeleteSessionVerdict) : Type 0 where
  pub judged : (request : Arrival) → DeleteSessionJudged request (delete_session_by r) old (delete_session_effect request (delete_session_by r) v old)
  pub can : CanChange v.change old

-- a Delete Session Request was taken
abbrev pub TakesDeleteSessionRequest : Arrival → DeleteRequest → GatewayState → ControlStep → GatewayState → Type 0
TakesDeleteSessionRequest arrival r old step new = IsRow (DeleteSessionAsked arrival (delete_session_by r)) arrival old.role old.node step new
