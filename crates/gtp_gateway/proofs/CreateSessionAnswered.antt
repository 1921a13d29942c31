-- Create Session Requests that were answered, as rows of the machine.
use Rattle.gtp_machine.specs.declared.message_type.MessageType.TheVariants as types
use Rattle.std.proofs.Common.{◌≡◌, ℕ, Bool, false, List, [], ◌∷◌, Some, None, sym, ◌∙◌, ap}
use Rattle.std.specs.FinMap.{insert}
use Rattle.gtp_values.specs.declared.cause.Cause.{Cause}
use Rattle.gtp_values.specs.PdnAddress.{allocation}
use Rattle.gtp_machine.specs.Answer.{refusing}
use Rattle.gtp_machine.specs.Config.{Config}
use Rattle.gtp_machine.specs.Element.{tunnel_end, cause_of}
use Rattle.gtp_machine.specs.Input.{Effect}
use Rattle.gtp_machine.specs.Message.{CreateSessionRequest, RequestedBearer, Message, Create_session_response, Create_bearer_request}
use Rattle.gtp_machine.specs.Node.{Arrival, Active, Default, Node}
use Rattle.gtp_machine.specs.Command.{create_bearer_asked}
use Rattle.gtp_machine.specs.Packet.{session_cause, session_response, made_session, session_made}
use Rattle.gtp_machine.specs.Spelling.{datagram_of}
use Rattle.gtp_gateway.specs.declared.receive.restart_counter.Heard.{Heard}
use Rattle.gtp_gateway.specs.declared.receive.create_session_request.judge.AddedBearer.{AddedBearer}
use Rattle.gtp_gateway.specs.declared.receive.create_session_request.judge.SessionGrant.{SessionGrant}
use Rattle.gtp_gateway.specs.declared.receive.create_session_request.read.SessionRequest.{SessionRequest}
use Rattle.gtp_gateway.specs.declared.step.ControlStep.{ControlStep}
use Rattle.gtp_gateway.specs.receive.Answer.{answering}
use Rattle.gtp_gateway.specs.tables.Change.{changed_by}
use Rattle.gtp_gateway.specs.receive.CreateSessionRequest.{change_of, session_granted, grants, grants_with, asked_with, IsAnsweredSo, SaysCreateSession}
use Rattle.gtp_gateway.specs.receive.RestartCounter.{node_heard}
use Rattle.gtp_gateway.specs.receive.Row.{IsRow}
use Rattle.gtp_gateway.specs.GatewayState.{GatewayState}
use Rattle.gtp_gateway.proofs.Rows.{answers_made}
use Rattle.gtp_gateway.proofs.RestartCounters.{counter_stays, config_stays}

pub answered_so : (Takes : Node → Effect → Type 0) (arrival : Arrival) (answer : List Message) (cause : ℕ) (made : Bool) (left heard : Node) (old : GatewayState)
    (step : ControlStep) (new : GatewayState) → heard.config ≡ old.node.config → IsAnsweredSo arrival answer cause made left old step new
    → Takes heard (answering made arrival answer cause left)
    → IsRow Takes arrival old.role heard step new
answered_so Takes arrival answer cause made left heard old step new config a takes =
    answers_made Takes arrival (record old { node = heard }) new step a.sent answer cause made left a.is
    (a.goes ∙ ap (λ (c : Config). datagram_of c (record { destination = arrival.source; messages = answer })) (sym config)) a.read a.becomes a.role
    takes

module _ (r : SessionRequest) (q : CreateSessionRequest) (says : SaysCreateSession r q) (heard : Heard) (node : Node) where
  abbrev left : Node
  left = node_heard heard node

  pub refusal_same : (cause : Cause) → refusing types.CreateSessionRequest r.control.teid r.seq cause node.counter ≡ refusing types.CreateSessionRequest q.control.teid q.number cause left.counter
  refusal_same cause = λ i. refusing types.CreateSessionRequest (sym says.control i).teid (sym says.number i) cause (sym (counter_stays heard node) i)

  module _ (g : SessionGrant) (identity : g.identity ≡ r.default.identity) where
    pub grant_same : grants r g node ≡ Create_session_response (session_response left q g.drawn.control g.drawn.user g.address)
    grant_same = λ i. Create_session_response (record {
      header = (sym says.control i).teid;
      number = sym says.number i;
      cause = cause_of (session_cause (sym says.pdn i) g.address);
      control = Some (tunnel_end 7 g.drawn.control (sym (config_stays heard node) i).own.control);
      address = Some (allocation 64 g.address);
      ambr = sym says.ambr i;
      contexts =
          record {
            identity = (sym says.context i).identity;
            cause = cause_of 16;
            user = Some (tunnel_end 5 g.drawn.user (sym (config_stays heard node) i).own.user);
            qos = Some (sym says.context i).qos;
            charging = Some g.drawn.user;
          } ∷ [];
      recovery = Some (sym (counter_stays heard node) i);
    })

    -- the identity that was chosen is the one that is asked for
    chosen : g.identity ≡ q.context.identity
    chosen = identity ∙ ap (λ (c : RequestedBearer). c.identity) (sym says.context)

    pub made_same : changed_by (change_of r g) left ≡ session_made left q g.drawn.control g.drawn.user g.address
    made_same = λ i. record left {
      drawn = g.drawn.user ∷ g.drawn.control ∷ left.drawn;
      sessions =
          insert left.sessions g.drawn.control (record {
            remote = Some (sym says.control i).teid;
            subscriber = record { imsi = sym says.imsi i; access_point = sym says.access_point i; identity = chosen i };
            address = Some g.address;
            state = Active;
          });
      bearers =
          insert left.bearers g.drawn.user (record {
            remote = Some (sym says.context i).user.teid;
            session = g.drawn.control;
            identity = Some (chosen i);
            kind = Default;
            state = Active;
            ended = false;
          });
    }

    -- the template's bearer is asked for in the same words
    pub asked_same : (a : AddedBearer) → asked_with (session_granted r g) a node ≡ asked_with (made_session q g.address) a (session_made left q g.drawn.control g.drawn.user g.address)
    asked_same a = λ i. record {
      header = (sym says.control i).teid;
      number = a.seq;
      transaction = None;
      linked = chosen i;
      context = record { identity = 0; tft = a.template.tft; user = tunnel_end 5 a.drawn.teid (sym (config_stays heard node) i).own.user; qos = a.template.qos; charging = Some a.drawn.teid };
      further = [];
    }

    pub both_same : (a : AddedBearer)
        → grants_with r g a node ≡ Create_session_response (session_response left q g.drawn.control g.drawn.user g.address) ∷ Create_bearer_request
        (asked_with (made_session q g.address) a (session_made left q g.drawn.control g.drawn.user g.address)) ∷ []
    both_same a = λ i. grant_same i ∷ Create_bearer_request (asked_same a i) ∷ []

    pub begun_same : (a : AddedBearer) → create_bearer_asked (changed_by (change_of r g) left) g.drawn.control (asked_with (session_granted r g) a node) a.drawn.teid
        ≡ create_bearer_asked (session_made left q g.drawn.control g.drawn.user g.address) g.drawn.control
        (asked_with (made_session q g.address) a (session_made left q g.drawn.control g.drawn.user g.address)) a.drawn.teid
    begun_same a = λ i. create_bearer_asked (made_same i) g.drawn.control (asked_same a i) a.drawn.teid
