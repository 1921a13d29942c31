-- Create Session Requests, as the packet gateway answers them.
use Rattle.gtp_machine.specs.declared.message_type.MessageType.TheVariants as types
use Rattle.std.specs.Prelude.{◌≡◌, ℕ, ◌<◌, Bool, true, false, List, [], ◌∷◌, Some, length, ◌↔◌}
use Rattle.std.specs.FinMap.{insert}
use Rattle.gtp_values.specs.FiniteMap.{FiniteMap}
use Rattle.gtp_values.specs.declared.cause.Cause.{Cause}
use Rattle.gtp_values.specs.Cause.{is_accepting_value}
use Rattle.gtp_reliable.specs.Pending.{AreDistinct, IsNextFree}
use Rattle.gtp_tables.specs.Free.{IsLowestGiven}
use Rattle.gtp_machine.specs.declared.causes.TheConstants.{NO_RESOURCES_AVAILABLE, ALL_DYNAMIC_ADDRESSES_ARE_OCCUPIED, REQUEST_ACCEPTED}
use Rattle.gtp_machine.specs.declared.outcome.Outcome.TheVariants.{Answered}
use Rattle.gtp_machine.specs.Choice.{HasDraws, HasSessionRoom, asked_by, CanGive}
use Rattle.gtp_machine.specs.Element.{cause_of, tunnel_end}
use Rattle.gtp_machine.specs.Command.{bearer_request, create_bearer_asked, pending_dedicated}
use Rattle.gtp_machine.specs.Config.{access_point_for, template_asked}
use Rattle.gtp_machine.specs.Input.{Effect}
use Rattle.gtp_machine.specs.Message.{Message, Create_session_response, Create_bearer_request}
use Rattle.gtp_machine.specs.Message as messages
use Rattle.gtp_machine.specs.Node.{Active, Default, Session, Bearer, Arrival, Node, holding}
use Rattle.gtp_machine.specs.Ordered.{Unless}
use Rattle.gtp_machine.specs.Packet.{SessionJudged, CreateSessionAsked, MakesSession, AnswersWith, session_cause, session_refused, session_response, made_session, session_made}
use Rattle.gtp_machine.specs.Answer.{making, refusing}
use Rattle.gtp_machine.specs.Spelling.{datagram_of}
use Rattle.gtp_gateway.specs.declared.tables.change.Change.{Change}
use Rattle.gtp_gateway.specs.declared.tables.change.Change.TheVariants as changes
use Rattle.gtp_gateway.specs.declared.receive.restart_counter.Heard.{Heard}
use Rattle.gtp_gateway.specs.declared.sent.Sent.{Sent}
use Rattle.gtp_gateway.specs.declared.tables.teids.TwoDrawn.{TwoDrawn}
use Rattle.gtp_gateway.specs.declared.receive.create_session_request.judge.AddedBearer.{AddedBearer}
use Rattle.gtp_gateway.specs.declared.receive.create_session_request.judge.SessionGrant.{SessionGrant}
use Rattle.gtp_gateway.specs.declared.receive.create_session_request.judge.CreateSessionVerdict.{CreateSessionVerdict}
use Rattle.gtp_gateway.specs.declared.receive.create_session_request.judge.CreateSessionVerdict.TheVariants.{Refused, Granted, GrantedWith}
use Rattle.gtp_gateway.specs.declared.receive.create_session_request.read.SessionRequest.{SessionRequest}
use Rattle.gtp_gateway.specs.declared.step.ControlStep.{ControlStep}
use Rattle.gtp_gateway.specs.tables.Change.{changed_by}
use Rattle.gtp_gateway.specs.tables.Teids.{AreTwoDrawn, IsThirdDrawn}
use Rattle.gtp_gateway.specs.receive.RestartCounter.{node_heard}
use Rattle.gtp_gateway.specs.receive.Row.{IsRow}
use Rattle.gtp_gateway.specs.messages.Sent.{datagram_by, ReadsBack}
use Rattle.gtp_gateway.specs.tables.Opening.{waiting_heard}
use Rattle.gtp_gateway.specs.GatewayState.{GatewayState}
use Rattle.gtp_gateway.specs.receive.Taken.{plain_report}
use Rattle.gtp_ie.specs.Value.{Value, OfEbi, OfQos, OfFTeid}
use Rattle.gtp_v2.specs.Message.{MessageValue}
use Rattle.gtp_v2.specs.Viewed.{contexts_of}
use Rattle.gtp_values.specs.PdnAddress.{PdnAddress, allocation}
use Rattle.gtp_values.specs.TunnelEnd.{TunnelEnd}
use Rattle.gtp_gateway.specs.declared.receive.create_session_request.read.RequestedDefault.{RequestedDefault}

-- the values of the first bearer context, and whether it is the only one
abbrev pub default_values : RequestedDefault → List (List Value)
default_values d = (OfEbi d.identity ∷ []) ∷ (OfQos d.qos ∷ []) ∷ (OfFTeid d.user ∷ []) ∷ []

-- what was read of the default bearer is what stands in the first bearer context
pub record ReadsContext (m : MessageValue) (d : RequestedDefault) : Type 0 where
  pub further : List (List (List Value))
  pub contexts : contexts_of m ≡ default_values d ∷ further
  pub alone : (d.is_alone ≡ true) ↔ (further ≡ [])

-- the machine's message says what was read
pub record SaysCreateSession (r : SessionRequest) (q : messages.CreateSessionRequest) : Type 0 where
  pub number : q.number ≡ r.seq
  pub imsi : q.imsi ≡ r.imsi
  pub control : q.control ≡ r.control
  pub access_point : q.access_point ≡ r.access_point
  pub pdn : q.pdn ≡ r.pdn.0
  pub ambr : q.ambr ≡ r.ambr
  pub context : q.context ≡ record { identity = r.default.identity; qos = r.default.qos; user = r.default.user }
  pub alone : (r.default.is_alone ≡ true) ↔ (q.further ≡ [])

-- the answer that grants the session, with these F-TEIDs of the packet gateway and this address
abbrev pub granted : SessionRequest → TunnelEnd → TunnelEnd → PdnAddress → ℕ → messages.CreateSessionResponse
granted r control user address counter =
    record {
      header = r.control.teid;
      number = r.seq;
      cause = cause_of (session_cause r.pdn.0 address);
      control = Some control;
      address = Some (allocation 64 address);
      ambr = r.ambr;
      contexts = record {
        identity = r.default.identity;
        cause = cause_of REQUEST_ACCEPTED;
        user = Some user;
        qos = Some r.default.qos;
        charging = Some user.teid;
      } ∷ [];
      recovery = Some counter;
    }

-- refused with a cause that names no element
abbrev pub refused_with : ℕ → CreateSessionVerdict
refused_with cause = Refused (cause_of cause)

-- the session that is granted, active at once
abbrev pub session_granted : SessionRequest → SessionGrant → Session
session_granted r g = record { remote = Some r.control.teid; subscriber = record { imsi = r.imsi; access_point = r.access_point; identity = g.identity }; address = Some g.address; state = Active }

-- its default bearer
abbrev pub bearer_granted : SessionRequest → SessionGrant → Bearer
bearer_granted r g = record { remote = Some r.default.user.teid; session = g.drawn.control; identity = Some g.identity; kind = Default; state = Active; ended = false }

-- what changes
abbrev pub change_of : SessionRequest → SessionGrant → Change
change_of r g = changes.MakesSession g.drawn.draws g.drawn.control (session_granted r g) g.drawn.user (bearer_granted r g)

-- the answer that grants it
abbrev pub grants : SessionRequest → SessionGrant → Node → Message
grants r g node = Create_session_response (granted r (tunnel_end 7 g.drawn.control node.config.own.control) (tunnel_end 5 g.drawn.user node.config.own.user) g.address node.counter)

-- the request of the template's bearer, at a node where its session was made
abbrev pub asked_with : Session → AddedBearer → Node → messages.CreateBearerRequest
asked_with s a made = bearer_request made s a.template.tft a.template.qos a.drawn.teid a.seq

-- a session that was made is answered together with that request, which waits from now on
abbrev pub with_bearer : Arrival → messages.CreateSessionResponse → ℕ → ℕ → Session → AddedBearer → Node → Effect
with_bearer request answer cause session s a made =
    making request (Create_session_response answer ∷ Create_bearer_request (asked_with s a made) ∷ []) cause
    (create_bearer_asked made session (asked_with s a made) a.drawn.teid)

-- bearers with the default bearer of a session that is granted, and the bearer of the template
abbrev pub bearers_with : SessionRequest → SessionGrant → AddedBearer → FiniteMap Bearer → FiniteMap Bearer
bearers_with r g a bearers = insert (insert bearers g.drawn.user (bearer_granted r g)) a.drawn.teid (pending_dedicated g.drawn.control)

-- the node with the session and both, after three draws
abbrev pub made_with : SessionRequest → SessionGrant → AddedBearer → Node → Node
made_with r g a node = record node {
  drawn = a.drawn.teid ∷ g.drawn.user ∷ g.drawn.control ∷ node.drawn;
  sessions = insert node.sessions g.drawn.control (session_granted r g);
  bearers = bearers_with r g a node.bearers;
}

-- the effect that a verdict stands for, at a gateway that has heard the counter
abbrev pub create_session_effect : Arrival → messages.CreateSessionRequest → CreateSessionVerdict → Node → Effect
create_session_effect request q (Refused cause) n = session_refused request q cause n
create_session_effect request q (Granted g) n =
    making request (Create_session_response (session_response n q g.drawn.control g.drawn.user g.address) ∷ []) (session_cause q.pdn g.address)
    (session_made n q g.drawn.control g.drawn.user g.address)
create_session_effect request q (GrantedWith g a) n =
    with_bearer request (session_response n q g.drawn.control g.drawn.user g.address) (session_cause q.pdn g.address)
    g.drawn.control (made_session q g.address) a (session_made n q g.drawn.control g.drawn.user g.address)

-- the template's bearer can be begun besides: a third TEID may be drawn, and once the counter was heard fewer than 256 requests wait, and the number is the next
-- that is free; no two that wait have one number
pub record CanAdd (two : TwoDrawn) (a : AddedBearer) (heard : Heard) (s : GatewayState) : Type 0 where
  pub third : IsThirdDrawn two a.drawn s.node
  pub number : IsNextFree s.queues.next (waiting_heard heard s.node.sessions s.queues.waiting) a.seq
  pub few : length (waiting_heard heard s.node.sessions s.queues.waiting) < 256
  pub distinct : AreDistinct s.queues.waiting

-- the TEIDs may be drawn
abbrev pub CanGrant : SessionGrant → Node → Type 0
CanGrant g node = AreTwoDrawn g.drawn node

-- what the verdict needs: a cause that refuses; or the next two TEIDs, the lowest free address of each version that is asked for, where there is one, and
-- the identity that is asked for
pub record ChoosesSession (identity pdn : ℕ) (g : SessionGrant) (heard : Heard) (node : Node) : Type 0 where
  pub can : CanGrant g node
  pub lowest : IsLowestGiven (node_heard heard node).sessions node.config.pools (asked_by pdn) g.address
  pub identity_is : g.identity ≡ identity

abbrev pub IsVerdict : ℕ → ℕ → CreateSessionVerdict → Heard → GatewayState → Type 0
IsVerdict identity pdn (Refused cause) heard s = is_accepting_value cause.value ≡ false
IsVerdict identity pdn (Granted g) heard s = ChoosesSession identity pdn g heard s.node
IsVerdict identity pdn (GrantedWith g a) heard s = ChoosesSession identity pdn g heard s.node × CanAdd g.drawn a heard s

-- the last rules, which look at what is free
abbrev pub RoomJudged : Arrival → messages.CreateSessionRequest → Node → Effect → Type 0
RoomJudged request q old e =
    Unless (HasSessionRoom old × HasDraws old 2) (e ≡ session_refused request q (cause_of NO_RESOURCES_AVAILABLE) old) (λ few.
    Unless (CanGive old q.pdn) (e ≡ session_refused request q (cause_of ALL_DYNAMIC_ADDRESSES_ARE_OCCUPIED) old) (λ can.
    MakesSession request old q e))

-- the verdict is the machine's by the last rule, for a request that means this access point
pub record JudgesAdded (name : List ℕ) (g : SessionGrant) (heard : Heard) (s : GatewayState) (v : CreateSessionVerdict) : Type 0 where
  pub judged : (request : Arrival) (q : messages.CreateSessionRequest) → access_point_for s.node.config q.access_point ≡ Some name
      → AnswersWith (template_asked (node_heard heard s.node).config q.access_point) request
      (session_response (node_heard heard s.node) q g.drawn.control g.drawn.user g.address) (session_cause q.pdn g.address)
      g.drawn.control (made_session q g.address)
      (session_made (node_heard heard s.node) q g.drawn.control g.drawn.user g.address) (create_session_effect request q v (node_heard heard s.node))
  pub is : (identity pdn : ℕ) → ChoosesSession identity pdn g heard s.node → IsVerdict identity pdn v heard s

-- the verdict is the machine's by the last rules, for a request of this PDN type that means this access point
pub record JudgesRoom (identity pdn : ℕ) (name : List ℕ) (heard : Heard) (s : GatewayState) (v : CreateSessionVerdict) : Type 0 where
  pub judged : (request : Arrival) (q : messages.CreateSessionRequest) → q.pdn ≡ pdn → access_point_for s.node.config q.access_point ≡ Some name
      → RoomJudged request q (node_heard heard s.node) (create_session_effect request q v (node_heard heard s.node))
  pub is : IsVerdict identity pdn v heard s

-- the verdict is the machine's
pub record JudgesCreateSession (r : SessionRequest) (heard : Heard) (s : GatewayState) (v : CreateSessionVerdict) : Type 0 where
  pub judged : (request : Arrival) (q : messages.CreateSessionRequest) → SaysCreateSession r q
      → SessionJudged request q (node_heard heard s.node) (create_session_effect request q v (node_heard heard s.node))
  pub is : IsVerdict r.default.identity r.pdn.0 v heard s

-- a request was answered with a datagram of these messages, which is held, and left this node; a context was made for it, or not
pub record IsAnsweredSo (arrival : Arrival) (answer : List Message) (cause : ℕ) (made : Bool) (left : Node) (old : GatewayState) (step : ControlStep) (new : GatewayState) : Type 0 where
  pub sent : Sent
  pub is : step ≡ record { out = Some sent; report = record (plain_report (Answered cause)) { made = made } }
  pub goes : datagram_by sent ≡ datagram_of old.node.config (record { destination = arrival.source; messages = answer })
  pub read : ReadsBack answer
  pub becomes : new.node ≡ holding arrival answer left
  pub role : new.role ≡ old.role

-- it was refused
abbrev pub IsRefusedSession : Arrival → SessionRequest → Cause → Heard → GatewayState → ControlStep → GatewayState → Type 0
IsRefusedSession arrival r cause heard old step new =
    IsAnsweredSo arrival (refusing types.CreateSessionRequest r.control.teid r.seq cause old.node.counter ∷ []) cause.value false
    (node_heard heard old.node) old step new

-- it was granted
abbrev pub IsGrantedSession : Arrival → SessionRequest → SessionGrant → Heard → GatewayState → ControlStep → GatewayState → Type 0
IsGrantedSession arrival r g heard old step new =
    IsAnsweredSo arrival (grants r g old.node ∷ []) (session_cause r.pdn.0 g.address) true
    (changed_by (change_of r g) (node_heard heard old.node)) old step new

-- the answer that grants it, and the request of the template's bearer
abbrev pub grants_with : SessionRequest → SessionGrant → AddedBearer → Node → List Message
grants_with r g a node = grants r g node ∷ Create_bearer_request (asked_with (session_granted r g) a node) ∷ []

-- it was granted, and the bearer of the template begun
abbrev pub IsGrantedWith : Arrival → SessionRequest → SessionGrant → AddedBearer → Heard → GatewayState → ControlStep → GatewayState → Type 0
IsGrantedWith arrival r g a heard old step new =
    IsAnsweredSo arrival (grants_with r g a old.node) (session_cause r.pdn.0 g.address) true
    (create_bearer_asked (changed_by (change_of r g) (node_heard heard old.node)) g.drawn.control (asked_with (session_granted r g) a old.node) a.drawn.teid) old step new

-- a Create Session Request was taken
abbrev pub TakesCreateSessionRequest : Arrival → SessionRequest → Heard → GatewayState → ControlStep → GatewayState → Type 0
TakesCreateSessionRequest arrival r heard old step new =
    (q : messages.CreateSessionRequest) → SaysCreateSession r q
    → IsRow (CreateSessionAsked arrival q) arrival old.role (node_heard heard old.node) step new
