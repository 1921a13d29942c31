-- What the code's messages of the control plane say, each field by its name.
use Rattle.std.specs.Prelude.{◌≡◌, ℕ, List, [], ◌∷◌, map, Option, option_map}
use Rattle.gtp_ie.specs.declared.value.recovery.Recovery.{Recovery}
use Rattle.gtp_ie.specs.declared.value.charging_id.ChargingId.{ChargingId}
use Rattle.gtp_ie.specs.declared.value.ebi.EbiValue.{EbiValue}
use Rattle.gtp_v2.specs.declared.message.Message as decoded
use Rattle.gtp_v2.specs.declared.body.Body.{Body}
use Rattle.gtp_v2.specs.declared.body.Body.TheVariants as bodies
use Rattle.gtp_v2.specs.declared.body.create_session_request.CreateSessionRequest as create_session_requests
use Rattle.gtp_v2.specs.declared.body.create_bearer_request.CreateBearerRequest as create_bearer_requests
use Rattle.gtp_v2.specs.declared.body.create_session_request.SessionRequestContext.{SessionRequestContext}
use Rattle.gtp_v2.specs.declared.body.create_session_response.SessionResponseContext.{SessionResponseContext}
use Rattle.gtp_v2.specs.declared.body.create_bearer_request.BearerRequestContext.{BearerRequestContext}
use Rattle.gtp_v2.specs.declared.body.create_bearer_response.BearerResponseContext.{BearerResponseContext}
use Rattle.gtp_v2.specs.CreateSessionRequest.{create_session_request}
use Rattle.gtp_v2.specs.CreateBearerRequest.{create_bearer_request}
use Rattle.gtp_v2.specs.Body.{kind_of}
use Rattle.gtp_machine.specs.Message.{CreateSessionRequest, CreateBearerRequest, RequestedBearer, CreatedBearer, WantedBearer, GivenBearer}
use Rattle.gtp_machine.specs.Message.{Message, Echo_request, Echo_response, Create_session_request, Create_session_response}
use Rattle.gtp_machine.specs.Message.{Delete_session_request, Delete_session_response, Create_bearer_request, Create_bearer_response}
use Rattle.gtp_machine.specs.Message.{Delete_bearer_request, Delete_bearer_response, Other_control}
use Rattle.gtp_machine.specs.Reading.{header_in, removed_bearer, control_message}

-- a restart counter (Recovery, 8.5), where there is one
abbrev pub counter_in : Option Recovery → Option ℕ
counter_in recovery = option_map (λ r. r.0.0) recovery

-- a charging identifier (8.29), where there is one
abbrev pub charging_in : Option ChargingId → Option ℕ
charging_in charging = option_map (λ c. c.0) charging

-- a linked EPS bearer identity (8.8), where there is one
abbrev pub linked_in : Option EbiValue → Option ℕ
linked_in linked = option_map (λ e. e.0) linked

-- a bearer context of a Create Session Request (table 7.2.1-2)
abbrev pub requested_bearer : SessionRequestContext → RequestedBearer
requested_bearer c = record { identity = c.ebi.0; qos = c.qos; user = c.user }

-- a bearer context of a Create Session Response (table 7.2.2-2)
abbrev pub created_bearer : SessionResponseContext → CreatedBearer
created_bearer c = record { identity = c.ebi.0; cause = c.cause; user = c.user; qos = c.qos; charging = charging_in c.charging_id }

-- a bearer context of a Create Bearer Request (table 7.2.3-2)
abbrev pub wanted_bearer : BearerRequestContext → WantedBearer
wanted_bearer c = record { identity = c.ebi.0; tft = c.tft; user = c.user; qos = c.qos; charging = charging_in c.charging_id }

-- a bearer context of a Create Bearer Response (table 7.2.4-2)
abbrev pub given_bearer : BearerResponseContext → GivenBearer
given_bearer c = record { identity = c.ebi.0; cause = c.cause; serving_user = c.serving_user; packet_user = c.packet_user }

-- a Create Session Request (7.2.1) with this TEID in its header, this sequence number and these bearer contexts
abbrev pub session_requested :
    ℕ → ℕ → create_session_requests.CreateSessionRequest → SessionRequestContext → List SessionRequestContext → CreateSessionRequest
session_requested header number q first further = record {
  header = header;
  number = number;
  imsi = q.imsi;
  rat = q.rat.0;
  network = q.serving_network;
  control = q.control;
  access_point = q.apn;
  selection = option_map (λ s. s.0) q.selection;
  pdn = q.pdn_type.0;
  address = q.paa;
  ambr = q.ambr;
  context = requested_bearer first;
  further = map requested_bearer further;
  recovery = counter_in q.recovery;
}

-- the same by all of its bearer contexts; each that octets spell has one
abbrev pub session_request_with : ℕ → ℕ → create_session_requests.CreateSessionRequest → List SessionRequestContext → Message
session_request_with header number q [] = Other_control create_session_request.kind
session_request_with header number q (first ∷ further) = Create_session_request (session_requested header number q first further)

-- a Create Bearer Request (7.2.3) with this TEID in its header, this sequence number and these bearer contexts
abbrev pub bearer_requested :
    ℕ → ℕ → create_bearer_requests.CreateBearerRequest → BearerRequestContext → List BearerRequestContext → CreateBearerRequest
bearer_requested header number r first further = record {
  header = header;
  number = number;
  transaction = option_map (λ t. t.0) r.pti;
  linked = r.linked_ebi.0;
  context = wanted_bearer first;
  further = map wanted_bearer further;
}

-- the same by all of its bearer contexts; each that octets spell has one
abbrev pub bearer_request_with : ℕ → ℕ → create_bearer_requests.CreateBearerRequest → List BearerRequestContext → Message
bearer_request_with header number r [] = Other_control create_bearer_request.kind
bearer_request_with header number r (first ∷ further) = Create_bearer_request (bearer_requested header number r first further)

-- what a body says under the TEID and the sequence number of its header, by its type (6.1); a type that no gateway takes says no more
abbrev pub body_message : ℕ → ℕ → Body → Message
body_message header number (bodies.EchoRequest m) = Echo_request (record { number = number; recovery = m.recovery.0.0 })
body_message header number (bodies.EchoResponse m) = Echo_response (record { number = number; recovery = m.recovery.0.0 })
body_message header number (bodies.CreateSessionRequest q) = session_request_with header number q q.contexts
body_message header number (bodies.CreateSessionResponse a) =
    Create_session_response (record {
      header = header;
      number = number;
      cause = a.cause;
      control = a.control;
      address = a.paa;
      ambr = a.ambr;
      contexts = map created_bearer a.contexts;
      recovery = counter_in a.recovery;
    })
body_message header number (bodies.DeleteSessionRequest d) =
    Delete_session_request (record { header = header; number = number; linked = linked_in d.linked_ebi })
body_message header number (bodies.DeleteSessionResponse d) =
    Delete_session_response (record { header = header; number = number; cause = d.cause; recovery = counter_in d.recovery })
body_message header number (bodies.CreateBearerRequest r) = bearer_request_with header number r r.contexts
body_message header number (bodies.CreateBearerResponse x) =
    Create_bearer_response (record {
      header = header;
      number = number;
      cause = x.cause;
      contexts = map given_bearer x.contexts;
      recovery = counter_in x.recovery;
    })
body_message header number (bodies.DeleteBearerRequest d) =
    Delete_bearer_request (record { header = header; number = number; linked = linked_in d.linked_ebi; identities = map (λ e. e.0) d.ebis })
body_message header number (bodies.DeleteBearerResponse d) =
    Delete_bearer_response (record {
      header = header;
      number = number;
      cause = d.cause;
      linked = linked_in d.linked_ebi;
      contexts = map removed_bearer d.contexts;
      recovery = counter_in d.recovery;
    })
body_message header number other = Other_control (kind_of other)

-- What a decoded message of the control plane reads as is what its fields say, each by its name.
abbrev pub ControlByName : Type 0
ControlByName = (m : decoded.Message) → control_message m ≡ body_message (header_in m.teid) m.seq m.body
