-- A message by what a gateway does with it: it is of one of the six kinds that the gateway takes, or it is dropped.
use Rattle.std.proofs.Common.{◌≡◌, Bool, true, false, ap}
use Rattle.gtp_machine.specs.Message.{Echo, CreateSessionRequest, CreateSessionResponse, DeleteSessionRequest, DeleteSessionResponse}
use Rattle.gtp_machine.specs.Message.{CreateBearerRequest, CreateBearerResponse, DeleteBearerRequest, DeleteBearerResponse, Message, Echo_request}
use Rattle.gtp_machine.specs.Message.{Echo_response, Create_session_request, Create_session_response, Delete_session_request, Delete_session_response}
use Rattle.gtp_machine.specs.Message.{Create_bearer_request, Create_bearer_response, Delete_bearer_request, Delete_bearer_response}
use Rattle.gtp_machine.specs.Node.{Role, Serving, Packet, Arrival, Node}
use Rattle.gtp_machine.specs.Input.{FaultyRequest, Effect, dropped, Unexpected}
use Rattle.gtp_machine.specs.Answer.{Faulted}
use Rattle.gtp_machine.specs.Serving.{ServingTakes}
use Rattle.gtp_machine.specs.Packet.{PacketTakes}

-- a request by which this gateway makes a session or a bearer
abbrev pub creates : Role → Message → Bool
creates Serving (Create_bearer_request r) = true
creates Packet (Create_session_request q) = true
creates role m = false

-- the response to one
abbrev pub is_create_answer : Message → Bool
is_create_answer (Create_session_response a) = true
is_create_answer (Create_bearer_response x) = true
is_create_answer m = false

-- the message is dropped, and nothing else is done with it
pub record IsDropped (Takes : Arrival → Message → Node → Effect → Type 0) (m : Message) : Type 0 where
  pub only : (request : Arrival) (old : Node) (e : Effect) → Takes request m old e → e ≡ dropped old Unexpected
  pub so : (request : Arrival) (old : Node) (e : Effect) → e ≡ dropped old Unexpected → Takes request m old e

-- a faulty request leaves the gateway as it is
pub faulted_leaves : (answered : Bool) (request : Arrival) (f : FaultyRequest) (old : Node) (e : Effect) → Faulted answered request f old e → e.node ≡ old
faulted_leaves true request f old e r = ap (λ (k : Effect). k.node) r
faulted_leaves false request f old e r = ap (λ (k : Effect). k.node) r

module _ (P : Message → Type 0) where
  -- at the serving gateway
  pub by_serving : ((q : Echo) → P (Echo_request q)) → ((a : Echo) → P (Echo_response a)) → ((a : CreateSessionResponse) → P (Create_session_response a))
      → ((d : DeleteSessionResponse) → P (Delete_session_response d)) → ((q : CreateBearerRequest) → P (Create_bearer_request q))
      → ((d : DeleteBearerRequest) → P (Delete_bearer_request d)) → ((m : Message) → IsDropped ServingTakes m → P m) → (m : Message) → P m
  by_serving echo alive opens ends grants removes rest (Echo_request q) = echo q
  by_serving echo alive opens ends grants removes rest (Echo_response a) = alive a
  by_serving echo alive opens ends grants removes rest (Create_session_response a) = opens a
  by_serving echo alive opens ends grants removes rest (Delete_session_response d) = ends d
  by_serving echo alive opens ends grants removes rest (Create_bearer_request q) = grants q
  by_serving echo alive opens ends grants removes rest (Delete_bearer_request d) = removes d
  by_serving echo alive opens ends grants removes rest m = rest m (record { only = λ request old e r. r; so = λ request old e r. r })

  -- at the packet gateway
  pub by_packet : ((q : Echo) → P (Echo_request q)) → ((a : Echo) → P (Echo_response a)) → ((q : CreateSessionRequest) → P (Create_session_request q))
      → ((d : DeleteSessionRequest) → P (Delete_session_request d)) → ((x : CreateBearerResponse) → P (Create_bearer_response x))
      → ((d : DeleteBearerResponse) → P (Delete_bearer_response d)) → ((m : Message) → IsDropped PacketTakes m → P m) → (m : Message) → P m
  by_packet echo alive opens ends grants removes rest (Echo_request q) = echo q
  by_packet echo alive opens ends grants removes rest (Echo_response a) = alive a
  by_packet echo alive opens ends grants removes rest (Create_session_request q) = opens q
  by_packet echo alive opens ends grants removes rest (Delete_session_request d) = ends d
  by_packet echo alive opens ends grants removes rest (Create_bearer_response x) = grants x
  by_packet echo alive opens ends grants removes rest (Delete_bearer_response d) = removes d
  by_packet echo alive opens ends grants removes rest m = rest m (record { only = λ request old e r. r; so = λ request old e r. r })
