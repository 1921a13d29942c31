-- What holds of each run.
use Rattle.std.specs.Prelude.{◌⊎◌, ◌≡◌, ◌≢◌, ℕ, ◌+◌, ◌%◌, ◌≤◌, List, [], ◌∷◌, Option, Some, None, ◌++◌, length, take, slice_get}
use Rattle.std.specs.FinMap.{get}
use Rattle.gtp_values.specs.Counter.{age_of}
use Rattle.gtp_values.specs.declared.counter.Age.TheVariants.{Later}
use Rattle.gtp_values.specs.FiniteMap.{FiniteMap, Among}
use Rattle.gtp_machine.specs.declared.causes.TheConstants.{REQUEST_ACCEPTED}
use Rattle.gtp_machine.specs.Config.{Addresses, Config}
use Rattle.gtp_machine.specs.Message.{Plane, Control, User, first_created, created_identity, CreateSessionRequest, CreateSessionResponse}
use Rattle.gtp_machine.specs.Message.{CreateBearerRequest, CreateBearerResponse, Message, Create_session_request, Create_session_response}
use Rattle.gtp_machine.specs.Message.{Create_bearer_request, Create_bearer_response, Packet_data, End_marker, Error_indication, Owns}
use Rattle.gtp_machine.specs.Message.{header_of, recovery_of, first_given, first_returned, first_identity}
use Rattle.gtp_machine.specs.Element.{IsAccepting, PdnAddress, address_of, teid_in}
use Rattle.gtp_machine.specs.Node.{Node, fresh_node, Arrival, Role, Serving, Packet, Pending, Active, Closing, Session, Bearer, Dedicated}
use Rattle.gtp_machine.specs.Input.{Entry, Effect, Specification, Create_session, Answered, Opened, Repeated, datagrams}
use Rattle.gtp_machine.specs.Choice.{counter_of}
use Rattle.gtp_machine.specs.Recovery.{Hears}
use Rattle.gtp_machine.specs.Safety.{MutualSessions, MutualBearers}
use Rattle.gtp_machine.specs.Serving.{granted_bearer, CreateBearerAsked}
use Rattle.gtp_machine.specs.Packet.{response_and_request, made_session, made_bearer, CreateSessionAsked}
use Rattle.gtp_machine.specs.Step.{Step, Done, Steps}
use Rattle.gtp_machine.specs.Once.{Makes, TookRequest, NeverForgets, SecondAddsNothing}
use Rattle.gtp_machine.specs.Spelling.{spelled_all, last_part, IsSendable}
use Rattle.gtp_machine.specs.World.{World, steps_of, Event, Does, Deliver, Cut, Note, Came_to, signed, flat, come_from, arrival, first_came}
use Rattle.gtp_machine.specs.World.{Happens, Run, start, other, side_of, Side, HasBy, Sent, SentDatagram, HasSent}

-- P holds at the end of each run, however the gateways are configured
abbrev pub Always : (World → Type 0) → Type 0
Always P =
    (serving packet : Config) (serving_counter packet_counter : ℕ) (events : List Event) (w : World) →
    Run (start serving packet serving_counter packet_counter) events w → P w

-- the messages that were sent are those of the datagrams, one datagram after the other
abbrev pub MessagesOfDatagrams : World → Type 0
MessagesOfDatagrams w = flat w.datagrams ≡ w.history

-- each TEID stands as its sender's own in one message and its repeats
abbrev pub OneMessage : World → Type 0
OneMessage w = (role : Role) (m n : Message) (t : ℕ) → HasSent w.history role m → HasSent w.history role n → Owns m t → Owns n t → m ≡ n

-- t stands in the message as an F-TEID of this plane that its sender drew for it
abbrev pub OwnsOn : Plane → Message → ℕ → Type 0
OwnsOn Control (Create_session_request q) t = t ≡ q.control.teid
OwnsOn Control (Create_session_response a) t = teid_in a.control ≡ Some t
OwnsOn Control m t = ⊥
OwnsOn User (Create_session_request q) t = t ≡ q.context.user.teid
OwnsOn User (Create_session_response a) t = first_created a.contexts ≡ Some t
OwnsOn User (Create_bearer_request r) t = t ≡ r.context.user.teid
OwnsOn User (Create_bearer_response x) t = first_given x.contexts ≡ Some t
OwnsOn User m t = ⊥

-- no TEID stands in a message for both planes: one that has an F-TEID of each has two
abbrev pub PlanesApart : World → Type 0
PlanesApart w = (role : Role) (m : Message) (t : ℕ) → HasSent w.history role m → OwnsOn Control m t → OwnsOn User m t → ⊥

-- the role has sent a message with an F-TEID of this plane in which t stands as its own
pub record TeidWasDrawn (plane : Plane) (history : List Sent) (role : Role) (t : ℕ) : Type 0 where
  pub message : Message
  pub sent : HasSent history role message
  pub owns : OwnsOn plane message t

-- the TEIDs of a context go back to a draw by its gateway, and to one by the other
pub record TeidsWereDrawn (plane : Plane) (history : List Sent) (role : Role) (own : ℕ) (remote : Option ℕ) : Type 0 where
  pub here : TeidWasDrawn plane history role own
  pub there : (t : ℕ) → remote ≡ Some t → TeidWasDrawn plane history (other role) t

-- the TEIDs of each session go back to draws for the control plane, and those of each bearer to draws for the user plane
pub record ContextTeidsWereDrawn (w : World) : Type 0 where
  pub sessions :
      (role : Role) (t : ℕ) (s : Session) → get (side_of w role).node.sessions t ≡ Some s →
      TeidsWereDrawn Control w.history role t s.remote
  pub bearers : (role : Role) (t : ℕ) (b : Bearer) → get (side_of w role).node.bearers t ≡ Some b → TeidsWereDrawn User w.history role t b.remote

-- the TEID that a message of this gateway names, but 0, goes back to a draw: that of its header to one by the other gateway for
-- the control plane; that of a packet or of an End Marker to one by the other gateway for the user plane; that of an Error
-- Indication, which comes back from a packet, to one of its own
abbrev pub NamedTeidWasDrawn : List Sent → Role → Message → Type 0
NamedTeidWasDrawn history role (Packet_data target payload) = target ≢ 0 → TeidWasDrawn User history (other role) target
NamedTeidWasDrawn history role (End_marker target) = target ≢ 0 → TeidWasDrawn User history (other role) target
NamedTeidWasDrawn history role (Error_indication target address) = target ≢ 0 → TeidWasDrawn User history role target
NamedTeidWasDrawn history role m = header_of m ≢ 0 → TeidWasDrawn Control history (other role) (header_of m)

-- the TEIDs that messages name go back to draws
abbrev pub EachNamedTeidWasDrawn : List Sent → Type 0
EachNamedTeidWasDrawn history = (role : Role) (m : Message) → HasSent history role m → NamedTeidWasDrawn history role m

abbrev pub NamedTeidsWereDrawn : World → Type 0
NamedTeidsWereDrawn w = EachNamedTeidWasDrawn w.history

-- P holds of each run from a start, however the gateways are configured
abbrev pub OfEachRun : (World → List Event → World → Type 0) → Type 0
OfEachRun P =
    (serving packet : Config) (serving_counter packet_counter : ℕ) (events : List Event) (w : World) →
    Run (start serving packet serving_counter packet_counter) events w →
    P (start serving packet serving_counter packet_counter) events w

-- a moment of a run: an event, the world before it and the one after, and the events of the run before and after it
pub record Moment (first : World) (events : List Event) (last : World) : Type 0 where
  pub before : World
  pub event : Event
  pub after : World
  pub happens : Happens before event after
  pub earlier : List Event
  pub reached : Run first earlier before
  pub later : List Event
  pub goes_on : Run after later last
  pub are : events ≡ earlier ++ (event ∷ later)

-- what a gateway does by its rules with a request by which it makes a context, as it comes
abbrev pub CreateAsked : Role → Message → Arrival → Node → Effect → Type 0
CreateAsked Serving (Create_bearer_request r) request old e = CreateBearerAsked request r old e
CreateAsked Packet (Create_session_request q) request old e = Hears (CreateSessionAsked request q) old q.recovery e
CreateAsked role m request old e = ⊥

-- the request comes to a gateway that stands so: as the one message of a datagram, or as the second of two, once the first was
-- taken, to which nothing was said
abbrev pub ComesLast : Role → Addresses → Node → List Message → Message → Node → Type 0
ComesLast role from old [] request at = ⊥
ComesLast role from old (message ∷ []) request at = (request ≡ message) × (at ≡ old)
ComesLast role from old (first ∷ second ∷ rest) request at =
    (request ≡ second) × ((taken : Effect) × Step role old (first_came from first) taken × (taken.out.sent ≡ []) × (at ≡ taken.node))

-- The other gateway's request came as it had sent it, and this gateway, as it stood then, made or refused a context for it by its
-- rules: one datagram, in which the answer stands first, is all that it sent.
pub record IssuedAnswer (first : World) (events : List Event) (last : World) (role : Role) (request answer : Message) : Type 0 where
  pub moment : Moment first events last
  pub number : ℕ
  pub came : moment.event ≡ Deliver number
  pub datagram : List Message
  pub sent : slice_get moment.before.datagrams number ≡ Some (record { role = other role; what = datagram })
  pub at : Node
  pub comes : ComesLast role (side_of moment.before (other role)).node.config.own (side_of moment.before role).node datagram request at
  pub effect : Effect
  pub asked : CreateAsked role request (arrival (side_of moment.before (other role)).node.config.own request) at effect
  pub becomes : (side_of moment.after role).node ≡ effect.node
  pub more : List Message  -- what goes with the answer
  pub says : datagrams effect.out.sent ≡ (answer ∷ more) ∷ []

-- octets that come with a datagram of these messages: all of it, or those of its last message
abbrev pub BroughtBy : List Message → List ℕ → Type 0
BroughtBy datagram octets = (octets ≡ spelled_all datagram) ⊎ (octets ≡ last_part datagram)

-- the event brings this gateway these octets from this address: those of a datagram of the other gateway or of its last message, or its first ones
abbrev pub BringsOctets : World → Event → Role → Arrival → Type 0
BringsOctets before (Deliver number) role request =
    (datagram : List Message) × (slice_get before.datagrams number ≡ Some (record { role = other role; what = datagram })) ×
    ((octets : List ℕ) × BroughtBy datagram octets × (request ≡ come_from (side_of before (other role)).node.config.own octets))
BringsOctets before (Cut number count) role request =
    (datagram : List Message) × (slice_get before.datagrams number ≡ Some (record { role = other role; what = datagram })) ×
    (request ≡ come_from (side_of before (other role)).node.config.own (take count (spelled_all datagram)))
BringsOctets before event role request = ⊥

-- The datagram with this number is the answer to the request: it was sent as that came, or later, as the same octets came again
-- from the same address.
pub record AnswersRequest (first : World) (events : List Event) (last : World) (number : ℕ) (role : Role) (request answer : Message) : Type 0 where
  pub issued : IssuedAnswer first events last role request answer
  pub moment : Moment first events last
  pub again : BringsOctets moment.before moment.event role (arrival (side_of issued.moment.before (other role)).node.config.own request)
  pub sent : moment.after.datagrams ≡ moment.before.datagrams ++ signed role ((answer ∷ issued.more) ∷ [])
  pub place : length moment.before.datagrams ≡ number
  pub since : length issued.moment.earlier ≤ length moment.earlier

-- a session of this gateway, and its default bearer, which it made for the request: those that the response names, with the
-- identity and all else that the request asked for
pub record IsMadeFor (node : Node) (request : CreateSessionRequest) (a : CreateSessionResponse) : Type 0 where
  pub control : ℕ
  pub user : ℕ
  pub address : PdnAddress
  pub names_control : teid_in a.control ≡ Some control
  pub names_user : first_created a.contexts ≡ Some user
  pub names_address : address_of a.address ≡ Some address
  pub names_identity : created_identity a.contexts ≡ Some request.context.identity
  pub session : get node.sessions control ≡ Some (made_session request address)
  pub bearer : get node.bearers user ≡ Some (made_bearer request control)

-- a bearer of this gateway, which it made for the request: the one that the response names, with the identity that it gives and
-- the request's TEID for its remote
pub record IsGrantedFor (node : Node) (request : CreateBearerRequest) (x : CreateBearerResponse) : Type 0 where
  pub user : ℕ
  pub identity : ℕ
  pub names_user : first_given x.contexts ≡ Some user
  pub names_identity : first_identity x.contexts ≡ Some identity
  pub bearer : get node.bearers user ≡ Some (granted_bearer request identity)

-- the request that the Create Session Response with this number in the list answers, of its sequence number, for the session that its header names
pub record AnswersSessionRequest (first : World) (events : List Event) (last : World) (number : ℕ) (a : CreateSessionResponse) : Type 0 where
  pub request : CreateSessionRequest
  pub back : AnswersRequest first events last number Packet (Create_session_request request) (Create_session_response a)
  pub numbered : a.number ≡ request.number
  pub header : a.header ≡ request.control.teid
  pub made : IsAccepting a.cause →
      back.issued.effect.out.made ≡ arrival (side_of back.issued.moment.before Serving).node.config.own (Create_session_request request) ∷ []
  pub accepted : IsAccepting a.cause → IsMadeFor back.issued.effect.node request a
  pub refused : (IsAccepting a.cause → ⊥) → back.issued.effect.out.made ≡ []

-- the request that the Create Bearer Response with this number in the list answers, of its sequence number; where it gives back a
-- TEID, that is the request's
pub record AnswersBearerRequest (first : World) (events : List Event) (last : World) (number : ℕ) (x : CreateBearerResponse) : Type 0 where
  pub request : CreateBearerRequest
  pub back : AnswersRequest first events last number Serving (Create_bearer_request request) (Create_bearer_response x)
  pub numbered : x.number ≡ request.number
  pub returned : (t : ℕ) → first_returned x.contexts ≡ Some t → t ≡ request.context.user.teid
  pub made : IsAccepting x.cause →
      back.issued.effect.out.made ≡ arrival (side_of back.issued.moment.before Packet).node.config.own (Create_bearer_request request) ∷ []
  pub accepted : IsAccepting x.cause → IsGrantedFor back.issued.effect.node request x
  pub refused : (IsAccepting x.cause → ⊥) → back.issued.effect.out.made ≡ []

-- each datagram with a response goes back to that request of the other gateway for which its sender made or refused a context
pub record EachResponseAnswers (first : World) (events : List Event) (last : World) : Type 0 where
  pub sessions :
      (number : ℕ) (datagram : List Message) (a : CreateSessionResponse) →
      slice_get last.datagrams number ≡ Some (record { role = Packet; what = datagram }) →
      Among (Create_session_response a) datagram → AnswersSessionRequest first events last number a
  pub bearers :
      (number : ℕ) (datagram : List Message) (x : CreateBearerResponse) →
      slice_get last.datagrams number ≡ Some (record { role = Serving; what = datagram }) →
      Among (Create_bearer_response x) datagram → AnswersBearerRequest first events last number x

-- only the packet gateway sends Create Session Responses, and only the serving gateway Create Bearer Responses
pub record AnsweredByTaker (w : World) : Type 0 where
  pub sessions : (a : CreateSessionResponse) → HasSent w.history Serving (Create_session_response a) → ⊥
  pub bearers : (x : CreateBearerResponse) → HasSent w.history Packet (Create_bearer_response x) → ⊥

-- the counter of some start of the gateway up to now
pub record IsOfStart (side : Side) (counter : ℕ) : Type 0 where
  pub start : ℕ
  pub by_now : start ≤ side.restarts
  pub is : counter ≡ (side.first + start) % 256

-- no counter in a message is ahead of its sender: it is of a start up to now, and so is that in each TEID of its own
pub record NoneAhead (w : World) : Type 0 where
  pub told : (role : Role) (m : Message) (counter : ℕ) → HasSent w.history role m → recovery_of m ≡ Some counter → IsOfStart (side_of w role) counter
  pub drawn : (role : Role) (m : Message) (t : ℕ) → HasSent w.history role m → Owns m t → IsOfStart (side_of w role) (counter_of t)

-- what is known of the peer is the latest counter that was heard
pub record IsLatestHeard (known : Option ℕ) (seen : List ℕ) : Type 0 where
  pub none : known ≡ None → (counter : ℕ) → Among counter seen → ⊥
  pub heard : (k : ℕ) → known ≡ Some k → Among k seen
  pub latest : (k counter : ℕ) → known ≡ Some k → Among counter seen → age_of k counter ≢ Later

-- each gateway knows the latest counter that it heard
abbrev pub KnownIsLatest : World → Type 0
KnownIsLatest w = (role : Role) → IsLatestHeard (side_of w role).node.known (side_of w role).seen

-- where no delivery was late, each Create Bearer Request has one response that makes a bearer
abbrev pub OneResponsePerBearerRequest : World → Type 0
OneResponsePerBearerRequest w =
    w.late ≡ 0 → (x y : CreateBearerResponse) (s t : ℕ) → HasSent w.history Serving (Create_bearer_response x) →
    HasSent w.history Serving (Create_bearer_response y) → first_given x.contexts ≡ Some s → first_given y.contexts ≡ Some t →
    first_returned x.contexts ≡ first_returned y.contexts → x ≡ y

-- the list has x at most once
abbrev pub AtMostOnce : Arrival → List Arrival → Type 0
AtMostOnce x [] = Unit {0}
AtMostOnce x (y ∷ ys) = (y ≡ x → Among x ys → ⊥) × AtMostOnce x ys

-- where no delivery of a create request was late, its gateway made at most one context for it since it started
abbrev pub OneContextPerRequest : World → Type 0
OneContextPerRequest w = (role : Role) (request : Arrival) → (Among request (side_of w role).late_requests → ⊥) → AtMostOnce request (side_of w role).made

-- the steps that are kept of each gateway lead from its start, configured as it is, to what it is now
abbrev pub StepsAreKept : World → Type 0
StepsAreKept w = (role : Role) →
    Steps role (fresh_node (side_of w role).node.config (((side_of w role).first + (side_of w role).restarts) % 256))
    (steps_of w role) (side_of w role).node

-- two of the steps, one after the other, and those between them
pub record Follow (steps : List Done) (first second : Done) : Type 0 where
  pub before : List Done
  pub between : List Done
  pub after : List Done
  pub are : steps ≡ before ++ (first ∷ (between ++ (second ∷ after)))

-- Each create request acts once in the present start of its gateway: of two steps that took it, the second made no context where
-- the first made one, and both sent the same; where no delivery of it was late, or else where its answer was not given up between
-- the two.
abbrev pub EachRequestActsOnce : World → Type 0
EachRequestActsOnce w =
    (role : Role) (request : Arrival) (message : Message) (first second : Done) (two : Follow (steps_of w role) first second) →
    Makes role message → TookRequest first request message → TookRequest second request message →
    (Among request (side_of w role).late_requests → ⊥) ⊎ NeverForgets two.between request → SecondAddsNothing first second

-- a context has a remote once it is active, and a pending session has none
pub record EachOpened (w : World) : Type 0 where
  pub named :
      (role : Role) (t : ℕ) (s : Session) → get (side_of w role).node.sessions t ≡ Some s → s.state ≢ Pending →
      (remote : ℕ) × (s.remote ≡ Some remote)
  pub blank : (role : Role) (t : ℕ) (s : Session) → get (side_of w role).node.sessions t ≡ Some s → s.state ≡ Pending → s.remote ≡ None
  pub bearers :
      (role : Role) (t : ℕ) (b : Bearer) → get (side_of w role).node.bearers t ≡ Some b → b.state ≡ Active →
      (remote : ℕ) × (b.remote ≡ Some remote)

-- the bearers of a closing session are closing
abbrev pub ClosesWhole : FiniteMap Session → FiniteMap Bearer → Type 0
ClosesWhole sessions bearers =
    (t : ℕ) (b : Bearer) (s : Session) → get bearers t ≡ Some b → get sessions b.session ≡ Some s → s.state ≡ Closing →
    b.state ≡ Closing

-- no session closes without its bearers, and no bearer is made active in a closing session
abbrev pub EachClosesWhole : World → Type 0
EachClosesWhole w = (role : Role) → ClosesWhole (side_of w role).node.sessions (side_of w role).node.bearers

-- no bearer has this TEID
abbrev pub HasNoBearer : World → Role → ℕ → Type 0
HasNoBearer w role t = (b : Bearer) → get (side_of w role).node.bearers t ≡ Some b → ⊥

-- each message that was sent can be sent: so its octets read as that message
abbrev pub EachSendable : World → Type 0
EachSendable w = (role : Role) (m : Message) → HasSent w.history role m → IsSendable m

-- A run goes on from there: the serving gateway restarts, and that is heard: the packet gateway's session goes. No delivery was
-- late up to then, and each message that was sent, from the beginning up to then, can be sent.
pub record HearsRestart (before : World) (session_there : ℕ) : Type 0 where
  pub events : List Event
  pub world : World
  pub run : Run before events world
  pub restarts : world.serving.restarts ≡ 1 + before.serving.restarts
  pub heard : Among world.serving.node.counter world.packet.seen
  pub on_time : world.late ≡ 0
  pub gone : (s : Session) → get world.packet.node.sessions session_there ≡ Some s → ⊥
  pub sendable : EachSendable world

-- A request comes again, and gets the answer that is held.
pub record ComesAgain (before again : World) : Type 0 where
  pub number : ℕ
  pub comes : Happens before (Deliver number) again
  pub note : Note
  pub notes : again.notes ≡ note ∷ before.notes
  pub repeated : note.outcome ≡ Came_to Repeated
  pub answer : SentDatagram
  pub sent : again.datagrams ≡ before.datagrams ++ (answer ∷ [])
  pub held : Among answer before.datagrams

-- A run goes on from there: a request comes again and gets the answer that is held, that datagram is lost, two packets come in
-- the other order, and a dedicated bearer is deleted at both gateways, where its session stays.
pub record GoesOn (before : World) (session session_there bearer bearer_there : ℕ) : Type 0 where
  pub again : World
  pub repeats : ComesAgain before again
  pub events : List Event
  pub world : World
  pub run : Run again events world
  pub first : Entry
  pub second : Entry
  pub apart : first ≢ second
  pub handed : world.handed ≡ before.handed ++ signed Serving (first ∷ second ∷ [])
  pub accepted : world.accepted ≡ before.accepted ++ signed Packet (second ∷ first ∷ [])
  pub deleted : HasNoBearer world Serving bearer
  pub deleted_there : HasNoBearer world Packet bearer_there
  pub stays : (s : Session) × (get world.serving.node.sessions session ≡ Some s)
  pub stays_there : (s : Session) × (get world.packet.node.sessions session_there ≡ Some s)
  pub restart : HearsRestart world session_there
  pub never_comes : Among (Deliver (length before.datagrams)) (events ++ restart.events) → ⊥

-- a run to sessions and dedicated bearers that name each other and to a packet that was accepted on them, with no late delivery
pub record GetsThrough : Type 0 where
  pub serving : Config
  pub packet : Config
  pub events : List Event
  pub world : World
  pub run : Run (start serving packet 1 1) events world
  pub session : ℕ
  pub session_there : ℕ
  pub at_serving : Session
  pub at_packet : Session
  pub sessions : MutualSessions world.serving.node world.packet.node session session_there at_serving at_packet
  pub bearer : ℕ
  pub bearer_there : ℕ
  pub bearer_at_serving : Bearer
  pub bearer_at_packet : Bearer
  pub bearers : MutualBearers world.serving.node world.packet.node bearer bearer_there bearer_at_serving bearer_at_packet
  pub dedicated : bearer_at_serving.kind ≡ Dedicated
  pub of_session : bearer_at_serving.session ≡ session
  pub of_session_there : bearer_at_packet.session ≡ session_there
  pub taken : Entry
  pub handed : HasBy world.handed Serving taken
  pub accepted : HasBy world.accepted Packet taken
  pub on_bearer : taken.target ≡ bearer_there
  pub on_time : world.late ≡ 0
  pub goes_on : GoesOn world session session_there bearer bearer_there

-- there is such a run
abbrev pub ARunIsPossible : Type 0
ARunIsPossible = GetsThrough

-- A run to a session and to the bearer of its access point's template, with one command: the answer to the request for the
-- session and the request for the bearer are one datagram, and the serving gateway takes the two, one after the other. The
-- sessions of both gateways name each other then, and so do these bearers. As the request for the session comes again, the same
-- datagram is sent. No delivery was late, and each message that was sent can be sent.
pub record GetsTemplate : Type 0 where
  pub serving : Config
  pub packet : Config
  pub spec : Specification
  pub opened : World
  pub run : Run (start serving packet 1 1) (Does Serving (Create_session spec) ∷ Deliver 0 ∷ Deliver 1 ∷ []) opened
  pub answer : CreateSessionResponse
  pub request : CreateBearerRequest
  pub together : slice_get opened.datagrams 1 ≡ Some (record { role = Packet; what = response_and_request answer request })
  pub note : Note
  pub before : List Note
  pub notes : opened.notes ≡ note ∷ before
  pub first : note.outcome ≡ Came_to Opened
  pub second : note.second ≡ Some (Answered REQUEST_ACCEPTED)
  pub world : World
  pub agrees : Happens opened (Deliver 2) world
  pub session : ℕ
  pub session_there : ℕ
  pub at_serving : Session
  pub at_packet : Session
  pub sessions : MutualSessions world.serving.node world.packet.node session session_there at_serving at_packet
  pub bearer : ℕ
  pub bearer_there : ℕ
  pub bearer_at_serving : Bearer
  pub bearer_at_packet : Bearer
  pub bearers : MutualBearers world.serving.node world.packet.node bearer bearer_there bearer_at_serving bearer_at_packet
  pub dedicated : bearer_at_serving.kind ≡ Dedicated
  pub of_session : bearer_at_serving.session ≡ session
  pub of_session_there : bearer_at_packet.session ≡ session_there
  pub again : World
  pub repeats : ComesAgain world again
  pub whole : repeats.answer.what ≡ response_and_request answer request
  pub on_time : again.late ≡ 0
  pub sendable : EachSendable again

-- there is such a run
abbrev pub ATemplateIsPossible : Type 0
ATemplateIsPossible = GetsTemplate
