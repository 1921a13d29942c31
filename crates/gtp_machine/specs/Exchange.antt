-- The exchange that makes a session (TS 29.274, 7.2.1 and 7.2.2), on a path that brings each datagram at once.
use Rattle.std.specs.Prelude.{◌≡◌, ◌⊎◌, ℕ, ◌+◌, ◌≤◌, ◌<◌, ◌^◌, List, All, [], ◌∷◌, ◌++◌, Some, is_some, IsSome, IsTrue, length}
use Rattle.std.specs.FinMap.{get}
use Rattle.gtp_values.specs.Address.{IsIp}
use Rattle.gtp_values.specs.Apn.{IsApn}
use Rattle.gtp_values.specs.Imsi.{IsImsi}
use Rattle.gtp_values.specs.Plmn.{IsNetwork}
use Rattle.gtp_values.specs.declared.qos.Ambr.{Ambr}
use Rattle.gtp_values.specs.declared.qos.Qos.{Qos}
use Rattle.gtp_ie.specs.Value.{AreRates}
use Rattle.gtp_tables.specs.Pool.{IsPool, ArePrefixes}
use Rattle.gtp_machine.specs.declared.causes.TheConstants.{REQUEST_ACCEPTED, NEW_PDN_TYPE_DUE_TO_NETWORK_PREFERENCE}
use Rattle.gtp_machine.specs.Config.{Template, Config, access_point_for}
use Rattle.gtp_machine.specs.Element.{PdnAddress}
use Rattle.gtp_machine.specs.Message.{CreateSessionResponse, Message, Create_session_response, plane_of}
use Rattle.gtp_machine.specs.Node.{Role, Serving, Packet, Session, Bearer, Default}
use Rattle.gtp_machine.specs.Input.{Entry, Specification, Create_session, Send_user, Begun, Answered, Opened, Accepted}
use Rattle.gtp_machine.specs.Choice.{HasDraws, IsGiven, CanGive, IsIdentity, HasSessionRoom, HasPendingRoom, HasHeldRoom}
use Rattle.gtp_machine.specs.Packet.{session_cause}
use Rattle.gtp_machine.specs.Recovery.{heard_by}
use Rattle.gtp_machine.specs.Spelling.{ReadsAs, spelled, IsSendable}
use Rattle.gtp_machine.specs.World.{World, Event, Does, Deliver, Happens, Run, EventOutcome, Came_to, Note, HasSent, signed, other, start}
use Rattle.gtp_machine.specs.Laws.{EachSendable}
use Rattle.gtp_machine.specs.Safety.{MutualSessions, MutualBearers}

-- each gateway has the other's addresses for its peer's
pub record IsOnePath (serving packet : Config) : Type 0 where
  pub there : serving.peer ≡ packet.own
  pub back : packet.peer ≡ serving.own

-- bit rates that have room in an AMBR (8.7)
pub record IsAmbr (ambr : Ambr) : Type 0 where
  pub up : ambr.up < 2 ^ 32
  pub down : ambr.down < 2 ^ 32

-- a class, a priority level and bit rates that have room in a Bearer QoS (8.15)
pub record IsQos (qos : Qos) : Type 0 where
  pub class : qos.qci < 256
  pub level : qos.pl < 16
  pub most : AreRates qos.mbr
  pub guaranteed : AreRates qos.gbr

-- what a template says has room in a Create Bearer Request: a TFT (8.19) of at most 255 octets, and a QoS
pub record IsTemplate (t : Template) : Type 0 where
  pub short : length t.tft ≤ 255
  pub octets : All (λ octet. octet < 256) t.tft
  pub qos : IsQos t.qos

-- the gateway's own addresses are addresses, its pools are pools, and its templates have room
pub record IsConfigured (config : Config) : Type 0 where
  pub control : IsIp config.own.control
  pub user : IsIp config.own.user
  pub v4 : IsPool config.pools.v4
  pub v6 : ArePrefixes config.pools.v6
  pub octets : All (λ octet. octet < 256) config.pools.v6.start
  pub templates : All IsTemplate config.templates

-- what a session is to be made with has room in a Create Session Request
pub record IsSpecified (spec : Specification) : Type 0 where
  pub imsi : IsImsi spec.subscriber.imsi
  pub technology : spec.rat < 256
  pub access_point : IsApn spec.subscriber.access_point
  pub network : IsNetwork spec.network
  pub selection : spec.selection < 4
  pub ambr : IsAmbr spec.ambr
  pub qos : IsQos spec.qos

-- each message that was sent reads as itself
abbrev pub AllRead : World → Type 0
AllRead w = (role : Role) (m : Message) → HasSent w.history role m → ReadsAs (plane_of m) (spelled m) m

-- nothing stands in the way of a session for this specification
pub record CanExchange (w : World) (spec : Specification) : Type 0 where
  pub identity : IsIdentity spec.subscriber.identity
  pub configured : IsSome (access_point_for w.packet.node.config spec.subscriber.access_point)
  pub serving_room : HasSessionRoom w.serving.node
  pub packet_room : HasSessionRoom w.packet.node
  pub serving_draws : HasDraws w.serving.node 2
  pub packet_draws : HasDraws w.packet.node 2
  pub pending_room : HasPendingRoom w.serving.node
  pub held_room : HasHeldRoom w.packet.node
  pub give : CanGive (heard_by w.packet.node w.serving.node.counter) spec.pdn  -- once the request's counter is heard

-- the latest event came to this
pub record CameTo (w : World) (outcome : EventOutcome) : Type 0 where
  pub note : Note
  pub before : List Note
  pub notes : w.notes ≡ note ∷ before
  pub is : note.outcome ≡ outcome

-- the packet with this payload that was handed in at this gateway was accepted at the other
pub record IsCarried (w sent came : World) (role : Role) (payload : List ℕ) : Type 0 where
  pub outcome : CameTo came (Came_to Accepted)
  pub packet : Entry
  pub carries : packet.payload ≡ payload
  pub handed : sent.handed ≡ w.handed ++ signed role (packet ∷ [])
  pub accepted : came.accepted ≡ sent.accepted ++ signed (other role) (packet ∷ [])

-- a packet of at most 65,000 octets that is sent on the bearer, and comes next, is accepted
abbrev pub Carries : World → Role → ℕ → Type 0
Carries w role bearer =
    (payload : List ℕ) (sent came : World) → length payload ≤ 65000 → Happens w (Does role (Send_user bearer payload)) sent →
    Happens sent (Deliver (length w.datagrams)) came → IsCarried w sent came role payload

-- There is a session for the specification at both gateways, and its default bearer carries packets in both directions.
pub record IsMade (w : World) (spec : Specification) : Type 0 where
  pub session : ℕ
  pub session_there : ℕ
  pub at_serving : Session
  pub at_packet : Session
  pub sessions : MutualSessions w.serving.node w.packet.node session session_there at_serving at_packet
  pub subscriber : at_serving.subscriber ≡ spec.subscriber
  pub subscriber_there : at_packet.subscriber ≡ spec.subscriber
  pub bearer : ℕ
  pub bearer_there : ℕ
  pub bearer_at_serving : Bearer
  pub bearer_at_packet : Bearer
  pub bearers : MutualBearers w.serving.node w.packet.node bearer bearer_there bearer_at_serving bearer_at_packet
  pub default : bearer_at_serving.kind ≡ Default
  pub default_there : bearer_at_packet.kind ≡ Default
  pub of : bearer_at_serving.session ≡ session
  pub of_there : bearer_at_packet.session ≡ session_there
  pub identity : bearer_at_serving.identity ≡ Some spec.subscriber.identity
  pub up : Carries w Serving bearer
  pub down : Carries w Packet bearer_there

-- the session was at neither gateway before
pub record IsNewIn (w opened : World) (spec : Specification) (made : IsMade opened spec) : Type 0 where
  pub session : (s : Session) → get w.serving.node.sessions made.session ≡ Some s → ⊥
  pub session_there : (s : Session) → get w.packet.node.sessions made.session_there ≡ Some s → ⊥
  pub bearer : (b : Bearer) → get w.serving.node.bearers made.bearer ≡ Some b → ⊥
  pub bearer_there : (b : Bearer) → get w.packet.node.bearers made.bearer_there ≡ Some b → ⊥

-- the three events come to these outcomes, and a new session is made: the one that was begun. Its address, the same at both
-- gateways, is one that the packet gateway may give, of versions that the PDN type asks for, and the answer has the cause that
-- goes with it (8.4)
pub record Exchanged (spec : Specification) (w begun answered opened : World) : Type 0 where
  pub made : IsMade opened spec
  pub new : IsNewIn w opened spec made
  pub first : CameTo begun (Came_to (Begun (Some made.session)))
  pub cause : ℕ
  pub second : CameTo answered (Came_to (Answered cause))
  pub answer : CreateSessionResponse
  pub more : List Message  -- what goes with it in the datagram: the request of the template's bearer, or nothing
  pub told : answered.datagrams ≡ begun.datagrams ++ signed Packet ((Create_session_response answer ∷ more) ∷ [])
  pub says : answer.cause.value ≡ cause
  pub address : PdnAddress
  pub given : IsGiven (heard_by w.packet.node w.serving.node.counter) spec.pdn address  -- by the rules, once the request's counter is heard
  pub v4_asked : IsTrue (is_some address.v4) → (spec.pdn ≡ 1) ⊎ (spec.pdn ≡ 3)  -- only for the PDN types IPv4 (1) and IPv4v6 (3), 8.34
  pub v6_asked : IsTrue (is_some address.v6) → (spec.pdn ≡ 2) ⊎ (spec.pdn ≡ 3)  -- only for the PDN types IPv6 (2) and IPv4v6 (3)
  pub has : made.at_serving.address ≡ Some address
  pub has_there : made.at_packet.address ≡ Some address
  pub for_address : cause ≡ session_cause spec.pdn address
  pub third : CameTo opened (Came_to Opened)

-- The three events of an exchange for the specification, on one path, where nothing stands in the way and all that is to be written has room.
pub record IsExchange (w begun answered opened : World) (spec : Specification) : Type 0 where
  pub path : IsOnePath w.serving.node.config w.packet.node.config
  pub serving : IsConfigured w.serving.node.config
  pub packet : IsConfigured w.packet.node.config
  pub specified : IsSpecified spec
  pub can : CanExchange w spec
  pub begins : Happens w (Does Serving (Create_session spec)) begun
  pub comes : Happens begun (Deliver (length w.datagrams)) answered
  pub opens : Happens answered (Deliver (1 + length w.datagrams)) opened

-- After each run the command, the delivery of its request and the delivery of its answer make the session.
abbrev pub FairExchange : Type 0
FairExchange =
    (serving packet : Config) (serving_counter packet_counter : ℕ) (events : List Event) (w begun answered opened : World) (spec : Specification) →
    Run (start serving packet serving_counter packet_counter) events w → IsExchange w begun answered opened spec →
    Exchanged spec w begun answered opened

-- And each message that is sent in them can be sent, so it reads as itself.
abbrev pub ExchangeSendable : Type 0
ExchangeSendable =
    (serving packet : Config) (serving_counter packet_counter : ℕ) (events : List Event) (w begun answered opened : World) (spec : Specification) →
    Run (start serving packet serving_counter packet_counter) events w → IsExchange w begun answered opened spec →
    (role : Role) (m : Message) → HasSent opened.history role m → HasSent w.history role m ⊎ IsSendable m

-- Where each message that was sent can be sent, each reads as itself.
abbrev pub SendableRead : Type 0
SendableRead = (w : World) → EachSendable w → AllRead w

-- An exchange for a session of this type, which is answered with this cause, right after a start: two configurations, a
-- specification and its three events, with all that `FairExchange` asks of them. And each message that is sent in it can be sent.
pub record AnExchange (pdn cause : ℕ) : Type 0 where
  pub serving : Config
  pub packet : Config
  pub serving_counter : ℕ
  pub packet_counter : ℕ
  pub begun : World
  pub answered : World
  pub opened : World
  pub spec : Specification
  pub type : spec.pdn ≡ pdn
  pub is : IsExchange (start serving packet serving_counter packet_counter) begun answered opened spec
  pub sendable : EachSendable opened
  pub made : Exchanged spec (start serving packet serving_counter packet_counter) begun answered opened
  pub answers : made.cause ≡ cause

-- There is such an exchange for each of the three types, and for type 3 one of each cause.
pub record ExchangesArePossible : Type 0 where
  pub v4 : AnExchange 1 REQUEST_ACCEPTED
  pub v6 : AnExchange 2 REQUEST_ACCEPTED
  pub both : AnExchange 3 REQUEST_ACCEPTED
  pub one_of_both : AnExchange 3 NEW_PDN_TYPE_DUE_TO_NETWORK_PREFERENCE
