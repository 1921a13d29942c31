-- Runs of the machine, and what they leave.
use Rattle.std.specs.Prelude.{◌≡◌, ℕ, List, [], ◌∷◌, ◌++◌, map, length}
use Rattle.gtp_machine.specs.Config.{Config, own_end}
use Rattle.gtp_machine.specs.declared.role.Role.{Role}
use Rattle.gtp_machine.specs.declared.role.Role.TheVariants.{Serving, Packet}
use Rattle.gtp_machine.specs.Spelling.{Datagram, datagram_plane, spelled_all}
use Rattle.gtp_machine.specs.World as machine
use Rattle.gtp_machine.specs.World.{By, SentDatagram, Side, World, Event, Run, start}
use Rattle.gtp_machine.specs.Safety.{SessionsAgree, BearersAgree, EachOwed, NoneOutlivesRestart}
use Rattle.gtp_world.specs.Record.{oldest_first, GatewayRecord, EventRecord, WorldRecord, gateway_in}
use Rattle.gtp_gateway.specs.messages.Sent.{ReadsBack}
use Rattle.gtp_gateway.specs.Settings.{Settings}
use Rattle.gtp_world.specs.Recorded.{empty_log}
use Rattle.gtp_world.specs.Stepped.{gateway_begun, EventsLeave}

-- both gateways as they are set up, and the counters that they begin with
pub record Setup : Type 0 where
  pub serving : Settings
  pub packet : Settings
  pub serving_counter : ℕ
  pub packet_counter : ℕ

abbrev pub config_in : Setup → Role → Config
config_in setup Serving = setup.serving.config
config_in setup Packet = setup.packet.config

-- each gateway has the other's addresses for its peer
pub record AreFacing (serving packet : Settings) : Type 0 where
  pub control : serving.config.own.control ≡ packet.config.peer.control
  pub user : serving.config.own.user ≡ packet.config.peer.user
  pub control_back : packet.config.own.control ≡ serving.config.peer.control
  pub user_back : packet.config.own.user ≡ serving.config.peer.user

-- both gateways, just started
abbrev pub begun : Setup → WorldRecord
begun setup = record { serving = gateway_begun Serving setup.serving setup.serving_counter; packet = gateway_begun Packet setup.packet setup.packet_counter; log = empty_log }

-- the datagram is the one that its gateway sends for these messages, whoever it goes to; and it reads as them
pub record IsFor (setup : Setup) (d : By Datagram) (sent : SentDatagram) : Type 0 where
  pub role : d.role ≡ sent.role
  pub plane : d.what.plane ≡ datagram_plane sent.what
  pub from : d.what.from ≡ own_end (config_in setup sent.role) (datagram_plane sent.what)
  pub octets : d.what.octets ≡ spelled_all sent.what
  pub reads : ReadsBack sent.what

-- the datagrams are those of these messages, one by one
abbrev pub AreFor : Setup → List (By Datagram) → List SentDatagram → Type 0
AreFor setup [] [] = Unit {0}
AreFor setup (d ∷ datagrams) (s ∷ sent) = IsFor setup d s × AreFor setup datagrams sent
AreFor setup datagrams sent = ⊥

-- what is told of an event, by the machine's note of it
abbrev pub told_in : machine.Note → EventRecord
told_in n = record { outcome = n.outcome; second = n.second; learned = n.learned; sent = length n.sent; gave_up = n.gave_up; forgot = n.forgot }

-- what is kept of a gateway is what the machine's world has of it
pub record GatewayStandsFor (config : Config) (which : Role) (gateway : GatewayRecord) (side : Side) : Type 0 where
  pub set_up : gateway.settings.config ≡ config
  pub role : gateway.state.role ≡ which
  pub node : gateway.state.node ≡ side.node
  pub first : gateway.first ≡ side.first
  pub restarts : gateway.restarts ≡ side.restarts
  pub seen : gateway.seen ≡ oldest_first side.seen
  pub forgotten : gateway.forgotten ≡ side.forgotten
  pub made : gateway.made ≡ oldest_first side.made

-- What is kept stands for a world of the machine: its gateways, and all that they have sent, as octets; its logs and its notes.
pub record StandsFor (setup : Setup) (v : WorldRecord) (w : World) : Type 0 where
  pub serving : GatewayStandsFor setup.serving.config Serving v.serving w.serving
  pub packet : GatewayStandsFor setup.packet.config Packet v.packet w.packet
  pub datagrams : AreFor setup v.log.datagrams w.datagrams
  pub handed : v.log.handed ≡ w.handed
  pub accepted : v.log.accepted ≡ w.accepted
  pub late : v.log.late ≡ w.late
  pub notes : v.log.notes ≡ oldest_first (map told_in w.notes)

-- It is what a run of these events leaves, from two gateways that have just started.
pub record LeftByRun (setup : Setup) (events : List Event) (v : WorldRecord) : Type 0 where
  pub world : World
  pub run : Run (start setup.serving.config setup.packet.config setup.serving_counter setup.packet_counter) events world
  pub stands : StandsFor setup v world

-- some run of gateways that face each other leaves it
pub record LeftBySomeRun (v : WorldRecord) : Type 0 where
  pub setup : Setup
  pub facing : AreFacing setup.serving setup.packet
  pub events : List Event
  pub run : LeftByRun setup events v

-- Tunnel safety. Contexts that name each other agree on subscriber, access point, bearer identity and address; where no delivery was late, each packet that
-- was accepted was handed in at the other gateway, octet for octet, for that subscriber, access point and bearer; and no session outlives a restart of the
-- peer that its gateway has heard of.
pub record IsSafe (v : WorldRecord) : Type 0 where
  pub sessions : SessionsAgree v.serving.state.node v.packet.state.node
  pub bearers : BearersAgree v.serving.state.node v.packet.state.node
  pub owed : EachOwed v.log.late v.log.handed v.log.accepted
  pub none_over : (role : Role) → NoneOutlivesRestart (gateway_in v role).state.node (gateway_in v role).seen

-- The run of these events that was at this world of the machine goes on from there by more events, and leaves this.
pub record Continues (setup : Setup) (events : List Event) (world : World) (more : List Event) (v : WorldRecord) : Type 0 where
  pub whole : LeftByRun setup (events ++ more) v
  pub on : Run world more whole.world

-- Each run that leaves the one goes on by these events, from the very world of the machine that it has reached, and then leaves the other.
abbrev pub ContinuesRun : WorldRecord → List Event → WorldRecord → Type 0
ContinuesRun old more new = (setup : Setup) (events : List Event) (r : LeftByRun setup events old) → Continues setup events r.world more new

-- these events have come to what they come to: that is a run of the machine, and safe
pub record RanWhole (setup : Setup) (events : List Event) (v : WorldRecord) : Type 0 where
  pub comes : EventsLeave (begun setup) events v
  pub run : LeftByRun setup events v
  pub safe : IsSafe v
