-- What is kept of two gateways and of all that they have sent, as contracts see it.
use Rattle.std.specs.Prelude.{ℕ, ◌+◌, if◌then◌else◌, Bool, List, [], ◌∷◌, ◌++◌, map, Option, option_map}
use Rattle.gtp_machine.specs.Input.{Entry}
use Rattle.gtp_machine.specs.declared.outcome.Outcome.{Outcome as OfMessage}
use Rattle.gtp_machine.specs.declared.role.Role.{Role}
use Rattle.gtp_machine.specs.declared.role.Role.TheVariants.{Serving, Packet}
use Rattle.gtp_machine.specs.Node.{Arrival}
use Rattle.gtp_machine.specs.Spelling.{Datagram}
use Rattle.gtp_machine.specs.World.{By, EventOutcome, Came_to, Ticked, Restarted, No_such_datagram, Restarts_used, Cut_too_long}
use Rattle.gtp_gateway.specs.messages.Sent.{datagram_by}
use Rattle.gtp_gateway.specs.Settings.{Settings}
use Rattle.gtp_gateway.specs.GatewayState.{GatewayState}
use Rattle.gtp_gateway.specs.Tick.{arrivals_of}
pub use Rattle.gtp_world.specs.Indexes.{entry_by}
use Rattle.gtp_world.specs.declared.event.EventOutcome.{EventOutcome as Outcome}
use Rattle.gtp_world.specs.declared.event.EventOutcome.TheVariants as outcomes
use Rattle.gtp_world.specs.declared.log.Datagram.{Datagram as LoggedDatagram}
use Rattle.gtp_world.specs.declared.log.Note.{Note}
use Rattle.gtp_world.specs.declared.records.Records.{Records}
use Rattle.gtp_world.specs.declared.simulated_gateway.SimulatedGateway.{SimulatedGateway}
use Rattle.gtp_world.specs.declared.simulation.Simulation.{Simulation}

-- a list the other way round
abbrev pub oldest_first : {X : Type 0} → List X → List X
oldest_first [] = []
oldest_first (x ∷ xs) = oldest_first xs ++ (x ∷ [])

-- a gateway, and what is kept of it since it started: the counters that it heard, the requests whose answers it has given up, and the create requests for
-- which it made a context, each in order; how it is set up, with which counter it began, and how often it was restarted
pub record GatewayRecord : Type 0 where
  pub settings : Settings
  pub state : GatewayState
  pub first : ℕ
  pub restarts : ℕ
  pub seen : List ℕ
  pub forgotten : List Arrival
  pub made : List Arrival

-- what is told of an event: what it came to, and the second message of a datagram, where two were taken one after the other; the later counter that was learned,
-- how many datagrams it sent, the requests that it gave up, and those whose answers it forgot
pub record EventRecord : Type 0 where
  pub outcome : EventOutcome
  pub second : Option OfMessage
  pub learned : Option ℕ
  pub sent : ℕ
  pub gave_up : List ℕ
  pub forgot : List Arrival

-- each datagram that was ever sent, each packet that was handed in and each that was accepted, in order, and by which gateway; how many deliveries were
-- late; and what came of each event, in order
pub record Log : Type 0 where
  pub datagrams : List (By Datagram)
  pub handed : List (By Entry)
  pub accepted : List (By Entry)
  pub late : ℕ
  pub notes : List EventRecord

-- what each event came to, in order
abbrev pub outcomes_in : Log → List EventOutcome
outcomes_in log = map (λ (t : EventRecord). t.outcome) log.notes

-- both gateways, and the log of what they did
pub record WorldRecord : Type 0 where
  pub serving : GatewayRecord
  pub packet : GatewayRecord
  pub log : Log

abbrev pub gateway_in : WorldRecord → Role → GatewayRecord
gateway_in v Serving = v.serving
gateway_in v Packet = v.packet

abbrev pub with_gateway : WorldRecord → Role → GatewayRecord → WorldRecord
with_gateway v Serving gateway = record v { serving = gateway }
with_gateway v Packet gateway = record v { packet = gateway }

-- the same of what the program keeps

abbrev pub gateway_record_of : SimulatedGateway → GatewayRecord
gateway_record_of s = record {
  settings = s.config;
  state = s.gateway;
  first = s.first.0;
  restarts = s.restarts;
  seen = map (λ c. c.0) s.seen.items;
  forgotten = s.forgotten.list;
  made = arrivals_of s.made.items;
}

abbrev pub outcome_of : Outcome → EventOutcome
outcome_of (outcomes.CameTo outcome) = Came_to outcome
outcome_of outcomes.Ticked = Ticked
outcome_of (outcomes.Restarted counter) = Restarted counter.0
outcome_of outcomes.NoSuchDatagram = No_such_datagram
outcome_of outcomes.RestartsUsed = Restarts_used
outcome_of outcomes.CutTooLong = Cut_too_long

abbrev pub sent_by : LoggedDatagram → By Datagram
sent_by d = record { role = d.node; what = datagram_by d.sent }

abbrev pub told_by : Note → EventRecord
told_by n = record { outcome = outcome_of n.outcome; second = n.second; learned = option_map (λ c. c.0) n.restart; sent = n.sent; gave_up = n.gave_up.items; forgot = arrivals_of n.forgotten.items }

-- one more where a delivery was late
abbrev pub counted : Bool → ℕ → ℕ
counted late n = if late then 1 + n else n

-- how many of the deliveries were late
abbrev pub late_among : List Note → ℕ
late_among [] = 0
late_among (n ∷ notes) = counted n.late (late_among notes)

abbrev pub log_of : Records → Log
log_of r = record { datagrams = map sent_by r.datagrams.items; handed = r.handed.list; accepted = map entry_by r.accepted.items; late = late_among r.notes.items; notes = map told_by r.notes.items }

abbrev pub world_record_of : Simulation → WorldRecord
world_record_of w = record { serving = gateway_record_of w.gateways.serving; packet = gateway_record_of w.gateways.packet; log = log_of w.records }
