-- Two gateways and all that they have sent.
use Rattle.std.specs.Prelude.{◌≡◌, ℕ, ◌+◌, ◌%◌, ◌<◌, List, [], ◌∷◌, ◌++◌, map, length, take, Option, Some, None, slice_get}
use Rattle.gtp_machine.specs.Ordered.{Unless}
use Rattle.gtp_values.specs.FiniteMap.{Among}
use Rattle.gtp_user.specs.Codes as user_codes
use Rattle.gtp_machine.specs.Config.{Addresses, Config, control_end, user_end}
use Rattle.gtp_machine.specs.Message.{Message, Create_session_response, Create_bearer_request, Plane, Control, User}
use Rattle.gtp_machine.specs.Node.{Role, Serving, Packet, Arrival, Node, fresh_node}
use Rattle.gtp_machine.specs.Input.{Command, Move, Input, Commanded, Control_came, User_came, Control_message, Control_fault, User_message}
use Rattle.gtp_machine.specs.Input.{User_fault, Entry, Outcome, Out, Effect, messages, datagrams}
pub use Rattle.gtp_machine.specs.Input.{EventOutcome, Came_to, Ticked, Restarted, No_such_datagram, Restarts_used, Cut_too_long}
use Rattle.gtp_machine.specs.Tick.{TickStep, ticked}
use Rattle.gtp_machine.specs.Step.{Step, TakesPair, Done, tick_steps}
use Rattle.gtp_machine.specs.Reading.{taken_as, reading_of, cut_fault, pair_cut_fault, user_cut_fault}
use Rattle.gtp_machine.specs.Spelling.{spelled, datagram_plane, spelled_all, announcing, last_part}

-- the other gateway
abbrev pub other : Role → Role
other Serving = Packet
other Packet = Serving

-- what a gateway sent, was handed or accepted, and which gateway it was
pub record By (X : Type 0) : Type 0 where
  pub role : Role
  pub what : X

-- a message that was sent, and who sent it
abbrev pub Sent : Type 0
Sent = By Message

-- the same of a datagram
abbrev pub SentDatagram : Type 0
SentDatagram = By (List Message)

-- a gateway of the world, and what is kept of it
pub record Side : Type 0 where
  pub node : Node
  pub first : ℕ  -- the counter that it began with
  pub restarts : ℕ  -- how often it was restarted
  pub seen : List ℕ  -- counters heard since it started
  pub forgotten : List Arrival  -- requests whose answers were given up since it started
  pub late_requests : List Arrival  -- requests that came late since it started
  pub made : List Arrival  -- create requests for which a context was made since it started

-- what is kept of an event
pub record Note : Type 0 where
  pub outcome : EventOutcome
  pub second : Option Outcome  -- that of the second message, where two are taken one after the other
  pub learned : Option ℕ
  pub sent : List (List Message)  -- datagram by datagram
  pub gave_up : List ℕ
  pub forgot : List Arrival

-- two gateways, what they have sent, and what came of each event
pub record World : Type 0 where
  pub serving : Side
  pub packet : Side
  pub datagrams : List SentDatagram  -- each datagram that was ever sent, in order
  pub history : List Sent  -- each message that was ever sent, in order
  pub handed : List (By Entry)  -- each packet that was handed in, in order
  pub accepted : List (By Entry)  -- each packet that was accepted, in order
  pub late : ℕ  -- deliveries of requests whose answers were given up
  pub notes : List Note  -- one for each event, the latest first
  pub serving_steps : List Done  -- the steps of the serving gateway since it started, in order
  pub packet_steps : List Done  -- those of the packet gateway

-- the log has this of this gateway
abbrev pub HasBy : {X : Type 0} → List (By X) → Role → X → Type 0
HasBy log role what = Among (record { role = role; what = what }) log

-- the role has sent the message
abbrev pub HasSent : List Sent → Role → Message → Type 0
HasSent history role message = HasBy history role message

-- the gateway with this role
abbrev pub side_of : World → Role → Side
side_of w Serving = w.serving
side_of w Packet = w.packet

-- the world with that gateway changed
abbrev pub with_side : World → Role → Side → World
with_side w Serving side = record w { serving = side }
with_side w Packet side = record w { packet = side }

-- the steps of the gateway with this role since it started
abbrev pub steps_of : World → Role → List Done
steps_of w Serving = w.serving_steps
steps_of w Packet = w.packet_steps

-- the world with other steps of that gateway
abbrev pub with_steps : World → Role → List Done → World
with_steps w Serving steps = record w { serving_steps = steps }
with_steps w Packet steps = record w { packet_steps = steps }

-- the world after some more steps of that gateway
abbrev pub logged : World → Role → List Done → World
logged w role steps = with_steps w role (steps_of w role ++ steps)

-- what may happen next
pub data Event : Type 0 where
  Does : Role → Command → Event
  Tick : Role → Event
  Deliver : ℕ → Event  -- the datagram with this number comes to the gateway that did not send it
  Cut : ℕ → ℕ → Event  -- so many of its first octets come
  Restart : Role → Event

-- each of the list, by this gateway
abbrev pub signed : {X : Type 0} → Role → List X → List (By X)
signed role list = map (λ what. record { role = role; what = what }) list

-- the messages of these datagrams, one datagram after the other
abbrev pub flat : List SentDatagram → List Sent
flat [] = []
flat (d ∷ sent) = signed d.role d.what ++ flat sent

-- the counters heard, with one more
abbrev pub with_heard : Option ℕ → List ℕ → List ℕ
with_heard None seen = seen
with_heard (Some counter) seen = counter ∷ seen

-- a side after a step
abbrev pub stepped : Side → Effect → Side
stepped side e =
    record side {
      node = e.node;
      seen = with_heard e.out.heard side.seen;
      forgotten = side.forgotten ++ e.out.forgot;
      made = e.out.made ++ side.made;
    }

-- the world after a step of a gateway
abbrev pub moved : World → Role → Effect → World
moved w role e =
    record (with_side w role (stepped (side_of w role) e)) {
      datagrams = w.datagrams ++ signed role (datagrams e.out.sent);
      history = w.history ++ signed role (messages e.out.sent);
      handed = w.handed ++ signed role e.out.handed;
      accepted = w.accepted ++ signed role e.out.accepted;
    }

-- the world with one more note
abbrev pub noted : World → Note → World
noted w note = record w { notes = note ∷ w.notes }

-- the note of an event that sends nothing
abbrev pub quiet_note : EventOutcome → Note
quiet_note outcome = record { outcome = outcome; second = None; learned = None; sent = []; gave_up = []; forgot = [] }

-- the note of what an event gave
abbrev pub note_of : EventOutcome → Out → Note
note_of outcome out =
    record { outcome = outcome; second = None; learned = out.learned; sent = datagrams out.sent; gave_up = out.gave_up; forgot = out.forgot }

-- the outcome that is told, where one is
abbrev pub outcome_in : EventOutcome → Option Outcome
outcome_in (Came_to outcome) = Some outcome
outcome_in outcome = None

-- the note of two messages of one delivery: of the first, with the outcome of the second beside it, and what both sent
abbrev pub note_of_both : Effect → Effect → Note
note_of_both first next =
    record (note_of first.outcome first.out) { second = outcome_in next.outcome; sent = datagrams first.out.sent ++ datagrams next.out.sent }

-- A gateway takes an input, and what comes of it is noted.
pub record Moves (old : World) (role : Role) (input : Input) (new : World) : Type 0 where
  pub effect : Effect
  pub step : Step role (side_of old role).node input effect
  pub becomes : new ≡ logged (noted (moved old role effect) (note_of effect.outcome effect.out)) role
      (record { before = (side_of old role).node; input = input; effect = effect } ∷ [])

-- A gateway takes the two messages of one delivery, one after the other, and what comes of both is noted.
pub record MovesTwice (old : World) (role : Role) (first second : Input) (new : World) : Type 0 where
  pub effect : Effect
  pub step : Step role (side_of old role).node first effect
  pub next : Effect
  pub follows : Step role effect.node second next
  pub becomes : new ≡ logged (noted (moved (moved old role effect) role next) (note_of_both effect next)) role
      (record { before = (side_of old role).node; input = first; effect = effect }
      ∷ record { before = effect.node; input = second; effect = next }
      ∷ [])

-- A tick is any list of moves.
pub record TicksOn (old : World) (role : Role) (new : World) : Type 0 where
  pub moves : List Move
  pub out : Out
  pub after : Node
  pub tick : TickStep (side_of old role).node moves out after
  pub becomes : new ≡ logged (noted (moved old role (ticked out after)) (note_of Ticked out)) role
      (tick_steps (side_of old role).node moves out after tick)

-- octets as they come over the path, from their sender's control address
abbrev pub come_from : Addresses → List ℕ → Arrival
come_from from octets = record { source = control_end from.control; octets = octets }

-- a request as it comes: the octets that spell it
abbrev pub arrival : Addresses → Message → Arrival
arrival from message = come_from from (spelled message)

-- a datagram as it comes, as a whole; on the user plane it is one message
abbrev pub delivered_on : Plane → Addresses → List Message → Input
delivered_on Control from datagram = Control_came (come_from from (spelled_all datagram)) (taken_as (reading_of datagram))
delivered_on User from (message ∷ []) = User_came (user_end from.user) (User_message message)
delivered_on User from datagram = User_came (user_end from.user) (User_fault user_codes.short_number)

-- the first of two messages of a datagram as it comes, by the octets in which it lies
abbrev pub first_came : Addresses → Message → Input
first_came from first = Control_came (come_from from (announcing first)) (Control_message first)

-- the second, by its own octets
abbrev pub second_came : Addresses → Message → Input
second_came from second = Control_came (arrival from second) (Control_message second)

-- the fault of so many first octets of a datagram of these messages
abbrev pub fault_of_cut : List Message → ℕ → ℕ
fault_of_cut [] count = cut_fault count
fault_of_cut (message ∷ []) count = cut_fault count
fault_of_cut (first ∷ second ∷ rest) count = pair_cut_fault count (length (spelled first))

-- its first octets as they come: they read as no message, and with the fault of a cut
abbrev pub cut_on : Plane → Addresses → List Message → ℕ → Input
cut_on Control from datagram count = Control_came (come_from from (take count (spelled_all datagram))) (Control_fault (fault_of_cut datagram count))
cut_on User from datagram count = User_came (user_end from.user) (User_fault (user_cut_fault count))

-- the delivery is late: its last message is a request whose answer the receiver has given up
abbrev pub IsLateOn : Plane → Addresses → Side → List Message → Type 0
IsLateOn Control from side datagram = Among (come_from from (last_part datagram)) side.forgotten
IsLateOn User from side datagram = ⊥

-- the world where one more delivery was late: of this request, to that gateway
abbrev pub marked_late : World → Role → Arrival → World
marked_late w role request =
    record (with_side w role (record (side_of w role) { late_requests = request ∷ (side_of w role).late_requests })) { late = 1 + w.late }

-- A datagram comes to a gateway: the two messages of a pair that it takes, one after the other, and else the datagram as a whole.
abbrev pub ComesTo : World → Role → Addresses → List Message → World → Type 0
ComesTo old role from datagram new =
    Unless (TakesPair role (side_of old role).node.config (come_from from (spelled_all datagram)) (reading_of datagram))
    (Moves old role (delivered_on (datagram_plane datagram) from datagram) new) (λ pair.
    MovesTwice old role (first_came from (Create_session_response pair.answer)) (second_came from (Create_bearer_request pair.asked)) new)

-- A datagram comes to the gateway that did not send it; it stays in the list. A late delivery is counted.
abbrev pub Delivers : World → Role → List Message → World → Type 0
Delivers old sender datagram new =
    Unless (IsLateOn (datagram_plane datagram) (side_of old sender).node.config.own (side_of old (other sender)) datagram)
    (ComesTo old (other sender) (side_of old sender).node.config.own datagram new) (λ late.
    ComesTo (marked_late old (other sender) (come_from (side_of old sender).node.config.own (last_part datagram)))
    (other sender) (side_of old sender).node.config.own datagram new)

-- The first octets of a datagram come to the gateway that did not send it.
abbrev pub Cuts : World → SentDatagram → ℕ → World → Type 0
Cuts old sent count new = Moves old (other sent.role) (cut_on (datagram_plane sent.what) (side_of old sent.role).node.config.own sent.what count) new

-- the datagram with this number
pub record Stands (datagrams : List SentDatagram) (number : ℕ) : Type 0 where
  pub sent : SentDatagram
  pub is : slice_get datagrams number ≡ Some sent

-- the counter of the next start
abbrev pub next_counter : Side → ℕ
next_counter side = (side.first + (side.restarts + 1)) % 256

-- the same gateway, started afresh
abbrev pub restarted : Side → Side
restarted side = record side {
  node = fresh_node side.node.config (next_counter side);
  restarts = side.restarts + 1;
  seen = [];
  forgotten = [];
  late_requests = [];
  made = [];
}

-- One event. A datagram that is not there, a cut that is too long and a restart beyond 127 change nothing.
abbrev pub Happens : World → Event → World → Type 0
Happens old (Does role command) new = Moves old role (Commanded command) new
Happens old (Tick role) new = TicksOn old role new
Happens old (Deliver number) new =
    Unless (Stands old.datagrams number) (new ≡ noted old (quiet_note No_such_datagram)) (λ found.
    Delivers old found.sent.role found.sent.what new)
Happens old (Cut number count) new =
    Unless (Stands old.datagrams number) (new ≡ noted old (quiet_note No_such_datagram)) (λ found.
    Unless (count < length (spelled_all found.sent.what)) (new ≡ noted old (quiet_note Cut_too_long)) (λ short.
    Cuts old found.sent count new))
Happens old (Restart role) new =
    Unless ((side_of old role).restarts < 127) (new ≡ noted old (quiet_note Restarts_used)) (λ few.
    new ≡ with_steps (noted (with_side old role (restarted (side_of old role))) (quiet_note (Restarted (next_counter (side_of old role))))) role [])

-- The events take one world to the other.
abbrev pub Run : World → List Event → World → Type 0
Run old [] new = new ≡ old
Run old (event ∷ events) new = (mid : World) × Happens old event mid × Run mid events new

-- a gateway that has just started for the first time
abbrev pub begun : Config → ℕ → Side
begun config first =
    record { node = fresh_node config (first % 256); first = first; restarts = 0; seen = []; forgotten = []; late_requests = []; made = [] }

-- two gateways that have just started, so configured and with these counters
abbrev pub start : Config → Config → ℕ → ℕ → World
start serving packet serving_counter packet_counter = record {
  serving = begun serving serving_counter;
  packet = begun packet packet_counter;
  datagrams = [];
  history = [];
  handed = [];
  accepted = [];
  late = 0;
  notes = [];
  serving_steps = [];
  packet_steps = [];
}
