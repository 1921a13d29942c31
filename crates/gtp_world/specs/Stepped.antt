-- What an event leaves.
use Rattle.std.specs.Prelude.{◌≡◌, ◌≢◌, ◌↔◌, IsTrue, Option, ℕ, ◌+◌, ◌%◌, ◌<◌, Bool, true, false, List, [], ◌∷◌, ◌++◌, map, length, take, All, slice_get, Some, None, option_to_list}
use Rattle.gtp_values.specs.FiniteMap.{Among}
use Rattle.gtp_values.specs.declared.address.Endpoint.{Endpoint}
use Rattle.gtp_reliable.specs.Pending.{IsNextFree}
use Rattle.gtp_machine.specs.Input.{Input, Commanded, Out, Effect, nothing}
use Rattle.gtp_machine.specs.Message.{CreateSessionResponse, CreateBearerRequest, Plane, Control, User}
use Rattle.gtp_machine.specs.Node.{Arrival, Node}
use Rattle.gtp_machine.specs.declared.outcome.Outcome.TheVariants.{Begun, Broken}
use Rattle.gtp_machine.specs.declared.role.Role.{Role}
use Rattle.gtp_machine.specs.Ordered.{Unless}
use Rattle.gtp_machine.specs.Spelling.{Datagram, datagram_of}
use Rattle.gtp_machine.specs.Step.{Step}
use Rattle.gtp_machine.specs.Tick.{Ticks}
use Rattle.gtp_machine.specs.World.{By, EventOutcome, Came_to, Ticked, Restarted, No_such_datagram, Restarts_used, Cut_too_long, Event, Does, Tick, Deliver, Cut, Restart, other, signed, outcome_in}
use Rattle.gtp_gateway.specs.declared.command.purpose.Purpose.{Purpose}
use Rattle.gtp_gateway.specs.command.SendRequest.{after_begun}
use Rattle.gtp_gateway.specs.receive.Choosing.{MakesLowest}
use Rattle.gtp_gateway.specs.receive.Queues.{QueuesAfterMessage}
use Rattle.gtp_gateway.specs.receive.TwoMessages.{second_arrival}
use Rattle.gtp_gateway.specs.Parts.{arrival_of}
use Rattle.gtp_gateway.specs.receive.Received.{coming, first_comes, second_comes, ByPair}
use Rattle.gtp_gateway.specs.messages.Sent.{SendingReads}
use Rattle.gtp_gateway.specs.Settings.{Settings}
use Rattle.gtp_gateway.specs.GatewayState.{GatewayState, starting, NodeMatchesQueues}
use Rattle.gtp_gateway.specs.Tick.{due_in, QueuesAfterTick}
use Rattle.gtp_gateway.specs.user.Receive.{RequestsWaitOn}
use Rattle.gtp_world.specs.Record.{oldest_first, GatewayRecord, EventRecord, Log, WorldRecord, gateway_in, with_gateway, counted}
use Rattle.gtp_world.specs.Last.{last_octets}

-- what is kept of a gateway, after a step that tells this
abbrev pub gateway_after : GatewayRecord → GatewayState → Out → GatewayRecord
gateway_after h state out = record h { state = state; seen = h.seen ++ option_to_list out.heard; forgotten = h.forgotten ++ out.forgot; made = h.made ++ oldest_first out.made }

-- what is told of an event that sends these datagrams
abbrev pub told_of : EventOutcome → Out → List Datagram → EventRecord
told_of outcome out datagrams = record { outcome = outcome; second = None; learned = out.learned; sent = length datagrams; gave_up = out.gave_up; forgot = out.forgot }

-- what is told of two messages of one delivery: of the first, with the outcome of the second beside it, and how many datagrams both sent
abbrev pub told_of_both : Effect → Effect → List Datagram → EventRecord
told_of_both first second datagrams = record (told_of first.outcome first.out datagrams) { second = outcome_in second.outcome }

-- the log, with what a step of that gateway sends, hands in and accepts
abbrev pub log_moved : Log → Role → Out → List Datagram → Log
log_moved log role out datagrams =
    record log {
      datagrams = log.datagrams ++ signed role datagrams;
      handed = log.handed ++ signed role out.handed;
      accepted = log.accepted ++ signed role out.accepted;
    }

-- the log, with what is told of an event, and one more late delivery if it was one
abbrev pub log_told : Log → EventRecord → Bool → Log
log_told log told late = record log { late = counted late log.late; notes = log.notes ++ (told ∷ []) }

-- the log, after a step of that gateway
abbrev pub log_after : Log → Role → Out → List Datagram → EventOutcome → Bool → Log
log_after log role out datagrams outcome late = log_told (log_moved log role out datagrams) (told_of outcome out datagrams) late

-- the log, after a step of that gateway for each of two messages
abbrev pub log_after_both : Log → Role → Effect → Effect → List Datagram → List Datagram → Bool → Log
log_after_both log role first second sent more late = log_told (log_moved (log_moved log role first.out sent) role second.out more) (told_of_both first second (sent ++ more)) late

-- all that is kept, after a step of that gateway
abbrev pub kept_after : WorldRecord → Role → GatewayState → Out → List Datagram → EventOutcome → Bool → WorldRecord
kept_after v role state out datagrams outcome late = record (with_gateway v role (gateway_after (gateway_in v role) state out)) { log = log_after v.log role out datagrams outcome late }

-- all that is kept, after a step of that gateway for each of two messages
abbrev pub kept_after_both : WorldRecord → Role → GatewayState → Effect → Effect → List Datagram → List Datagram → Bool → WorldRecord
kept_after_both v role state first second sent more late =
    record (with_gateway v role (gateway_after (gateway_after (gateway_in v role) state first.out) state second.out)) { log = log_after_both v.log role first second sent more late }

-- what a gateway sends at this step, as it is sent
abbrev pub sent_at : GatewayRecord → Out → List Datagram
sent_at gateway out = map (datagram_of gateway.state.node.config) out.sent

-- each datagram that is sent reads as its messages
abbrev pub AreReadable : Out → Type 0
AreReadable out = All SendingReads out.sent

-- a request that was sent waits from now on, under the next free number; and what ticks and draws go by is what the node keeps
pub record WaitsFor (old : GatewayState) (d : Datagram) (new : GatewayState) : Type 0 where
  pub number : ℕ
  pub free : IsNextFree old.queues.next old.queues.waiting number
  pub purpose : Purpose
  pub queues : new.queues ≡ after_begun number purpose d.to d.octets old.queues
  pub tied : NodeMatchesQueues new

-- what ticks go by, after a command: a request that was begun waits from now on; where none was, nothing changes
pub record AsksFor (sent : List Datagram) (outcome : EventOutcome) (old new : GatewayState) : Type 0 where
  pub asks : (teid : Option ℕ) → outcome ≡ Came_to (Begun teid) → (d : Datagram) × (sent ≡ d ∷ []) × WaitsFor old d new
  pub none : ((teid : Option ℕ) → outcome ≢ Came_to (Begun teid)) → new.queues ≡ old.queues

-- what ticks go by, after a datagram of that plane: the requests that are still pending wait on; after one of the control plane one more may wait, and an answer
-- that was given is held from now on; one of the user plane changes nothing, but where bearers go that the peer does not know; and it is what the node keeps
abbrev pub KeepsOn : Plane → Endpoint → List ℕ → List Datagram → EventOutcome → GatewayState → GatewayState → Type 0
KeepsOn Control source octets sent outcome old new = QueuesAfterMessage (arrival_of source octets) old new
KeepsOn User source octets sent outcome old new = (outcome ≢ Came_to Broken → new.queues ≡ old.queues) × RequestsWaitOn old new × NodeMatchesQueues new

-- what is made on a request has the lowest address or identity that is free
abbrev pub TakesLowest : Role → Out → Node → Node → Type 0
TakesLowest role out old new = out.made ≢ [] → MakesLowest role old new

-- A gateway takes an input, by the rules of the machine, and of what is free it takes the lowest; and what its ticks go by is as this says.
pub record StepsOn (old : WorldRecord) (role : Role) (input : Input) (Timed : List Datagram → EventOutcome → GatewayState → GatewayState → Type 0) (late : Bool) (new : WorldRecord) : Type 0 where
  pub effect : Effect
  pub step : Step (gateway_in old role).state.role (gateway_in old role).state.node input effect
  pub readable : AreReadable effect.out
  pub state : GatewayState
  pub node : state.node ≡ effect.node
  pub role_stays : state.role ≡ (gateway_in old role).state.role
  pub lowest : TakesLowest state.role effect.out (gateway_in old role).state.node state.node
  pub timed : Timed (sent_at (gateway_in old role) effect.out) effect.outcome (gateway_in old role).state state
  pub becomes : new ≡ kept_after old role state effect.out (sent_at (gateway_in old role) effect.out) effect.outcome late

-- A gateway takes the two messages of a datagram, one after the other, by the rules of the machine. Nothing is sent for the first; of what is free it takes the
-- lowest; and what its ticks go by is as after a datagram, but an answer is held by the octets of the second message.
pub record TakesBoth (old : WorldRecord) (role : Role) (arrival : Arrival) (answer : CreateSessionResponse) (asked : CreateBearerRequest) (late : Bool) (new : WorldRecord) : Type 0 where
  pub first : Effect
  pub step : Step (gateway_in old role).state.role (gateway_in old role).state.node (first_comes arrival answer) first
  pub silent : first.out.sent ≡ []
  pub second : Effect
  pub follows : Step (gateway_in old role).state.role first.node (second_comes arrival asked) second
  pub readable : AreReadable second.out
  pub state : GatewayState
  pub node : state.node ≡ second.node
  pub role_stays : state.role ≡ (gateway_in old role).state.role
  pub lowest : TakesLowest state.role second.out (gateway_in old role).state.node state.node
  pub timed : QueuesAfterMessage (second_arrival arrival) (gateway_in old role).state state
  pub becomes : new ≡ kept_after_both old role state first second (sent_at (gateway_in old role) first.out) (sent_at (gateway_in old role) second.out) late

-- A gateway takes a datagram of a plane: of the control plane a pair that it takes message by message, and any other as a whole.
abbrev pub TakesOn : WorldRecord → Role → Plane → Endpoint → List ℕ → Bool → WorldRecord → Type 0
TakesOn old role Control source octets late new =
    ByPair (arrival_of source octets) (gateway_in old role).state
    (StepsOn old role (coming Control source octets) (KeepsOn Control source octets) late new)
    (λ answer asked. TakesBoth old role (arrival_of source octets) answer asked late new)
TakesOn old role User source octets late new = StepsOn old role (coming User source octets) (KeepsOn User source octets) late new

-- The octets of a datagram come to the gateway that did not send it.
abbrev pub Brings : WorldRecord → By Datagram → List ℕ → Bool → WorldRecord → Type 0
Brings old sent octets late new = TakesOn old (other sent.role) sent.what.plane sent.what.from octets late new

-- A gateway ticks: what is due by its counts of ticks is done, and what waits has waited one tick more.
pub record TicksBy (old : WorldRecord) (role : Role) (new : WorldRecord) : Type 0 where
  pub out : Out
  pub state : GatewayState
  pub ticks : Ticks (gateway_in old role).state.node (due_in (gateway_in old role).state.queues) out state.node
  pub readable : AreReadable out
  pub role_stays : state.role ≡ (gateway_in old role).state.role
  pub counts : QueuesAfterTick (gateway_in old role).state state
  pub becomes : new ≡ kept_after old role state out (sent_at (gateway_in old role) out) Ticked false

-- the log, where this is told, and nothing else
abbrev pub log_with : Log → EventOutcome → Log
log_with log outcome = record log { notes = log.notes ++ (told_of outcome nothing [] ∷ []) }

-- nothing changes, and that is told
abbrev pub passed_over : WorldRecord → EventOutcome → WorldRecord
passed_over v outcome = record v { log = log_with v.log outcome }

-- the datagram with this number
pub record IsThere (datagrams : List (By Datagram)) (number : ℕ) : Type 0 where
  pub sent : By Datagram
  pub is : slice_get datagrams number ≡ Some sent

-- the request is one whose answer the gateway has given up
abbrev pub IsGivenUp : GatewayRecord → Plane → Arrival → Type 0
IsGivenUp gateway plane request = (plane ≡ Control) × Among request gateway.forgotten

-- the delivery is late: its last message is such a request
abbrev pub IsLate : GatewayRecord → Datagram → Type 0
IsLate gateway d = IsGivenUp gateway d.plane (arrival_of d.from (last_octets d.octets))

-- So many of its first octets come to the gateway that did not send it; late, if all of them do and the delivery is.
pub record BringsFirst (old : WorldRecord) (sent : By Datagram) (count : ℕ) (whole : Bool) (new : WorldRecord) : Type 0 where
  pub late : Bool
  pub is : IsTrue late ↔ IsTrue whole × IsGivenUp (gateway_in old (other sent.role)) sent.what.plane (arrival_of sent.what.from (last_octets (take count sent.what.octets)))
  pub brings : Brings old sent (take count sent.what.octets) late new

-- the counter of the next start
abbrev pub counter_after : GatewayRecord → ℕ
counter_after h = (h.first + (h.restarts + 1)) % 256

-- a gateway that has just started for the first time
abbrev pub gateway_begun : Role → Settings → ℕ → GatewayRecord
gateway_begun role settings counter = record { settings = settings; state = starting role settings counter; first = counter; restarts = 0; seen = []; forgotten = []; made = [] }

-- the same gateway, started afresh
abbrev pub gateway_restarted : Role → GatewayRecord → GatewayRecord
gateway_restarted role h = record h { state = starting role h.settings (counter_after h); restarts = h.restarts + 1; seen = []; forgotten = []; made = [] }

-- What comes of an event.
abbrev pub EventLeaves : WorldRecord → Event → WorldRecord → Type 0
EventLeaves old (Does role command) new = StepsOn old role (Commanded command) AsksFor false new
EventLeaves old (Tick role) new = TicksBy old role new
EventLeaves old (Deliver number) new =
    Unless (IsThere old.log.datagrams number) (new ≡ passed_over old No_such_datagram) (λ found.
    Unless (IsLate (gateway_in old (other found.sent.role)) found.sent.what) (Brings old found.sent found.sent.what.octets false new) (λ late.
    Brings old found.sent found.sent.what.octets true new))
EventLeaves old (Cut number count) new =
    Unless (IsThere old.log.datagrams number) (new ≡ passed_over old No_such_datagram) (λ found.
    Unless (count < length found.sent.what.octets) (new ≡ passed_over old Cut_too_long) (λ short.
    Brings old found.sent (take count found.sent.what.octets) false new))
EventLeaves old (Restart role) new =
    Unless ((gateway_in old role).restarts < 127) (new ≡ passed_over old Restarts_used) (λ few.
    new ≡ record (with_gateway old role (gateway_restarted role (gateway_in old role))) { log = log_with old.log (Restarted (counter_after (gateway_in old role))) })

-- The events come to what they come to, one after the other.
abbrev pub EventsLeave : WorldRecord → List Event → WorldRecord → Type 0
EventsLeave old [] new = new ≡ old
EventsLeave old (event ∷ events) new = (mid : WorldRecord) × EventLeaves old event mid × EventsLeave mid events new
