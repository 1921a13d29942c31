-- What an input or a tick leaves of one gateway.
use Rattle.std.specs.Prelude.{◌≡◌, ℕ, List, [], ◌∷◌, ◌++◌, map, Option, Some, None, option_map, option_to_list}
use Rattle.gtp_values.specs.declared.identifiers.Teid.{Teid}
use Rattle.gtp_machine.specs.Choice.{HasSession, HasBearer}
use Rattle.gtp_values.specs.declared.address.Endpoint.{Endpoint}
use Rattle.gtp_machine.specs.Message.{CreateSessionResponse, CreateBearerRequest, Plane, Control, User}
use Rattle.gtp_machine.specs.Input.{Command, Send_user, Input, Entry, entry_for, EventOutcome, Came_to, Out, Effect, nothing}
use Rattle.gtp_machine.specs.declared.role.Role.{Role}
use Rattle.gtp_machine.specs.Node.{Arrival, Node, written}
use Rattle.gtp_machine.specs.Spelling.{Datagram}
use Rattle.gtp_machine.specs.Step.{Step}
use Rattle.gtp_machine.specs.Tick.{Ticks}
use Rattle.gtp_machine.specs.World.{By, signed, outcome_in}
use Rattle.gtp_gateway.specs.receive.Queues.{QueuesAfterMessage}
use Rattle.gtp_gateway.specs.receive.TwoMessages.{second_arrival}
use Rattle.gtp_gateway.specs.receive.Received.{coming, first_comes, second_comes, ByPair}
use Rattle.gtp_gateway.specs.messages.Sent.{datagram_by}
use Rattle.gtp_gateway.specs.receive.Taken.{datagrams}
use Rattle.gtp_gateway.specs.GatewayState.{GatewayState}
use Rattle.gtp_gateway.specs.Tick.{due_in, arrivals_of, QueuesAfterTick}
use Rattle.gtp_gateway.specs.declared.tick.Ticked.{Ticked}
use Rattle.gtp_gateway.specs.user.Accepted.{Accepted}
use Rattle.gtp_gateway.specs.user.Receive.{AreEntries}
use Rattle.gtp_world.specs.Record.{GatewayRecord, entry_by}
use Rattle.gtp_world.specs.Stepped.{gateway_after, sent_at, AreReadable, TakesLowest, KeepsOn}
use Rattle.gtp_world.specs.declared.log.Entry.{Entry as LoggedEntry}
use Rattle.gtp_world.specs.declared.simulated_gateway.StepRecord.{StepRecord}
use Rattle.gtp_gateway.specs.Parts.{arrival_of}

-- the entry that is logged, if there is one
abbrev pub entries : Option LoggedEntry → List (By Entry)
entries entry = option_to_list (option_map entry_by entry)

-- what came of an input tells what its effect has, and nothing of a second message
pub record TellsCame (role : Role) (old : GatewayRecord) (came : StepRecord) (e : Effect) : Type 0 where
  pub sent : datagrams came.out ≡ sent_at old e.out
  pub outcome : Came_to came.outcome ≡ e.outcome
  pub alone : came.second ≡ None
  pub learned : option_map (λ c. c.0) came.restart ≡ e.out.learned
  pub handed : option_to_list came.handed ≡ signed role e.out.handed
  pub accepted : entries came.accepted ≡ signed role e.out.accepted
  pub gave_up : e.out.gave_up ≡ []
  pub forgot : e.out.forgot ≡ []

-- The gateway took an input, of what is free it took the lowest, and what its ticks go by is as this says.
pub record IsInput (role : Role) (input : Input) (Timed : List Datagram → EventOutcome → GatewayState → GatewayState → Type 0) (old : GatewayRecord) (came : StepRecord) (new : GatewayRecord) : Type 0 where
  pub effect : Effect
  pub step : Step old.state.role old.state.node input effect
  pub readable : AreReadable effect.out
  pub node : new.state.node ≡ effect.node
  pub role_stays : new.state.role ≡ old.state.role
  pub lowest : TakesLowest new.state.role effect.out old.state.node new.state.node
  pub timed : Timed (sent_at old effect.out) effect.outcome old.state new.state
  pub becomes : new ≡ gateway_after old new.state effect.out
  pub tells : TellsCame role old came effect

-- what came of two messages of one datagram tells what their effects have
pub record TellsCameBoth (role : Role) (old : GatewayRecord) (came : StepRecord) (first second : Effect) : Type 0 where
  pub sent : datagrams came.out ≡ sent_at old first.out ++ sent_at old second.out
  pub outcome : Came_to came.outcome ≡ first.outcome
  pub next : came.second ≡ outcome_in second.outcome
  pub learned : option_map (λ c. c.0) came.restart ≡ first.out.learned
  pub handed : option_to_list came.handed ≡ signed role first.out.handed ++ signed role second.out.handed
  pub accepted : entries came.accepted ≡ signed role first.out.accepted ++ signed role second.out.accepted
  pub gave_up : first.out.gave_up ≡ []
  pub forgot : first.out.forgot ≡ []

-- The gateway took the two messages of a datagram, one after the other. Nothing was sent for the first; of what is free it took the lowest; and what its ticks go
-- by is as after a datagram, but an answer is held by the octets of the second message.
pub record AreInputs (role : Role) (arrival : Arrival) (answer : CreateSessionResponse) (asked : CreateBearerRequest) (old : GatewayRecord) (came : StepRecord) (new : GatewayRecord) : Type 0 where
  pub first : Effect
  pub step : Step old.state.role old.state.node (first_comes arrival answer) first
  pub silent : first.out.sent ≡ []
  pub second : Effect
  pub follows : Step old.state.role first.node (second_comes arrival asked) second
  pub readable : AreReadable second.out
  pub node : new.state.node ≡ second.node
  pub role_stays : new.state.role ≡ old.state.role
  pub lowest : TakesLowest new.state.role second.out old.state.node new.state.node
  pub timed : QueuesAfterMessage (second_arrival arrival) old.state new.state
  pub becomes : new ≡ gateway_after (gateway_after old new.state first.out) new.state second.out
  pub tells : TellsCameBoth role old came first second

-- The gateway took a datagram of a plane: of the control plane a pair that it takes message by message, and any other as a whole.
abbrev pub IsBrought : Role → Plane → Endpoint → List ℕ → GatewayRecord → StepRecord → GatewayRecord → Type 0
IsBrought role Control source octets old came new =
    ByPair (arrival_of source octets) old.state
    (IsInput role (coming Control source octets) (KeepsOn Control source octets) old came new)
    (λ answer asked. AreInputs role (arrival_of source octets) answer asked old came new)
IsBrought role User source octets old came new = IsInput role (coming User source octets) (KeepsOn User source octets) old came new

-- The gateway ticked.
pub record IsTick (old : GatewayRecord) (ticked : Ticked) (new : GatewayRecord) : Type 0 where
  pub out : Out
  pub ticks : Ticks old.state.node (due_in old.state.queues) out new.state.node
  pub readable : AreReadable out
  pub role_stays : new.state.role ≡ old.state.role
  pub counts : QueuesAfterTick old.state new.state
  pub becomes : new ≡ gateway_after old new.state out
  pub sent : map datagram_by ticked.resent.items ≡ sent_at old out
  pub gave_up : ticked.gave_up.items ≡ out.gave_up
  pub forgot : arrivals_of ticked.forgotten.items ≡ out.forgot
  pub all : out ≡ record nothing { sent = out.sent; gave_up = out.gave_up; forgot = out.forgot }

-- the TEID that a packet names: this one, or else the bearer's remote
abbrev pub named_or : Option Teid → Option ℕ → ℕ
named_or None remote = written remote
named_or (Some teid) remote = teid

-- the entry of a packet on a bearer, where that and its session stand
abbrev pub IsEntryAt : Role → Node → ℕ → Option Teid → List ℕ → Option (By Entry) → Type 0
IsEntryAt role node bearer names payload packet =
    (at : HasBearer node bearer) (of : HasSession node at.bearer.session)
    → option_to_list packet ≡ record {
      role = role;
      what = entry_for (named_or names at.bearer.remote) payload of.session.subscriber at.bearer.identity;
    } ∷ []

-- the entry of a packet that is handed in, where its bearer and that bearer's session stand; no other command has one
abbrev pub IsHanded : Role → Node → Command → Option (By Entry) → Type 0
IsHanded role node (Send_user bearer payload) handed = IsEntryAt role node bearer None payload handed
IsHanded role node command handed = handed ≡ None

-- the entry of a packet that was accepted, if one was
abbrev pub IsAccepted : Role → Node → Option Accepted → Option LoggedEntry → Type 0
IsAccepted role node accepted entry = (list : List Entry) → AreEntries node accepted list → entries entry ≡ signed role list
