-- What a tick does at a gateway (TS 29.274 7.6).
use Rattle.std.specs.Prelude.{◌≡◌, ℕ, ◌+◌, ◌<◌, Bool, true, false, List, [], ◌∷◌, map, filter, All}
use Rattle.std.specs.List.{filter_map}
use Rattle.gtp_reliable.specs.Waiting.{Waiting, Message, after_tick, sent_again, given_up}
use Rattle.gtp_reliable.specs.Held.{HeldPair, Question, forgotten}
use Rattle.gtp_reliable.specs.Held as held
use Rattle.gtp_reliable.specs.Forgotten.{question_of}
use Rattle.gtp_reliable.specs.declared.held.Request.{Request}
use Rattle.gtp_machine.specs.Choice.{HasPending}
use Rattle.gtp_machine.specs.Config.{Config, control_end}
use Rattle.gtp_machine.specs.Input.{Out, nothing}
use Rattle.gtp_machine.specs.Message.{Control}
use Rattle.gtp_machine.specs.Node.{Arrival, Node}
use Rattle.gtp_machine.specs.Ordered.{Unless}
use Rattle.gtp_machine.specs.Removal.{finished}
use Rattle.gtp_machine.specs.Spelling.{Datagram}
use Rattle.gtp_machine.specs.Tick.{Due, Ticks}
use Rattle.gtp_gateway.specs.declared.command.purpose.Purpose.{Purpose}
use Rattle.gtp_gateway.specs.declared.tick.Ticked.{Ticked}
use Rattle.gtp_gateway.specs.Parts.{arrival_of}
use Rattle.gtp_gateway.specs.messages.Sent.{datagram_by, AreSent}
use Rattle.gtp_gateway.specs.GatewayState.{Queues, GatewayState, NodeMatchesQueues}

-- the request of an answer that is held, from where it came
abbrev pub asked_by : Question → Arrival
asked_by q = arrival_of q.source q.octets

-- requests whose answers are forgotten, each from where it came
abbrev pub arrivals_of : List Request → List Arrival
arrivals_of requests = map asked_by (map question_of requests)

-- what is due: requests are sent again or given up in order of beginning, and answers are forgotten in order of keeping
abbrev pub due_in : Queues → Due
due_in t =
    record {
      resends = map (λ (m : Message). m.seq) (filter_map (sent_again t.timers.t3 t.timers.n3) t.waiting);
      give_ups = map (λ (g : ℕ × Purpose). g.0) (filter_map (given_up t.timers.t3 t.timers.n3) t.waiting);
      forgets = map asked_by (filter_map (forgotten t.timers.hold) t.held);
    }

-- no answer is due to be forgotten
abbrev pub ForgetsNone : Queues → Type 0
ForgetsNone t = All (λ (p : HeldPair). p.age + 1 < t.timers.hold) t.held

-- nothing is due
pub record IsIdle (t : Queues) : Type 0 where
  pub requests : All (λ (w : Waiting Purpose). w.waited + 1 < t.timers.t3) t.waiting
  pub answers : ForgetsNone t

-- a request as it is sent again
abbrev pub datagram_again : Config → Message → Datagram
datagram_again config m = record { plane = Control; from = control_end config.own.control; to = m.to; octets = m.octets }

-- a request that still waits is given up; one that waits no more is not, and nothing changes
abbrev pub GivesUpOne : Node → ℕ → Bool → Node → Type 0
GivesUpOne old number true new = (at : HasPending old number) × (new ≡ finished old number at.pending)
GivesUpOne old number false new = (HasPending old number → ⊥) × (new ≡ old)

-- each of these requests in turn that still waits is given up, and these numbers are told
abbrev pub GivesUpEach : Node → List ℕ → List ℕ → Node → Type 0
GivesUpEach old [] told new = (told ≡ []) × (new ≡ old)
GivesUpEach old (number ∷ numbers) told new =
    Unless (HasPending old number) (GivesUpEach old numbers told new) (λ at.
    (others : List ℕ) × GivesUpEach (finished old number at.pending) numbers others new × (told ≡ number ∷ others))

-- the tick tells what the machine's moves give: what is sent again, what is given up and what is forgotten; they have nothing else to tell
pub record TellsTick (config : Config) (ticked : Ticked) (out : Out) : Type 0 where
  pub sent : AreSent config (map datagram_by ticked.resent.items) out.sent
  pub gave_up : ticked.gave_up.items ≡ out.gave_up
  pub forgot : arrivals_of ticked.forgotten.items ≡ out.forgot
  pub all : out ≡ record nothing { sent = out.sent; gave_up = out.gave_up; forgot = out.forgot }

-- a tick has passed: the machine's tick, where that is due which the counts of ticks say
pub record IsTicked (old : GatewayState) (ticked : Ticked) (new : GatewayState) : Type 0 where
  pub out : Out
  pub ticks : Ticks old.node (due_in old.queues) out new.node
  pub tells : TellsTick old.node.config ticked out
  pub role : new.role ≡ old.role

-- what waits or is held, one tick later
abbrev pub tick_later : Queues → Queues
tick_later t =
    record t {
      waiting = filter_map (after_tick t.timers.t3 t.timers.n3) t.waiting;
      held = filter_map (held.after_tick t.timers.hold) t.held;
    }

-- the requests that are still pending, and the answers that are still held, have waited one tick more; nothing else changes of what ticks go by;
-- and it is what the node keeps
pub record QueuesAfterTick (old new : GatewayState) : Type 0 where
  pub stays : Waiting Purpose → Bool
  pub queues : new.queues ≡ tick_later (record old.queues { waiting = filter stays old.queues.waiting })
  pub tied : NodeMatchesQueues new
