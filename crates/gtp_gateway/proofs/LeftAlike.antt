-- What ticks go by, where the same node is left.
use Rattle.std.proofs.Common.{◌≡◌, ℕ, List, refl, sym, ◌∙◌}
use mathlib.Core.Logic.{∥∥₁_elim}
use Rattle.gtp_values.specs.FiniteMap.{FiniteMap}
use Rattle.gtp_values.specs.declared.address.Endpoint.{Endpoint}
use Rattle.gtp_reliable.specs.Pending.{AreDistinct}
use Rattle.gtp_machine.specs.Node.{Arrival, PendingRequest}
use Rattle.gtp_machine.proofs.Determined.Alike.{WaitsBeside}
use Rattle.gtp_machine.proofs.Determined.Steps.{drawn_before}
use Rattle.gtp_gateway.specs.Determined.{AreLeftAlike, WaitsNext}
use Rattle.gtp_gateway.specs.receive.Queues.{QueuesAfterMessage}
use Rattle.gtp_gateway.specs.Parts.{arrival_of}
use Rattle.gtp_machine.specs.Message.{Plane, Control, User}
use Rattle.gtp_machine.specs.Input.{Command, Mark_end, Send_user}
use Rattle.gtp_gateway.specs.declared.sent.Begun.{Begun}
use Rattle.gtp_gateway.specs.declared.step.Step.{Step}
use Rattle.gtp_gateway.specs.command.Command.{SendsRequestNext}
use Rattle.gtp_gateway.specs.receive.Received.{QueuesAfterReceive}
use Rattle.gtp_gateway.specs.messages.Sent.{datagram_by}
use Rattle.gtp_gateway.specs.GatewayState.{GatewayState, NodeMatchesQueues, IsSoundState}
use Rattle.gtp_gateway.specs.Tick.{QueuesAfterTick}
use Rattle.gtp_gateway.proofs.QueuesAfter.{on_goes}
use Rattle.gtp_gateway.specs.command.SendRequest.{after_begun}
use Rattle.gtp_gateway.proofs.Left.{BringDrawn, number_begun as begun_alike, left_begun, left_goes as left_goes_alike, left_stays as left_stays_alike, left_ticked as left_ticked_alike}

-- a gateway is left as it is
itself : (old : GatewayState) → AreLeftAlike old old
itself old = record { role = refl; node = refl; timers = refl; next = refl; waiting = refl; held = refl }

-- ---- after a datagram

-- the requests for a new bearer that were begun with it have one number
module _ (old : GatewayState) (whole : IsSoundState old) (tied : NodeMatchesQueues old) (apart : AreDistinct old.queues.waiting) where
  brings : BringDrawn old.node
  brings n p r stands asked undrawn = ∥∥₁_elim whole (hlevel) (λ sound. undrawn (drawn_before old.role old.node sound n p r stands asked))

  pub number_begun : (arrival : Arrival) (new left : GatewayState) (others : FiniteMap PendingRequest) (m n : ℕ) (p q : PendingRequest)
      → QueuesAfterMessage arrival old new → QueuesAfterMessage arrival old left → WaitsBeside old.node.drawn new.node.pending others m p
      → WaitsBeside old.node.drawn left.node.pending others n q → m ≡ n
  number_begun arrival new left others m n p q goes also waits too = begun_alike old old new left (itself old) apart apart arrival goes also brings tied tied others m n p q waits too

module _ (arrival : Arrival) (old new left : GatewayState) (apart : AreDistinct old.queues.waiting) (role : new.role ≡ left.role)
    (node : new.node ≡ left.node) (m : QueuesAfterMessage arrival old new) (n : QueuesAfterMessage arrival old left) where
  pub left_goes : AreLeftAlike new left
  left_goes = left_goes_alike old old new left (itself old) role node apart apart arrival m n

-- what ticks go by after a datagram that was received as a whole
abbrev pub KeepsOnce : Plane → Endpoint → List ℕ → Step → GatewayState → GatewayState → Type 0
KeepsOnce Control source octets step old new = QueuesAfterMessage (arrival_of source octets) old new
KeepsOnce User source octets step old new = QueuesAfterReceive User source octets step old new

pub left_by : (plane : Plane) (source : Endpoint) (octets : List ℕ) (step other : Step) (old new left : GatewayState) → AreDistinct old.queues.waiting
    → new.role ≡ left.role → new.node ≡ left.node → KeepsOnce plane source octets step old new → KeepsOnce plane source octets other old left
    → AreLeftAlike new left
left_by Control source octets step other old new left apart role node m n = left_goes (arrival_of source octets) old new left apart role node m n
left_by User source octets step other old new left apart role node m n =
    left_goes (arrival_of source octets) old new left apart role node (on_goes (arrival_of source octets) old new m.1 m.2)
    (on_goes (arrival_of source octets) old left n.1 n.2)

-- ---- after a command

left_stays : (old new left : GatewayState) → new.role ≡ left.role → new.node ≡ left.node → new.queues ≡ old.queues → left.queues ≡ old.queues → AreLeftAlike new left
left_stays old new left role node m n = left_stays_alike old old new left (itself old) role node m n

left_asked : (old : GatewayState) (begun other : Begun) (new left : GatewayState) → new.role ≡ left.role → new.node ≡ left.node
    → datagram_by begun.out ≡ datagram_by other.out → SendsRequestNext old begun new → SendsRequestNext old other left → AreLeftAlike new left
left_asked old begun other new left role node sent m n =
    left_begun old old new left (itself old) role node (datagram_by begun.out) m.number n.number m.purpose n.purpose m.free n.free m.queues
    (n.queues ∙ (λ i. after_begun n.number n.purpose (sym sent i).to (sym sent i).octets old.queues))

pub one_left : (command : Command) (old : GatewayState) (begun other : Begun) (new left : GatewayState) → new.role ≡ left.role → new.node ≡ left.node
    → datagram_by begun.out ≡ datagram_by other.out → WaitsNext command old begun new → WaitsNext command old other left → AreLeftAlike new left
one_left (Mark_end bearer) old begun other new left role node sent m n = left_stays old new left role node m.1 n.1
one_left (Send_user bearer payload) old begun other new left role node sent m n = left_stays old new left role node m.1 n.1
one_left command old begun other new left role node sent m n = left_asked old begun other new left role node sent m n

-- ---- after a tick

pub left_ticked : (old new left : GatewayState) → AreDistinct old.queues.waiting → new.role ≡ left.role → new.node ≡ left.node → QueuesAfterTick old new
    → QueuesAfterTick old left → AreLeftAlike new left
left_ticked old new left apart role node m n = left_ticked_alike old old new left (itself old) role node apart apart m n
