-- What a command and a tick come to is determined.
use Rattle.std.proofs.Common.{◌≡◌, ⊎_elim, ℕ, [], ◌∷◌, map, Option, Some, None, refl, sym, ◌∙◌, ap}
use Rattle.std.specs.FinMap.{get, insert}
use Rattle.gtp_values.specs.FiniteMap.{FiniteMap}
use Rattle.gtp_values.specs.declared.identifiers.Teid.{Teid}
use Rattle.gtp_reliable.specs.Pending.{AreDistinct}
use Rattle.gtp_reliable.specs.Waiting.{Waiting, just_sent}
use Rattle.gtp_machine.specs.Node.{PendingRequest, Arrival, Node}
use Rattle.gtp_machine.specs.Input.{Command, Commanded, Mark_end, Send_user, Control_came, ControlReading, Out, Effect}
use Rattle.gtp_machine.specs.Choice.{HasPending}
use Rattle.gtp_machine.specs.Spelling.{datagram_of}
use Rattle.gtp_machine.specs.declared.outcome.Outcome.{Outcome}
use Rattle.gtp_machine.specs.declared.outcome.Outcome.TheVariants as outcomes
use Rattle.gtp_machine.specs.Determined.{OneAnswerPerRequest}
use Rattle.gtp_machine.proofs.Basics.FiniteMaps.{found-insert, get-insert_same}
use Rattle.gtp_machine.proofs.Determined.Commands.{packet_sent, end_marked}
use Rattle.gtp_machine.proofs.Determined.Steps.{step_done}
use Rattle.gtp_machine.proofs.Determined.Ticks.{one_tick}
use Rattle.gtp_gateway.specs.declared.command.purpose.Purpose.{Purpose}
use Rattle.gtp_gateway.specs.declared.sent.Begun.{Begun}
use Rattle.gtp_gateway.specs.command.Command.{outcome_by, IsCarriedOut, SendsRequestNext}
use Rattle.gtp_gateway.specs.Determined.{WaitsNext, MeetsCommand, BeginsOne, TicksOne}
use Rattle.gtp_gateway.specs.Parts.{pending_of, pending_in}
use Rattle.gtp_gateway.specs.messages.Sent.{datagram_by}
use Rattle.gtp_gateway.specs.GatewayState.{Queues, GatewayState, NodeMatchesQueues, IsSoundState}
use Rattle.gtp_gateway.specs.Tick.{due_in}
use Rattle.gtp_gateway.proofs.ChosenOnce.{one_drawn, one_next}
use Rattle.gtp_gateway.proofs.LeftAlike.{one_left, left_ticked}
use Rattle.gtp_gateway.proofs.Requests.{pending_push}
use Rattle.gtp_gateway.proofs.Determined.Told.{same_outcome, whole_fits}
use Rattle.gtp_gateway.proofs.Determined.Datagram.{tied_draws}

-- ---- a command

-- the request that was begun waits beside the others
begun_waits : (old : GatewayState) (begun : Begun) (new : GatewayState) → NodeMatchesQueues old → (next : SendsRequestNext old begun new)
    → (p : PendingRequest) × (new.node.pending ≡ insert old.node.pending next.number p)
begun_waits old begun new tied next =
    let w : Waiting Purpose = just_sent next.number begun.out.to begun.out.octets.items next.purpose in (
      (pending_of w).1,
      next.tied.pending
          ∙ (ap (λ (t : Queues). pending_in t.waiting) next.queues ∙ (pending_push old.queues.waiting w (pending_of w).1 next.free.free refl
          ∙ ap (λ (k : FiniteMap PendingRequest). insert k next.number (pending_of w).1) (sym tied.pending))),
    )

waits_too : (old one other : Node) (m n : ℕ) (p q : PendingRequest) → one.pending ≡ insert old.pending m p → other.pending ≡ insert old.pending n q → m ≡ n
    → (number : ℕ) → get old.pending number ≡ None → HasPending one number → HasPending other number
waits_too old one other m n p q is_one is_other same number free waits = ⊎_elim
    (λ here. record {
      pending = q;
      waits = ap (λ (k : FiniteMap PendingRequest). get k number) is_other
          ∙ (ap (λ k. get (insert old.pending n q) k) (here.0 ∙ same) ∙ get-insert_same old.pending n q);
    })
    (λ there. absurd (never waits.pending there.1))
    (found-insert old.pending m p number waits.pending (ap (λ (k : FiniteMap PendingRequest). get k number) (sym is_one) ∙ waits.waits))
  where
    never : (x : PendingRequest) → get old.pending number ≡ Some x → ⊥
    never x e = cc

same_begun : (a b : Option Teid) → ◌≡◌ {A = Outcome} (outcomes.Begun a) (outcomes.Begun b) → a ≡ b
same_begun a b e = cc

one_teid : (command : Command) (old : GatewayState) (begun other : Begun) (new left : GatewayState) → WaitsNext command old begun new
    → WaitsNext command old other left → outcome_by command begun.teid ≡ outcome_by command other.teid → begun.teid ≡ other.teid
one_teid (Mark_end bearer) old begun other new left m n e = m.0 ∙ sym n.0
one_teid (Send_user bearer payload) old begun other new left m n e = m.0 ∙ sym n.0
one_teid command old begun other new left m n e = same_begun begun.teid other.teid e

module _ (old : GatewayState) (whole : IsSoundState old) (once : OneAnswerPerRequest old.node) (tied : NodeMatchesQueues old) where
  asks_one : (command : Command) (begun other : Begun) (new left : GatewayState) (m : IsCarriedOut command old begun new)
      (n : IsCarriedOut command old other left) → SendsRequestNext old begun new → SendsRequestNext old other left → m.effect ≡ n.effect
  asks_one command begun other new left m n next also =
      let both = step_done old.role old.node (Commanded command) (whole_fits old whole) once m.effect n.effect m.step n.step in
      let first = begun_waits old begun new tied next in
      let second = begun_waits old other left tied also in
      both.one (record {
        drawn = one_drawn m.effect.node n.effect.node (tied_draws new m.effect.node m.becomes next.tied) (tied_draws left n.effect.node n.becomes also.tied) both.tell.counter both.tell.draws;
        addresses = λ request reading is. absurd (not_control request reading is);
        identities = λ request reading is. absurd (not_control request reading is);
        wanted = λ request reading is. absurd (not_control request reading is);
        numbers = λ c is. waits_too old.node m.effect.node n.effect.node next.number also.number first.0 second.0
            (ap (λ (k : Node). k.pending) (sym m.becomes) ∙ first.1)
            (ap (λ (k : Node). k.pending) (sym n.becomes) ∙ second.1)
            (one_next old.queues.next old.queues.waiting next.number also.number next.free also.free);
      })
    where
      not_control : (request : Arrival) (reading : ControlReading) → Commanded command ≡ Control_came request reading → ⊥
      not_control request reading e = cc

  one_effect : (command : Command) (begun other : Begun) (new left : GatewayState) (m : MeetsCommand command old begun new) (n : MeetsCommand command old other left) → m.done.effect ≡ n.done.effect
  one_effect (Mark_end bearer) begun other new left m n = end_marked old.role bearer old.node m.done.effect n.done.effect m.done.step n.done.step
  one_effect (Send_user bearer payload) begun other new left m n = packet_sent old.role bearer old.node payload m.done.effect n.done.effect m.done.step n.done.step
  one_effect command begun other new left m n = asks_one command begun other new left m.done n.done m.next n.next

  pub begins_one : BeginsOne old
  begins_one command begun other new left m n =
      let same : m.done.effect ≡ n.done.effect = one_effect command begun other new left m n in
      let sent : (datagram_by begun.out ∷ []) ≡ (datagram_by other.out ∷ []) = m.done.sent.octets ∙ (ap (λ (k : Effect). map (datagram_of old.node.config) k.out.sent) same ∙ sym n.done.sent.octets) in
      let datagram : datagram_by begun.out ≡ datagram_by other.out = cc in
      record {
        sent = datagram;
        teid = one_teid command old begun other new left m.next n.next (same_outcome _ _ (sym m.done.outcome ∙ (ap (λ (k : Effect). k.outcome) same ∙ n.done.outcome)));
        leaves = one_left command old begun other new left (m.done.role ∙ sym n.done.role) (m.done.becomes ∙ (ap (λ (k : Effect). k.node) same ∙ sym n.done.becomes)) datagram m.next n.next;
      }

-- ---- a tick

pub ticks_one : (old : GatewayState) → AreDistinct old.queues.waiting → TicksOne old
ticks_one old apart ticked other new left m n =
    let both = one_tick old.node (due_in old.queues) m.passed.out n.passed.out new.node left.node m.passed.ticks n.passed.ticks in
    let tells = m.passed.tells in
    let also = n.passed.tells in
    record {
      resent = tells.sent.octets ∙ (ap (λ (o : Out). map (datagram_of old.node.config) o.sent) both.0 ∙ sym also.sent.octets);
      gave_up = tells.gave_up ∙ (ap (λ (o : Out). o.gave_up) both.0 ∙ sym also.gave_up);
      forgotten = tells.forgot ∙ (ap (λ (o : Out). o.forgot) both.0 ∙ sym also.forgot);
      leaves = left_ticked old new left apart (m.passed.role ∙ sym n.passed.role) both.1 m.counts n.counts;
    }
