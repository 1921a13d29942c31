-- What a datagram that is taken as a whole comes to is determined.
use Rattle.std.proofs.Common.{◌≡◌, ◌≢◌, ℕ, List, [], length, map, Some, sym, ◌∙◌, ap, subst}
use Rattle.gtp_values.specs.FiniteMap.{FiniteMap}
use Rattle.gtp_values.specs.declared.address.Endpoint.{Endpoint}
use Rattle.gtp_tables.specs.Drawn.{drawn_up_to}
use Rattle.gtp_tables.specs.Identity.{IsLowestUnused}
use Rattle.gtp_reliable.specs.Pending.{AreDistinct}
use Rattle.gtp_machine.specs.Message.{Plane, Control, User}
use Rattle.gtp_machine.specs.Node.{PendingRequest, Arrival, Node}
use Rattle.gtp_machine.specs.Input.{Command, Commanded, Control_came, ControlReading, Out, Effect}
use Rattle.gtp_machine.specs.Spelling.{datagram_of}
use Rattle.gtp_machine.specs.Determined.{OneAnswerPerRequest}
use Rattle.gtp_machine.proofs.Determined.Alike.{WaitsBeside, PickAlike, Alike}
use Rattle.gtp_machine.proofs.Determined.Steps.{step_done}
use Rattle.gtp_gateway.specs.declared.step.Step.{Step}
use Rattle.gtp_gateway.specs.receive.Choosing.{MakesLowestSession, MakesLowestBearer, MakesLowest, ChoosesLowest}
use Rattle.gtp_gateway.specs.Determined.{AreOneStep}
use Rattle.gtp_gateway.specs.Parts.{arrival_of}
use Rattle.gtp_gateway.specs.receive.Received.{coming, IsReceivedOnce}
use Rattle.gtp_gateway.specs.GatewayState.{GatewayState, NodeMatchesQueues, IsSoundState}
use Rattle.gtp_gateway.specs.user.Receive.{AreEntries}
use Rattle.gtp_gateway.proofs.ChosenOnce.{one_lowest_address, one_lowest_identity, lowest_address, lowest_identity, one_drawn}
use Rattle.gtp_gateway.proofs.LeftAlike.{KeepsOnce, number_begun, left_by}
use Rattle.gtp_gateway.proofs.Determined.Told.{is_made, same_heard, same_made, same_outcome, same_packet, whole_fits}

-- ---- a datagram

-- the clauses hold of a datagram that was received as a whole
pub record MeetsOnce (plane : Plane) (source : Endpoint) (octets : List ℕ) (old : GatewayState) (step : Step) (new : GatewayState) : Type 0 where
  pub received : IsReceivedOnce plane source octets old step new
  pub queues : KeepsOnce plane source octets step old new
  pub choices : ChoosesLowest step.report.made old.role old.node new.node

keeps_tied : (plane : Plane) (source : Endpoint) (octets : List ℕ) (step : Step) (old new : GatewayState) → KeepsOnce plane source octets step old new → NodeMatchesQueues new
keeps_tied Control source octets step old new goes = goes.tied
keeps_tied User source octets step old new keeps = keeps.2

no_command : (plane : Plane) (source : Endpoint) (octets : List ℕ) (command : Command) → coming plane source octets ≡ Commanded command → ⊥
no_command Control source octets command e = cc
no_command User source octets command e = cc

pub tied_draws : (new : GatewayState) (node : Node) → new.node ≡ node → NodeMatchesQueues new → node.drawn ≡ drawn_up_to node.counter (length node.drawn)
tied_draws new node is tied = subst (λ (k : Node). k.drawn ≡ drawn_up_to k.counter (length k.drawn)) is tied.drawn

-- the requests for bearers that two answers begin have one number
number_wanted : (plane : Plane) (source : Endpoint) (octets : List ℕ) (old : GatewayState) → IsSoundState old → NodeMatchesQueues old
    → AreDistinct old.queues.waiting → (step other : Step) (new left : GatewayState) → KeepsOnce plane source octets step old new
    → KeepsOnce plane source octets other old left → (request : Arrival) (reading : ControlReading)
    → coming plane source octets ≡ Control_came request reading → (others : FiniteMap PendingRequest) (m n : ℕ) (p q : PendingRequest)
    → WaitsBeside old.node.drawn new.node.pending others m p → WaitsBeside old.node.drawn left.node.pending others n q → m ≡ n
number_wanted Control source octets old whole tied apart step other new left goes also request reading is others m n p q waits too =
    number_begun old whole tied apart (arrival_of source octets) new left others m n p q goes also waits too
number_wanted User source octets old whole tied apart step other new left goes also request reading is others m n p q waits too = absurd cc

module _ (plane : Plane) (source : Endpoint) (octets : List ℕ) (old : GatewayState) (whole : IsSoundState old)
    (once : OneAnswerPerRequest old.node) (tied : NodeMatchesQueues old) (apart : AreDistinct old.queues.waiting) where
  module _ (step other : Step) (new left : GatewayState) (m : MeetsOnce plane source octets old step new) (n : MeetsOnce plane source octets old other left) where
    abbrev e : Effect
    e = m.received.effect

    abbrev f : Effect
    f = n.received.effect

    both : Alike old.role old.node (coming plane source octets) e f
    both = step_done old.role old.node (coming plane source octets) (whole_fits old whole) once e f m.received.takes n.received.takes

    picked : PickAlike old.role old.node (coming plane source octets) e f
    picked = record {
      drawn = one_drawn e.node f.node
          (tied_draws new e.node m.received.becomes (keeps_tied plane source octets step old new m.queues))
          (tied_draws left f.node n.received.becomes (keeps_tied plane source octets other old left n.queues))
          both.tell.counter both.tell.draws;
      addresses = λ request reading is packet made others t a b x y version p q in_one in_other.
          let first =
          lowest_address old.node e.node others t a
          (subst (λ k. MakesLowestSession old.node k) m.received.becomes (subst (λ r. MakesLowest r old.node new.node) packet (made_lowest made))) x
          version p in_one in
          let second =
          lowest_address old.node f.node others t b
          (subst (λ k. MakesLowestSession old.node k) n.received.becomes (subst (λ r. MakesLowest r old.node left.node) packet (also_lowest made))) y
          version q in_other in
          one_lowest_address version others old.node.config.pools p q first second;
      identities = λ request reading is serving made others t a b x y session.
          let first =
          lowest_identity old.node e.node others t a
          (subst (λ k. MakesLowestBearer old.node k) m.received.becomes (subst (λ r. MakesLowest r old.node new.node) serving (made_lowest made))) x in
          let second =
          lowest_identity old.node f.node others t b
          (subst (λ k. MakesLowestBearer old.node k) n.received.becomes (subst (λ r. MakesLowest r old.node left.node) serving (also_lowest made))) y in
          first.1 ∙ (ap (λ k. Some k) (one_lowest_identity others a.session first.0 second.0 first.2 (subst (λ k. IsLowestUnused others k second.0) (sym session) second.2)) ∙ sym second.1);
      numbers = λ command is. absurd (no_command plane source octets command is);
      wanted = λ request reading is packet made others number another p q waits too.
          number_wanted plane source octets old whole tied apart step other new left m.queues n.queues request reading is others number another p q
          (subst (λ (k : Node). WaitsBeside old.node.drawn k.pending others number p) (sym m.received.becomes) waits)
          (subst (λ (k : Node). WaitsBeside old.node.drawn k.pending others another q) (sym n.received.becomes) too);
    }
      where
        made_lowest : e.out.made ≢ [] → MakesLowest old.role old.node new.node
        made_lowest made = m.choices (is_made (arrival_of source octets) step.report.made e.out.made m.received.tells.made made)

        also_lowest : e.out.made ≢ [] → MakesLowest old.role old.node left.node
        also_lowest made = n.choices (is_made (arrival_of source octets) other.report.made f.out.made n.received.tells.made (λ none. made (ap (λ (o : Out). o.made) both.tell.told ∙ none)))

    pub one_step : AreOneStep step other new left
    one_step =
        let same : e ≡ f = both.one picked in
        let tells = m.received.tells in
        let also = n.received.tells in
        let outcome : step.report.outcome ≡ other.report.outcome = same_outcome step.report.outcome other.report.outcome (tells.outcome ∙ (ap (λ (k : Effect). k.outcome) same ∙ sym also.outcome)) in
        let heard : step.report.heard ≡ other.report.heard = same_heard step.report.heard other.report.heard (tells.heard ∙ (ap (λ (k : Effect). k.out.heard) same ∙ sym also.heard)) in
        let restart : step.report.restart ≡ other.report.restart = same_heard step.report.restart other.report.restart (tells.restart ∙ (ap (λ (k : Effect). k.out.learned) same ∙ sym also.restart)) in
        let made : step.report.made ≡ other.report.made =
        same_made (arrival_of source octets) step.report.made other.report.made (tells.made ∙ (ap (λ (k : Effect). k.out.made) same ∙ sym also.made)) in
        record {
          sent = tells.sent.octets ∙ (ap (λ (k : Effect). map (datagram_of old.node.config) k.out.sent) same ∙ sym also.sent.octets);
          report = λ i. record { outcome = outcome i; second = (tells.alone ∙ sym also.alone) i; heard = heard i; restart = restart i; made = made i };
          accepted =
              same_packet old.node step.accepted other.accepted f.out.accepted
              (subst (λ k. AreEntries old.node step.accepted k) (ap (λ (k : Effect). k.out.accepted) same) tells.accepted) also.accepted;
          leaves =
              left_by plane source octets step other old new left apart (m.received.role ∙ sym n.received.role)
              (m.received.becomes ∙ (ap (λ (k : Effect). k.node) same ∙ sym n.received.becomes)) m.queues n.queues;
        }
