-- What a datagram comes to is determined: also the two messages of a pair.
use Rattle.std.proofs.Common.{◌≡◌, ◌≢◌, ◌⊎◌, inl, inr, ℕ, List, map, Option, Some, None, option_map, refl, sym, ◌∙◌, ap, subst}
use Rattle.std.specs.FinMap.{get}
use mathlib.Core.Logic.{∥∥₁_elim, ∥∥₁_prop}
use Rattle.gtp_values.specs.FiniteMap.{Among}
use Rattle.gtp_values.specs.declared.address.Endpoint.{Endpoint}
use Rattle.gtp_tables.specs.Identity.{IsLowestUnused}
use Rattle.gtp_reliable.specs.Pending.{AreDistinct}
use Rattle.gtp_machine.specs.Message.{Control, User, CreateSessionResponse, CreateBearerRequest, Create_session_response, Create_bearer_request}
use Rattle.gtp_machine.specs.Node.{PendingRequest, Arrival, Node}
use Rattle.gtp_machine.specs.Input.{Came_to, Control_came, Out, Effect, Input, EventOutcome, Control_message}
use Rattle.gtp_machine.specs.Spelling.{datagram_of}
use Rattle.gtp_machine.specs.declared.outcome.Outcome.{Outcome}
use Rattle.gtp_machine.specs.Determined.{OneAnswerPerRequest}
use Rattle.gtp_machine.proofs.Basics.Finishing.{on_session_answered, on_hears}
use Rattle.gtp_machine.proofs.Basics.FiniteMaps.{get-insert_other, found-kept}
use Rattle.gtp_machine.proofs.Determined.Alike.{PickAlike, Alike}
use Rattle.gtp_machine.proofs.Determined.Steps.{step_done}
use Rattle.gtp_gateway.specs.declared.step.Step.{Step}
use Rattle.gtp_gateway.specs.receive.Choosing.{MakesLowestBearer, MakesLowest, ChoosesLowest}
use Rattle.gtp_machine.specs.Reading.{Both, datagram_reading}
use Rattle.gtp_machine.specs.Step.{Step as MachineStep, TakesPair}
use Rattle.gtp_machine.specs.Serving.{CreateSessionAnswered}
use Rattle.gtp_machine.specs.Answer.{Repeats}
use Rattle.gtp_machine.specs.Recovery.{Hears, peer_restarted}
use Rattle.gtp_machine.specs.Removal.{finished}
use Rattle.gtp_machine.specs.declared.role.Role.{Role}
use Rattle.gtp_machine.specs.declared.role.Role.TheVariants.{Serving, Packet}
use Rattle.gtp_machine.proofs.Changes.Shrinking.{Shrunk-finished}
use Rattle.gtp_machine.proofs.Requests.Opening.{IsMute, opening, same_drawn, same_held, none_made}
use Rattle.gtp_machine.proofs.Sound.Rows.{stays_sound}
use Rattle.gtp_machine.proofs.Sound.Reads.{pair_reads_whole}
use Rattle.std.proofs.lemmas.Grind.{merely}
use Rattle.gtp_gateway.specs.receive.Queues.{QueuesAfterMessage}
use Rattle.gtp_gateway.specs.receive.TwoMessages.{second_arrival, first_arrival}
use Rattle.gtp_gateway.specs.Determined.{packet_of, AreOneStep, ReceivesOne}
use Rattle.gtp_gateway.specs.Parts.{arrival_of}
use Rattle.gtp_gateway.specs.receive.Received.{IsReceived, AreReceived, QueuesAfterControl, first_comes, second_comes}
use Rattle.gtp_gateway.specs.GatewayState.{GatewayState, NodeMatchesQueues, IsSoundState}
use Rattle.gtp_gateway.proofs.ChosenOnce.{one_lowest_identity, lowest_identity, one_drawn}
use Rattle.gtp_gateway.proofs.LeftAlike.{left_goes}
use Rattle.gtp_gateway.proofs.Opened.{none_where}
use Rattle.gtp_gateway.proofs.Determined.Told.{is_made, same_heard, same_made, same_outcome, whole_fits}
use Rattle.gtp_gateway.proofs.Determined.Datagram.{tied_draws, one_step}

-- ---- a pair

-- a bearer that stands after a response stood before
finished_bearer : (old : Node) (number : ℕ) (p : PendingRequest) (t : ℕ) → get old.bearers t ≡ None → get (finished old number p).bearers t ≡ None
finished_bearer old number p t none = none_where (get (finished old number p).bearers t) (λ b is.
    let stood = (Shrunk-finished old number p.session p.bearer).shrinks.bearers t b is in
    let both : None ≡ Some stood.before = sym none ∙ stood.stood in
    cc)

answered_bearer : (a : CreateSessionResponse) (t : ℕ) (old : Node) (e : Effect) → get old.bearers t ≡ None → CreateSessionAnswered a old e → get e.node.bearers t ≡ None
answered_bearer a t old e none =
    on_session_answered old e (λ outcome is. ap (λ (x : Effect). get x.node.bearers t) is ∙ none) a
    (λ at outcome is. ap (λ (x : Effect). get x.node.bearers t) is ∙ finished_bearer old a.number at.pending t none)
    (λ at fits accepts new both r.
    let apart : t ≢ fits.request.context.user.teid = λ same. (let both : None ≡ Some r.default.bearer = sym none ∙ (ap (get old.bearers) same ∙ r.default.stands) in cc) in
    ap (λ (x : Effect). get x.node.bearers t) r.gives ∙ (get-insert_other old.bearers fits.request.context.user.teid _ t apart ∙ none))

restarted_bearer : (old : Node) (counter t : ℕ) → get old.bearers t ≡ None → get (peer_restarted old counter).bearers t ≡ None
restarted_bearer old counter t none = none_where (get (peer_restarted old counter).bearers t) (λ b is. let both : None ≡ Some b = sym none ∙ (found-kept _ old.bearers t b is).1 in cc)

heard_bearer : (a : CreateSessionResponse) (t : ℕ) (old : Node) (recovery : Option ℕ) (e : Effect) → get old.bearers t ≡ None
    → Hears (CreateSessionAnswered a) old recovery e → get e.node.bearers t ≡ None
heard_bearer a t old recovery e none =
    on_hears (λ x. get x.node.bearers t ≡ None) (CreateSessionAnswered a) old
    (λ x. answered_bearer a t old x none)
    (λ c x. answered_bearer a t (record old { known = Some c }) x none)
    (λ c x. answered_bearer a t (peer_restarted old c) x (restarted_bearer old c t none))
    (λ x outcome is. ap (λ (k : Effect). get k.node.bearers t) is ∙ none) (λ x heard learned so. so) recovery e

opening_bearer : (request : Arrival) (a : CreateSessionResponse) (old : Node) (e : Effect) (t : ℕ)
    → MachineStep Serving old (Control_came request (Control_message (Create_session_response a))) e → get old.bearers t ≡ None
    → get e.node.bearers t ≡ None
opening_bearer request a old e t (inl f) none = ap (λ (x : Effect). get x.node.bearers t) f.1 ∙ none
opening_bearer request a old e t (inr (peer, inl r)) none = ap (λ (x : Effect). get x.node.bearers t) r.gives ∙ none
opening_bearer request a old e t (inr (peer, inr (new, inl f))) none = ap (λ (x : Effect). get x.node.bearers t) f.1 ∙ none
opening_bearer request a old e t (inr (peer, inr (new, inr (kind, r)))) none = heard_bearer a t old a.recovery e none r

module _ (arrival : Arrival) (old : GatewayState) (whole : IsSoundState old) (once : OneAnswerPerRequest old.node)
    (apart : AreDistinct old.queues.waiting) (serving : old.role ≡ Serving) (a : CreateSessionResponse) (q : CreateBearerRequest) (step other : Step)
    (new left : GatewayState)
    (m : AreReceived arrival a q old step new) (n : AreReceived arrival a q old other left)
    (goes : QueuesAfterMessage (second_arrival arrival) old new) (also_goes : QueuesAfterMessage (second_arrival arrival) old left)
    (between : IsSoundState (record old { node = m.first.node })) (chooses : ChoosesLowest step.report.made old.role old.node new.node)
    (also_chooses : ChoosesLowest other.report.made old.role old.node left.node) where
  abbrev first_input : Input
  first_input = first_comes arrival a

  abbrev second_input : Input
  second_input = second_comes arrival q

  opened : (e : Effect) → MachineStep old.role old.node first_input e → IsMute old.node e ⊎ Repeats old.node (first_arrival arrival) e
  opened e takes = opening (first_arrival arrival) a old.node e (subst (λ (r : Role). MachineStep r old.node first_input e) serving takes)

  not_packet : old.role ≡ Packet → ⊥
  not_packet is = let both : Serving ≡ Packet = sym serving ∙ is in cc

  one_first : m.first ≡ n.first
  one_first = (step_done old.role old.node first_input (whole_fits old whole) once m.first n.first m.takes n.takes).one (record {
    drawn = same_drawn old.node _ m.first (opened m.first m.takes) ∙ sym (same_drawn old.node _ n.first (opened n.first n.takes));
    addresses = λ x reading is packet. absurd (not_packet packet);
    identities = λ x reading is by made. absurd (made (none_made old.node _ m.first (opened m.first m.takes)));
    numbers = λ command is. absurd (cc is);
    wanted = λ x reading is packet. absurd (not_packet packet);
  })

  abbrev mid : Node
  mid = m.first.node

  mid_once : OneAnswerPerRequest mid
  mid_once = record { once = λ g h g_in h_in. once.once g h (subst (Among g) held g_in) (subst (Among h) held h_in) }
    where
      held : mid.held ≡ old.node.held
      held = same_held old.node _ m.first (opened m.first m.takes)

  follows_too : MachineStep old.role mid second_input n.second
  follows_too = subst (λ (k : Effect). MachineStep old.role k.node second_input n.second) (sym one_first) n.follows

  both_second : Alike old.role mid second_input m.second n.second
  both_second = step_done old.role mid second_input (whole_fits (record old { node = mid }) between) mid_once m.second n.second m.follows follows_too

  lowest_then : (k : GatewayState) (e : Effect) → k.node ≡ e.node → MakesLowestBearer old.node k.node → MakesLowestBearer mid e.node
  lowest_then k e becomes makes =
      let there = subst (λ (x : Node). MakesLowestBearer old.node x) becomes makes in
      record {
        teid = there.teid;
        bearer = there.bearer;
        others = there.others;
        identity = there.identity;
        bearers = there.bearers;
        beside = there.beside;
        before = opening_bearer (first_arrival arrival) a old.node m.first there.teid (subst (λ (r : Role). MachineStep r old.node first_input m.first) serving m.takes) there.before;
        has = there.has;
        lowest = there.lowest;
      }

  picked_second : PickAlike old.role mid second_input m.second n.second
  picked_second = record {
    drawn =
        one_drawn m.second.node n.second.node (tied_draws new m.second.node m.becomes goes.tied)
        (tied_draws left n.second.node n.becomes also_goes.tied) both_second.tell.counter both_second.tell.draws;
    addresses = λ x reading is packet. absurd (not_packet packet);
    identities = λ x reading is by made others t b c one two session.
        let first =
        lowest_identity mid m.second.node others t b (lowest_then new m.second m.becomes (subst (λ r. MakesLowest r old.node new.node) serving
        (chooses (is_made (second_arrival arrival) step.report.made m.second.out.made m.tells.made made)))) one in
        let second =
        lowest_identity mid n.second.node others t c (lowest_then left n.second n.becomes (subst (λ r. MakesLowest r old.node left.node) serving
        (also_chooses (is_made (second_arrival arrival) other.report.made n.second.out.made n.tells.made
        (λ none. made (ap (λ (o : Out). o.made) both_second.tell.told ∙ none)))))) two in
        first.1 ∙ (ap (λ k. Some k) (one_lowest_identity others b.session first.0 second.0 first.2 (subst (λ k. IsLowestUnused others k second.0) (sym session) second.2)) ∙ sym second.1);
    numbers = λ command is. absurd (cc is);
    wanted = λ x reading is packet. absurd (not_packet packet);
  }

  same_second : (x y : Option Outcome) (e : EventOutcome) → option_map Came_to x ≡ Some e → option_map Came_to y ≡ Some e → x ≡ y
  same_second None None e is also = refl
  same_second None (Some y) e is also = absurd (cc is)
  same_second (Some x) None e is also = absurd (cc also)
  same_second (Some x) (Some y) e is also = let same : Came_to x ≡ Came_to y = cc in ap (λ o. Some o) (same_outcome x y same)

  pub one_pair : AreOneStep step other new left
  one_pair =
      let same : m.second ≡ n.second = both_second.one picked_second in
      let tells = m.tells in
      let also = n.tells in
      let outcome : step.report.outcome ≡ other.report.outcome =
      same_outcome step.report.outcome other.report.outcome (tells.outcome ∙ (ap (λ (k : Effect). k.outcome) one_first ∙ sym also.outcome)) in
      let second : step.report.second ≡ other.report.second = same_second step.report.second other.report.second n.second.outcome (tells.next ∙ ap (λ (k : Effect). Some k.outcome) same) also.next in
      let heard : step.report.heard ≡ other.report.heard = same_heard step.report.heard other.report.heard (tells.heard ∙ (ap (λ (k : Effect). k.out.heard) one_first ∙ sym also.heard)) in
      let restart : step.report.restart ≡ other.report.restart =
      same_heard step.report.restart other.report.restart (tells.restart ∙ (ap (λ (k : Effect). k.out.learned) one_first ∙ sym also.restart)) in
      let made : step.report.made ≡ other.report.made = same_made (second_arrival arrival) step.report.made other.report.made (tells.made ∙ (ap (λ (k : Effect). k.out.made) same ∙ sym also.made)) in
      record {
        sent = tells.sent.octets ∙ (ap (λ (k : Effect). map (datagram_of old.node.config) k.out.sent) same ∙ sym also.sent.octets);
        report = λ i. record { outcome = outcome i; second = second i; heard = heard i; restart = restart i; made = made i };
        accepted = ap packet_of tells.accepted ∙ sym (ap packet_of also.accepted);
        leaves = left_goes (second_arrival arrival) old new left apart (m.role ∙ sym n.role) (m.becomes ∙ (ap (λ (k : Effect). k.node) same ∙ sym n.becomes)) goes also_goes;
      }

one_of_both : (a b : CreateSessionResponse) (q r : CreateBearerRequest)
    → Both (Create_session_response a) (Create_bearer_request q) ≡ Both (Create_session_response b) (Create_bearer_request r) → (a ≡ b) × (q ≡ r)
one_of_both a b q r is = (cc is, cc is)

between_sound : (arrival : Arrival) (old : GatewayState) → IsSoundState old
    → (pair : TakesPair old.role old.node.config arrival (datagram_reading arrival.octets)) → (e : Effect)
    → MachineStep old.role old.node (first_comes arrival pair.answer) e → IsSoundState (record old { node = e.node })
between_sound arrival old whole pair e takes =
    ∥∥₁_elim whole ∥∥₁_prop (λ before. merely (stays_sound old.role old.node (first_comes arrival pair.answer) e before
    (pair_reads_whole arrival.octets (Create_session_response pair.answer) (Create_bearer_request pair.asked) (sym pair.is)).0 takes))

-- a datagram of the control plane: as a whole, or message by message
control_one : (source : Endpoint) (octets : List ℕ) (old : GatewayState) → IsSoundState old → OneAnswerPerRequest old.node → NodeMatchesQueues old
    → AreDistinct old.queues.waiting → (step other : Step) (new left : GatewayState) → IsReceived Control source octets old step new
    → QueuesAfterControl (arrival_of source octets) old new → ChoosesLowest step.report.made old.role old.node new.node
    → IsReceived Control source octets old other left → QueuesAfterControl (arrival_of source octets) old left
    → ChoosesLowest other.report.made old.role old.node left.node → AreOneStep step other new left
control_one source octets old whole once tied apart step other new left (inl m) (inl goes) chooses (inl n) (inl also) too =
    one_step Control source octets old whole once tied apart step other new left (record { received = m.1; queues = goes.1; choices = chooses })
    (record { received = n.1; queues = also.1; choices = too })
control_one source octets old whole once tied apart step other new left (inr (pair, m)) (inr (x, goes)) chooses (inr (given, n)) (inr (y, also)) too =
    let same = one_of_both given.answer pair.answer given.asked pair.asked (sym given.is ∙ pair.is) in
    one_pair (arrival_of source octets) old whole once apart pair.by pair.answer pair.asked step other new left m
    (subst (λ (a : CreateSessionResponse). AreReceived (arrival_of source octets) a pair.asked old other left) same.0
    (subst (λ (q : CreateBearerRequest). AreReceived (arrival_of source octets) given.answer q old other left) same.1 n))
    goes also (between_sound (arrival_of source octets) old whole pair m.first m.takes) chooses too
control_one source octets old whole once tied apart step other new left (inl m) (inr goes) chooses n also too = absurd (m.0 goes.0)
control_one source octets old whole once tied apart step other new left (inr m) (inl goes) chooses n also too = absurd (goes.0 m.0)
control_one source octets old whole once tied apart step other new left (inl m) (inl goes) chooses (inr n) also too = absurd (m.0 n.0)
control_one source octets old whole once tied apart step other new left (inl m) (inl goes) chooses (inl n) (inr also) too = absurd (m.0 also.0)
control_one source octets old whole once tied apart step other new left (inr m) (inr goes) chooses (inl n) also too = absurd (n.0 m.0)
control_one source octets old whole once tied apart step other new left (inr m) (inr goes) chooses (inr n) (inl also) too = absurd (also.0 n.0)

pub receives_one : (old : GatewayState) → IsSoundState old → OneAnswerPerRequest old.node → NodeMatchesQueues old → AreDistinct old.queues.waiting → ReceivesOne old
receives_one old whole once tied apart Control source octets step other new left m n =
    control_one source octets old whole once tied apart step other new left m.received m.queues m.choices n.received n.queues n.choices
receives_one old whole once tied apart User source octets step other new left m n =
    one_step User source octets old whole once tied apart step other new left
    (record { received = m.received; queues = m.queues; choices = m.choices })
    (record { received = n.received; queues = n.queues; choices = n.choices })
